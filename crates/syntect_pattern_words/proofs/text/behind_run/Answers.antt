use Rattle.std.proofs.Common.{◌∙◌, sym}
use Rattle.std.proofs.lemmas.Str.{IsUtf8-past_char}
use Rattle.std.specs.Prelude.{chars}
use Rattle.syntect_pattern_words.specs.Views.{passes}
use Rattle.syntect_pattern_words.proofs.PartLaws.{rest-more, run-over, run-ends, run-on}
use Rattle.syntect_pattern_words.proofs.text.behind_run.Goals as goal

pub returns-in_default-clause-value : goal.returns-in_default-clause-value
returns-in_default-clause-value c = c.letters.invariant.value ∙ run-over (passes c.args.test) (chars c.letters.rest.now) c.in_default.ensures

pub returns-then-not-passes-clause-value : goal.returns-then-not-passes-clause-value
returns-then-not-passes-clause-value c =
    c.letters.invariant.value ∙ run-ends (passes c.args.test) c.letters.rest.now c.in-Some.more.now c.in-Some.c c.in-Some.ensures (sym c.passes.ensures ∙ c.if-not-passes.true)

pub letters-preserved : goal.letters-preserved
letters-preserved c = record {
  utf8 = IsUtf8-past_char c.letters.rest.now c.in-Some.more.now c.in-Some.c c.letters.invariant.utf8 c.in-Some.ensures.whole;
  rest = rest-more c.args.text.now c.letters.rest.now c.in-Some.more.now c.in-Some.c c.letters.invariant.rest c.in-Some.ensures;
  value = c.letters.invariant.value ∙ run-on (passes c.args.test) c.letters.rest.now c.in-Some.more.now c.in-Some.c c.in-Some.ensures (sym c.passes.ensures ∙ c.if-not-passes.false);
}
