use Rattle.std.proofs.Common.{◌∙◌}
use Rattle.std.proofs.lemmas.Str.{IsUtf8-past_char}
use Rattle.syntect_pattern_words.proofs.PartLaws.{rest-more, drop-more}
use Rattle.syntect_pattern_words.proofs.text.behind.Goals as goal

pub letters-preserved : goal.letters-preserved
letters-preserved c = record {
  utf8 = IsUtf8-past_char c.letters.rest.now c.in-Some.more.now c.in-Some.field-0-0 c.letters.invariant.utf8 c.in-Some.ensures.whole;
  rest = rest-more c.args.text.now c.letters.rest.now c.in-Some.more.now c.in-Some.field-0-0 c.letters.invariant.rest c.in-Some.ensures;
  value = drop-more c.letters.rest.now c.in-Some.more.now c.in-Some.field-0-0 c.letters.left c.letters-test.true c.in-Some.ensures ∙ c.letters.invariant.value;
}
