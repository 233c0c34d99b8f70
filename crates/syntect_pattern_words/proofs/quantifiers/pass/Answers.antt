use Rattle.std.proofs.Common.{◌∙◌, ap, sym, length, arith, rules}
use Rattle.std.specs.Prelude.{option_map, chars}
use Rattle.syntect_pattern.specs.Reading.{pass}
use Rattle.syntect_pattern_words.specs.QuantifierViews.{passing_as, goes_on}
use Rattle.syntect_pattern_words.proofs.PassLaws.{first-shorter, pass-goes, pass-stops, pass-note_end, pass-between_end, pass-comment_end}
use Rattle.syntect_pattern_words.proofs.PartLaws.{begins-first, begins-after, none-first}
use Rattle.syntect_pattern_words.proofs.quantifiers.pass.Goals as goal

pub returns-in-Note : goal.returns-in-Note
returns-in-Note c = c.passes.invariant.value ∙ ap (λ p. pass c.args.spaced (passing_as p) (chars c.passes.text.now)) c.in-Note.is ∙ pass-note_end c.args.spaced (chars c.passes.text.now) (none-first (chars c.passes.text.now) c.in_default.ensures)

pub returns-in-Comment : goal.returns-in-Comment
returns-in-Comment c = c.passes.invariant.value ∙ ap (λ p. pass c.args.spaced (passing_as p) (chars c.passes.text.now)) c.in-Comment.is ∙ pass-comment_end c.args.spaced (chars c.passes.text.now) (none-first (chars c.passes.text.now) c.in_default.ensures)

pub returns-in-Between : goal.returns-in-Between
returns-in-Between c = c.passes.invariant.value ∙ ap (λ p. pass c.args.spaced (passing_as p) (chars c.passes.text.now)) c.in-Between.is ∙ pass-between_end c.args.spaced (chars c.passes.text.now) (none-first (chars c.passes.text.now) c.in_default.ensures)

pub returns-in_default-go_on : goal.returns-in_default-go_on
returns-in_default-go_on c =
    c.passes.invariant.value
    ∙ pass-stops c.args.spaced (passing_as c.passes.passing) (chars c.passes.text.now) c.in-Some.c (begins-first c.passes.text.now c.in-Some.rest.now c.in-Some.c c.in-Some.ensures)
    (ap (goes_on c.args.spaced (passing_as c.passes.passing) c.in-Some.c) (sym (begins-after c.passes.text.now c.in-Some.rest.now c.in-Some.c c.in-Some.ensures)) ∙ c.go_on.ensures ∙ ap (option_map passing_as) c.in_default-go_on.is)

pub passes-smaller : goal.passes-smaller
passes-smaller c = let l = first-shorter (chars c.passes.text.now) c.in-Some.c (begins-first c.passes.text.now c.in-Some.rest.now c.in-Some.c c.in-Some.ensures) in let e = ap length (begins-after c.passes.text.now c.in-Some.rest.now c.in-Some.c c.in-Some.ensures) in omega (arith, e, l)

pub passes-preserved : goal.passes-preserved
passes-preserved c = record {
  utf8 = search rules;
  value =
      c.passes.invariant.value
      ∙ pass-goes c.args.spaced (passing_as c.passes.passing) (passing_as c.in-Some-go_on.next) (chars c.passes.text.now) c.in-Some.c (begins-first c.passes.text.now c.in-Some.rest.now c.in-Some.c c.in-Some.ensures)
      (ap (goes_on c.args.spaced (passing_as c.passes.passing) c.in-Some.c) (sym (begins-after c.passes.text.now c.in-Some.rest.now c.in-Some.c c.in-Some.ensures)) ∙ c.go_on.ensures ∙ ap (option_map passing_as) c.in-Some-go_on.is)
      ∙ ap (pass c.args.spaced (passing_as c.in-Some-go_on.next)) (sym (begins-after c.passes.text.now c.in-Some.rest.now c.in-Some.c c.in-Some.ensures));
}
