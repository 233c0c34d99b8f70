use Rattle.std.proofs.Common.{Some, Option, ℕ, List, refl, sym, ◌∙◌, ap}
use Rattle.std.specs.Prelude.{slice_get}
use Rattle.std.proofs.lemmas.Option.{slice_get_read}
use Rattle.syntect_pattern_steps.proofs.TextLaws.{same_text-falls, same_text-stands}
use Rattle.syntect_pattern_backtrack.proofs.state.Search.past_group.Goals as goal

pub returns-then-from-to-clause-value : goal.returns-then-from-to-clause-value
returns-then-from-to-clause-value c =
    same_text-falls c.args.text.now c.args.fold _ c.in_ok-from.from c.in_ok-from.to c.args.self.now.place (ap (λ (xs : List (Option (ℕ × ℕ))). slice_get xs c.args.group) (sym c.deref.ensures.value)
    ∙ slice_get_read c.deref.result.now _ c.args.group c.in_ok-get.field-0.now refl c.in_ok-get.ensures.lookup.3.0 c.in_ok-get.ensures.lookup.1 ∙ ap Some c.in_ok-from.was) c.if-from-to.true

pub returns-clause-value : goal.returns-clause-value
returns-clause-value c = λ g.
    same_text-stands c.args.text.now c.args.fold _ c.in_ok-from.from c.in_ok-from.to c.args.self.now.place c.range.result.now (ap (λ (xs : List (Option (ℕ × ℕ))). slice_get xs c.args.group) (sym c.deref.ensures.value)
    ∙ slice_get_read c.deref.result.now _ c.args.group c.in_ok-get.field-0.now refl c.in_ok-get.ensures.lookup.3.0 c.in_ok-get.ensures.lookup.1 ∙ ap Some c.in_ok-from.was) c.range.ensures.value g
    ∙ c.past_text.ensures.value g
