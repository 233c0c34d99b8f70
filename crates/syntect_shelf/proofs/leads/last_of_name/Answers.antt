use Rattle.std.proofs.Common.{◌==◌, ◌∙◌, sym, ap}
use Rattle.std.specs.Cmp.Lexicographic.{pointwise}
use Rattle.syntect_shelf.proofs.UnreadLaws.{chosen, last_next}
use Rattle.syntect_shelf.proofs.leads.last_of_name.Goals as goal

pub loop-place-preserved : goal.loop-place-preserved
loop-place-preserved c =
    chosen _ _ _ _ _ _ c.last_one-found.ensures (c.eq.ensures ∙ ap (λ s. pointwise ◌==◌ s c.args.name.now) c.as_str.ensures) c.loop-place.invariant
    ∙ sym (last_next (λ d. pointwise ◌==◌ d.name c.args.name.now) c.args.definitions.now c.loop-place.place c.index-definitions-place.result c.loop-place-test.true c.index-definitions-place.is)
