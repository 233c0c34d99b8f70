use Rattle.std.proofs.Common.{◌≡◌, ap, ◌∙◌, Some, ℕ, Option, false, true, eqb, get_or}
use Rattle.std.specs.Option.{option_eq}
use Rattle.syntect_pattern_plan.specs.syntect_pattern.Trees.{nothing}
use Rattle.syntect_pattern_plan.specs.declared.plan.Plan.{Plan}
use Rattle.syntect_pattern_plan.proofs.MakesLaws.{beside-turns}
use Rattle.syntect_pattern_plan.proofs.plan.Plan.beside_turns.Goals as goal

pub returns-clause-step : goal.returns-clause-step
returns-clause-step c = λ ts g least greedy facts b l s.
    let old = c.args.self.now in
    let new = c.push_beside.new.self in
    let bs : new.behinds ≡ old.behinds = ap (λ (p : Plan). p.behinds) c.in_ok-first.ensures.others in
    let some : c.args.most ≡ Some 0 → ⊥ = λ e. let z : false ≡ true = c.if-eq.ensures ∙ ap (λ (o : Option ℕ). option_eq eqb o (Some 0)) e in cc in
    rw bs
    (beside-turns ts old.cells old.behinds c.args.empty g c.args.parts b l new.cells greedy least c.args.most (get_or ts c.args.body nothing) c.in_ok-first.first some
    (λ e n b l p. c.in_ok-first.ensures.cell ts e n facts b l p)
    s)
