use Rattle.std.proofs.Common.{◌≡◌, ap, get_or}
use Rattle.syntect_pattern_plan.specs.syntect_pattern.Trees.{nothing}
use Rattle.syntect_pattern_plan.specs.declared.plan.Plan.{Plan}
use Rattle.syntect_pattern_plan.proofs.MakesLaws.{beside-group}
use Rattle.syntect_pattern_plan.proofs.plan.Plan.beside_group.Goals as goal

pub returns-clause-step : goal.returns-clause-step
returns-clause-step c = λ ts g n facts b l s.
    let old = c.args.self.now in
    let new = c.push_beside.new.self in
    let bs : new.behinds ≡ old.behinds = ap (λ (p : Plan). p.behinds) c.in_ok-first.ensures.others in
    rw bs
    (beside-group ts old.cells old.behinds c.args.empty g c.args.parts b l new.cells n (get_or ts c.args.body nothing) c.in_ok-first.first
    (λ e n b l p. c.in_ok-first.ensures.cell ts e n facts b l p)
    s)
