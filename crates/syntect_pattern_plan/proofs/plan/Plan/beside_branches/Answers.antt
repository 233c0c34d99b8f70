use Rattle.std.proofs.Common.{◌≡◌, List, ap, subst, sym, ◌∙◌, get_or}
use Rattle.syntect_pattern_plan.specs.syntect_pattern.Trees.{nothing}
use Rattle.syntect_pattern_plan.specs.Facts.{AreFacts}
use Rattle.syntect_pattern_plan.specs.declared.facts.Facts.{Facts}
use Rattle.syntect_pattern_plan.specs.declared.plan.Plan.{Plan}
use Rattle.syntect_pattern_plan.proofs.MakesLaws.{beside-alt}
use Rattle.syntect_pattern_plan.proofs.plan.Plan.beside_branches.Goals as goal

pub returns-clause-step : goal.returns-clause-step
returns-clause-step c = λ ts g facts b l s.
    let old = c.args.self.now in
    let mid = c.push_beside.new.self in
    let new = c.push_beside-2.new.self in
    let same : mid.facts ≡ old.facts = ap (λ (p : Plan). p.facts) c.in_ok-first.ensures.others in
    let bs : new.behinds ≡ old.behinds = ap (λ (p : Plan). p.behinds) c.in_ok-second.ensures.others ∙ ap (λ (p : Plan). p.behinds) c.in_ok-first.ensures.others in
    let facts' : AreFacts mid.facts ts = subst (λ (fs : List Facts). AreFacts fs ts) (sym same) facts in
    rw bs
    (beside-alt ts old.cells old.behinds c.args.empty g c.args.parts b l mid.cells new.cells (get_or ts c.args.first nothing) (get_or ts c.args.second nothing)
    c.in_ok-first.first c.in_ok-second.second
    (λ e n b l p. c.in_ok-first.ensures.cell ts e n facts b l p)
    (λ e n b l p. c.in_ok-second.ensures.cell ts e n facts' b l p)
    s)
