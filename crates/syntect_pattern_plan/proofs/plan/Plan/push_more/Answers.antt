use Rattle.std.proofs.Common.{sym, ◌∙◌}
use Rattle.syntect_pattern_plan.proofs.BuildLaws.{ok-both, more-adds}
use Rattle.syntect_pattern_plan.proofs.plan.Plan.push_more.Goals as goal

pub returns-clause-cell : goal.returns-clause-cell
returns-clause-cell c =
    ok-both c.push.result _ _ _
    (λ k number cells ts b h some.
    more-adds ts c.args.self.now.cells c.push.new.self.cells c.args.number c.args.next c.args.greedy c.args.least c.args.most c.args.body k c.turn_source.result
    c.saturating_sub.result c.one_less.result (sym c.stays_same.ensures ∙ c.if-stays_same.false) some c.turn_source.ensures c.saturating_sub.ensures c.one_less.ensures
    number cells b h)
    c.push.ensures.number c.push.ensures.cells
