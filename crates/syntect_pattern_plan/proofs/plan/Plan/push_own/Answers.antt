use Rattle.syntect_pattern_plan.proofs.BuildLaws.{ok-both, adds-own}
use Rattle.syntect_pattern_plan.proofs.plan.Plan.push_own.Goals as goal

pub returns-clause-cell : goal.returns-clause-cell
returns-clause-cell c =
    ok-both c.push.result _ _ _
    (λ k number cells ts b l f. adds-own ts c.args.self.now.cells c.push.new.self.cells c.args.node c.args.next k number cells b l f)
    c.push.ensures.number c.push.ensures.cells
