use Rattle.std.proofs.Common.{sym, ◌∙◌, replicate, None}
use Rattle.syntect_pattern_backtrack.proofs.FindLaws.{found_at-lost, found_at-between}
use Rattle.syntect_pattern_backtrack.proofs.engine.is_lost_there.Goals as goal

pub returns-then-not-is_boundary-clause-lost : goal.returns-then-not-is_boundary-clause-lost
returns-then-not-is_boundary-clause-lost c = λ e tree is. sym (found_at-between c.args.text.now tree c.args.place (sym c.is_boundary.ensures.value ∙ c.if-not-is_boundary.true))

pub returns-clause-lost : goal.returns-clause-lost
returns-clause-lost c = λ e tree is.
    found_at-lost c.args.text.now c.args.program.now tree is c.args.place (sym c.is_boundary.ensures.value ∙ c.if-not-is_boundary.false)
    (c.fails_at_once.ensures e (replicate c.args.program.now.groups None))
