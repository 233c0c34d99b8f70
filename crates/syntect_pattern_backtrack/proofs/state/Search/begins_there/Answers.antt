use Rattle.std.proofs.Common.{◌≡◌, Bool, get_or, replicate, None}
use Rattle.std.specs.Prelude.{slice_get}
use Rattle.syntect_pattern_backtrack.specs.syntect_pattern.Trees.{nothing}
use Rattle.syntect_pattern_backtrack.specs.syntect_pattern.Matches.{matches}
use Rattle.syntect_pattern_backtrack.specs.syntect_pattern_table.Program.{trees_of}
use Rattle.syntect_pattern_backtrack.specs.Machine.{match_of, groups_of, FindsAt}
use Rattle.syntect_pattern_steps.proofs.BoundaryLaws.{true-boundary}
use Rattle.syntect_pattern_backtrack.proofs.FindLaws.{found_at-boundary}
use Rattle.syntect_pattern_backtrack.proofs.StepsLaws.{answer_map}
use Rattle.syntect_pattern_backtrack.proofs.state.Search.begins_there.Goals as goal

pub returns-then-is_lost_there-clause-finds : goal.returns-then-is_lost_there-clause-finds
returns-then-is_lost_there-clause-finds c = c.is_lost_there.ensures.lost c.if-is_lost_there.true

pub returns-clause-finds : goal.returns-clause-finds
returns-clause-finds c =
    answer_map c.is_at.result
    (λ (b : Bool). match_of b c.is_at.new.self ≡ slice_get (matches c.args.text.now (get_or (trees_of c.args.program.now) c.args.program.now.root nothing) c.args.place (replicate c.args.program.now.groups None)) 0)
    (λ (b : Bool). FindsAt c.args.text.now c.args.program.now c.args.place (groups_of b c.is_at.new.self))
    (λ b e tree is. found_at-boundary c.args.text.now c.args.program.now tree is c.args.place b c.is_at.new.self (true-boundary c.args.text.now c.args.place (c.is_lost_there.ensures.boundary c.if-is_lost_there.false)) e)
    c.is_at.ensures.found
