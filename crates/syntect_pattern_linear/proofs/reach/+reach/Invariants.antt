use Rattle.std.proofs.Common.{◌+◌, ◌*◌}
use Rattle.std.specs.Prelude.{if◌then◌else◌}
use Rattle.syntect_pattern_linear.specs.syntect_pattern_table.Program.{trees_of}
use Rattle.syntect_pattern_plan.specs.Cells.{height}
use Rattle.syntect_pattern_linear.proofs.reach.+reach.Given as goal

abbrev pub decreases-reach : goal.decreases-reach
decreases-reach l = 6 * height (trees_of l.ground.now.program.now) l.ground.now.plan.now.cells l.cell + 4

abbrev pub decreases-reach_if : goal.decreases-reach_if
decreases-reach_if l = if l.test then 6 * height (trees_of l.ground.now.program.now) l.ground.now.plan.now.cells l.cell + 5 else 0

abbrev pub decreases-reach_item : goal.decreases-reach_item
decreases-reach_item l = 6 * height (trees_of l.ground.now.program.now) l.ground.now.plan.now.cells l.cell + 3

abbrev pub decreases-reach_node : goal.decreases-reach_node
decreases-reach_node l = 6 * height (trees_of l.ground.now.program.now) l.ground.now.plan.now.cells l.cell + 2

abbrev pub decreases-reach_loop : goal.decreases-reach_loop
decreases-reach_loop l = 6 * height (trees_of l.ground.now.program.now) l.ground.now.plan.now.cells l.cell + 1
