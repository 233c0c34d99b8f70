use Rattle.std.proofs.Common.{◌≡◌, ◌<◌, ℕ, false}
use Rattle.syntect_pattern_linear.specs.syntect_pattern_table.Program.{trees_of}
use Rattle.syntect_pattern_plan.specs.Cells.{cell_tree}
use Rattle.syntect_pattern_linear.specs.Alike.{is_atomic}
use Rattle.syntect_pattern_linear.proofs.alike.is_loose.Given as goal

abbrev pub invariant-loop-cell : goal.invariant-loop-cell
invariant-loop-cell l = (k : ℕ) → k < l.cell → is_atomic (cell_tree (trees_of l.ground.program.now) l.ground.plan.now.cells k) ≡ false
