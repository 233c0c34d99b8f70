use Rattle.std.proofs.Common.{get_or}
use Rattle.syntect_pattern_plan.specs.syntect_pattern.Trees.{nothing}
use Rattle.syntect_pattern_plan.specs.syntect_pattern_table.Program.{trees_of}
use Rattle.syntect_pattern_plan.specs.Cells.{tree_size}
use Rattle.syntect_pattern_plan.proofs.sight.+past.Given as goal

abbrev pub decreases-past : goal.decreases-past
decreases-past l = tree_size (get_or (trees_of l.program.now) l.node nothing)
