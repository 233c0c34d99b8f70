use Rattle.std.proofs.Common.{get_or}
use Rattle.syntect_pattern.specs.Trees.{nothing}
use Rattle.syntect_pattern_table.specs.Program.{trees_of}
use Rattle.syntect_pattern_steps.specs.First.{BeginsWith}
use Rattle.syntect_pattern_steps.proofs.first.first_part.Given as goal

abbrev pub invariant-loop : goal.invariant-loop
invariant-loop l = BeginsWith (get_or (trees_of l.program) l.first nothing) (get_or (trees_of l.program) l.fn.node nothing)
