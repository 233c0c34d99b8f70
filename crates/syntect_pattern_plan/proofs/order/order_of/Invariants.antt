use Rattle.std.proofs.Common.{◌≡◌}
use Rattle.syntect_pattern_plan.specs.syntect_pattern_table.Program.{trees_of}
use Rattle.syntect_pattern_plan.specs.PlanOf.{IsPlanOf}
use Rattle.syntect_pattern_plan.specs.Order.{levels}
use Rattle.syntect_pattern_plan.proofs.order.order_of.Given as goal

abbrev pub invariant-loop-cell : goal.invariant-loop-cell
invariant-loop-cell l = record { all : IsPlanOf l.program l.plan → l.order.items ≡ levels (trees_of l.program) l.plan.cells l.cell }
