use Rattle.std.proofs.Common.{◌≡◌, ◌+◌, ◌≤◌, ◌*◌, length}
use Rattle.syntect_pattern_linear.specs.syntect_pattern_table.Program.{trees_of}
use Rattle.syntect_pattern_linear.specs.Rows.{AreRows}
use Rattle.syntect_pattern_linear.specs.Steps.{stops}
use Rattle.syntect_pattern_linear.specs.syntect_count.Meter.{Advances}
use Rattle.syntect_pattern_linear.proofs.fill.rows_from.Given as goal

abbrev pub invariant-places : goal.invariant-places
invariant-places l = record {
  rows_are : AreRows l.text (trees_of l.program) l.plan.cells l.rows.items;
  there : length l.rows.items + (l.begin + l.left) ≡ length l.text + 1;
  paid : l.meter.made ≤ l.initial.meter.made + 6 * length l.plan.cells * length l.rows.items;
  counted : l.initial.meter.made + 2 * length l.plan.cells * stops l.text (length l.rows.items) ≤ l.meter.made;
  advances : Advances l.initial.meter l.meter;
}

abbrev pub decreases-places : goal.decreases-places
decreases-places l = l.left
