use Rattle.std.proofs.Common.{◌≡◌, ◌+◌, ◌≤◌, ◌*◌, length}
use Rattle.syntect_pattern_linear.specs.syntect_pattern_table.Program.{trees_of}
use Rattle.syntect_pattern_linear.specs.Marks.{AreMarks}
use Rattle.syntect_pattern_linear.specs.Steps.{stops}
use Rattle.syntect_pattern_linear.specs.syntect_count.Meter.{Advances}
use Rattle.syntect_pattern_linear.proofs.marking.marked_from.Given as goal

abbrev pub invariant-places : goal.invariant-places
invariant-places l = record {
  marks_are : AreMarks l.text (trees_of l.program) l.plan.cells l.marks;
  there : length l.marks + (l.begin + l.left) ≡ length l.text + 1;
  paid : l.meter.made ≤ l.initial.meter.made + length l.plan.cells * length l.marks;
  counted : l.initial.meter.made + stops l.text (length l.marks) ≤ l.meter.made;
  advances : Advances l.initial.meter l.meter;
}

abbrev pub decreases-places : goal.decreases-places
decreases-places l = l.left
