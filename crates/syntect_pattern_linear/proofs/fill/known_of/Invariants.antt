use Rattle.std.proofs.Common.{◌≡◌, ◌≤◌, ◌+◌, ◌*◌, length}
use Rattle.syntect_pattern_linear.specs.Ground.{Knows}
use Rattle.syntect_pattern_linear.specs.Steps.{unknown}
use Rattle.syntect_pattern_linear.proofs.fill.known_of.Given as goal

abbrev pub invariant-loop-late : goal.invariant-loop-late
invariant-loop-late l = record {
  knows : Knows l.ground l.place l.now.items;
  long : length l.now.items ≡ length l.ground.plan.now.cells;
  paid : l.count.made + 4 * unknown l.now.items ≤ l.initial.count.made + 4 * length l.ground.plan.now.cells + l.late;
  counted : l.initial.count.made + l.late ≤ l.count.made;
}
