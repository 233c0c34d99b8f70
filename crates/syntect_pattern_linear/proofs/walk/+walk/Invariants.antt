use Rattle.std.proofs.Common.{◌+◌, ◌*◌, ◌-◌, length}
use Rattle.syntect_pattern_linear.specs.syntect_count.Meter.{Advances}
use Rattle.syntect_pattern_linear.specs.Walk.{IsFilled}
use Rattle.syntect_pattern_linear.proofs.WalkLaws.{size_of, Continues}
use Rattle.syntect_pattern_linear.proofs.walk.+walk.Given as goal

abbrev pub decreases-walk : goal.decreases-walk
decreases-walk l = 3 * size_of l.ground.now l.cell + 2

abbrev pub decreases-walk_node : goal.decreases-walk_node
decreases-walk_node l = 3 * size_of l.ground.now l.cell + 1

abbrev pub decreases-walk_turns : goal.decreases-walk_turns
decreases-walk_turns l = 3 * size_of l.ground.now l.cell

abbrev pub invariant-walk_turns-turns : goal.invariant-walk_turns-turns
invariant-walk_turns-turns l = record {
  filled : IsFilled l.ground l.marks l.at;
  advances : Advances l.initial.meter l.meter;
  goes : Continues l.ground l.fn.cell l.fn.place l.initial.groups.items l.turn l.at l.groups.items l.greedy l.least l.most l.initial.meter.made l.meter.made;
}

abbrev pub decreases-walk_turns-turns : goal.decreases-walk_turns-turns
decreases-walk_turns-turns l = length l.ground.text.now - l.at
