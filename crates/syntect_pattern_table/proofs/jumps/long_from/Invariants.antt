use Rattle.std.proofs.Common.{length, ◌-◌, ◌≤◌}
use Rattle.syntect_pattern_table.proofs.jumps.long_from.Given as goal

abbrev pub invariant-loop-place : goal.invariant-loop-place
invariant-loop-place l = 8 ≤ l.place

abbrev pub decreases-loop-place : goal.decreases-loop-place
decreases-loop-place l = length l.nodes - l.place
