use Rattle.std.proofs.Common.{◌≡◌, ◌+◌, length}
use Rattle.syntect_pattern_table.specs.Table.{trees}
use Rattle.syntect_pattern_table.specs.Jumps.{AreJumps}
use Rattle.syntect_pattern_table.proofs.jumps.jumps_of.Given as goal

abbrev pub invariant-loop-place : goal.invariant-loop-place
invariant-loop-place l = record {
  count : l.from + length l.jumps.items ≡ l.place;
  jumps : AreJumps l.from l.jumps.items (trees l.nodes);
}
