use Rattle.std.proofs.Common.{◌≡◌, length}
use Rattle.syntect_pattern_table.specs.Table.{trees}
use Rattle.syntect_pattern_table.specs.Lengths.{AreLengths}
use Rattle.syntect_pattern_table.proofs.lengths.lengths_in.Given as goal

abbrev pub invariant-loop-place : goal.invariant-loop-place
invariant-loop-place l = record {
  count : length l.lengths.items ≡ l.place;
  are : AreLengths l.lengths.items (trees l.nodes);
}
