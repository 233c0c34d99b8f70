use Rattle.std.proofs.Common.{◌≡◌, ◌≤◌, ◌+◌, vec_capacity, ◌<◌, ℕ, length}
use Rattle.syntect_pattern_table.specs.SetTable.{AreBits, sets}
use Rattle.syntect_pattern_table.proofs.ascii.ascii_bits.Given as goal

abbrev pub invariant-loop-place : goal.invariant-loop-place
invariant-loop-place l = record {
  count : length l.before.items ≡ l.place;
  room : l.root + 1 ≤ vec_capacity l.before;
  right : (x : ℕ) → x < 128 → AreBits x l.before.items (sets l.parts);
}
