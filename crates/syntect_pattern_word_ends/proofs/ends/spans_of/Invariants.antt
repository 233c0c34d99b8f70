use Rattle.std.proofs.Common.{◌≡◌, ◌≤◌, ◌<◌, ℕ, length, vec_capacity}
use Rattle.syntect_pattern_table.specs.Table.{trees}
use Rattle.syntect_pattern_word_ends.specs.Ends.{Span}
use Rattle.syntect_pattern_word_ends.proofs.ends.spans_of.Given as goal

abbrev pub invariant-loop-place : goal.invariant-loop-place
invariant-loop-place l = record {
  count : length l.reads.items ≡ l.place;
  number : length l.stays.items ≡ l.place;
  read_room : length l.nodes ≤ vec_capacity l.reads;
  stay_room : length l.nodes ≤ vec_capacity l.stays;
  right : (x : ℕ) → x < 130 → Span l.blank x l.reads.items l.stays.items (trees l.nodes);
}
