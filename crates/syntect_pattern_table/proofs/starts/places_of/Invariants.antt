use Rattle.std.proofs.Common.{◌≡◌, ◌≤◌, ◌<◌, ℕ, length, vec_capacity}
use Rattle.syntect_pattern_table.specs.Table.{trees}
use Rattle.syntect_pattern_table.specs.Starts.{AreFirsts, AreWithin, Begin}
use Rattle.syntect_pattern_table.proofs.starts.places_of.Given as goal

abbrev pub invariant-loop-place : goal.invariant-loop-place
invariant-loop-place l = record {
  count : length l.places ≡ l.place;
  number : length l.rows.items ≡ l.place;
  row_room : length l.nodes ≤ vec_capacity l.rows;
  within : AreWithin l.rows.items l.firsts.items;
  right : (x : ℕ) → x < 130 → Begin x l.places l.rows.items l.firsts.items (trees l.nodes);
  kept : AreFirsts l.places (trees l.nodes);
}
