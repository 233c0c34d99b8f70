use Rattle.std.proofs.Common.{◌≡◌, ◌≤◌, ◌<◌, ◌==◌, ◌/◌, ◌^◌, ℕ, length, get_or, true, vec_capacity}
use Rattle.std.specs.Int.{bit_at}
use Rattle.syntect_pattern_table.proofs.starts.flags_of.Given as goal

abbrev pub invariant-loop : goal.invariant-loop
invariant-loop l = record {
  count : length l.flags.items ≡ l.counter;
  room : 130 ≤ vec_capacity l.flags;
  rest : l.rest ≡ l.places.ascii / 2 ^ l.counter;
  right : (k : ℕ) → k < l.counter → get_or l.flags.items k true ≡ (bit_at l.places.ascii k == 1);
}
