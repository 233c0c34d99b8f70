use Rattle.std.proofs.Common.{◌≡◌, ◌<◌, ◌&&◌, ◌==◌, ℕ, take}
use Rattle.std.specs.Int.{bit_at}
use Rattle.std.specs.List.{list_any}
use Rattle.syntect_pattern.specs.Sets.{is_within}
use Rattle.syntect_pattern_table.proofs.ascii.paired_bits.Given as goal

abbrev pub invariant-loop-pair : goal.invariant-loop-pair
invariant-loop-pair l = record {
  right : (x : ℕ) → x < 128 → (bit_at l.ascii x == 1) ≡ list_any (λ p. (p.0 == x) && is_within l.low l.high p.1) (take l.pair-index l.pairs);
}
