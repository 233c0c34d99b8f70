use Rattle.std.proofs.Common.{◌≡◌, ◌&&◌, ◌==◌, ℕ, nat_lt}
use Rattle.std.specs.Int.{bit_at}
use Rattle.syntect_pattern.specs.Sets.{holds}
use Rattle.syntect_pattern.specs.NamedSets.{set_of_named}
use Rattle.syntect_pattern_table.proofs.ascii.tested_bits.Given as goal

abbrev pub invariant-loop-c : goal.invariant-loop-c
invariant-loop-c l = record {
  right : (x : ℕ) → (bit_at l.ascii x == 1) ≡ (nat_lt x l.c && holds (set_of_named l.named) x);
}
