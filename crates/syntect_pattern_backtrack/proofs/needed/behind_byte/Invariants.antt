use Rattle.std.proofs.Common.{◌≡◌, ℕ, ◌≤◌, ◌<◌, ◌-◌, ◌==◌, length, false}
use Rattle.syntect_pattern_backtrack.specs.syntect_pattern_table.Needs.{has_pair_at}
use Rattle.syntect_pattern_backtrack.specs.syntect_pattern_table.Starts.{is_in}
use Rattle.syntect_pattern_backtrack.proofs.needed.behind_byte.Given as goal

abbrev pub invariant-loop-found : goal.invariant-loop-found
invariant-loop-found l = record {
  within : l.from ≤ length l.text;
  absent : l.byte < 128 → (k : ℕ) → l.place ≤ k → k < l.from → has_pair_at (λ x. x == l.byte) (is_in l.next) l.text k ≡ false;
}

abbrev pub decreases-loop-found : goal.decreases-loop-found
decreases-loop-found l = length l.text - l.from
