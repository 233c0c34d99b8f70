use Rattle.std.proofs.Common.{ℕ, ◌-◌, ◌≤◌, ◌<◌, length, slice_index_or}
use Rattle.syntect_pattern.proofs.folds.first_from.Given as goal

abbrev pub invariant-halves : goal.invariant-halves
invariant-halves l = record {
  ordered : l.low ≤ l.high;
  few : l.high ≤ length l.pairs;
  below : (k : ℕ) → k < l.low → (slice_index_or l.pairs k (0, 0)).0 < l.number;
  above : (k : ℕ) → l.high ≤ k → k < length l.pairs → l.number ≤ (slice_index_or l.pairs k (0, 0)).0;
}

abbrev pub decreases-halves : goal.decreases-halves
decreases-halves l = l.high - l.low
