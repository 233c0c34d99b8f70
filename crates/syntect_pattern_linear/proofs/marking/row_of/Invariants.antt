use Rattle.std.proofs.Common.{◌≡◌, ◌<◌, ℕ, false, length, get_or, Some, None}
use Rattle.syntect_pattern_linear.proofs.marking.row_of.Given as goal

abbrev pub invariant-loop-known : goal.invariant-loop-known
invariant-loop-known l = record {
  filled : length l.row.items ≡ l.known-index;
  right : (k : ℕ) → k < l.known-index → get_or l.here k None ≡ Some (get_or l.row.items k false);
}
