use Rattle.std.proofs.Common.{◌≡◌, ℕ, ◌≤◌, ◌<◌, false}
use Rattle.syntect_pattern_backtrack.specs.syntect_pattern_table.Needs.{has_pair_at}
use Rattle.syntect_pattern_backtrack.specs.syntect_pattern_table.Starts.{is_in}
use Rattle.syntect_pattern_backtrack.proofs.needed.behind_one.Given as goal

abbrev pub invariant-loop-from : goal.invariant-loop-from
invariant-loop-from l = (k : ℕ) → l.place ≤ k → k < l.from → has_pair_at (is_in l.here) (is_in l.next) l.text k ≡ false
