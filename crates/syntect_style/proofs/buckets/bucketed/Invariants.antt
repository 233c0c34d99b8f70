use Rattle.std.proofs.Common.{◌≡◌, ◌<◌, ℕ, [], get_or, length}
use Rattle.std.specs.List.{filter}
use Rattle.syntect_style.specs.Buckets.{may_match}
use Rattle.syntect_style.proofs.buckets.bucketed.Given as goal

abbrev pub invariant-loop-number : goal.invariant-loop-number
invariant-loop-number l = record {
  count : length l.buckets.items ≡ l.number;
  each : (b : ℕ) → b < l.number → get_or l.buckets.items b [] ≡ filter (may_match b) l.rules;
}
