use Rattle.std.proofs.Common.{◌≡◌, ◌≤◌, ◌-◌, Some, false, length, replicate, take}
use Rattle.syntect_regex.proofs.details.are_free.Given as goal

abbrev pub invariant-loop-count : goal.invariant-loop-count
invariant-loop-count l = record {
  inside : l.count ≤ length l.looks;
  free : take l.count l.looks ≡ replicate l.count (Some false);
}

abbrev pub decreases-loop-count : goal.decreases-loop-count
decreases-loop-count l = length l.looks - l.count
