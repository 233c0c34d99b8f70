use Rattle.std.proofs.Common.{◌≤◌, ◌-◌}
use Rattle.syntect_regex.specs.Looks.{NoGroupBefore}
use Rattle.syntect_regex.proofs.looks.first_group.Given as goal

abbrev pub invariant-loop-place : goal.invariant-loop-place
invariant-loop-place l = record {
  inside : l.place ≤ l.root;
  first : NoGroupBefore l.nodes l.place;
}

abbrev pub decreases-loop-place : goal.decreases-loop-place
decreases-loop-place l = l.root - l.place
