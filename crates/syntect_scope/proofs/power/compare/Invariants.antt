use Rattle.std.proofs.Common.{◌≡◌, ◌≤◌, length, drop}
use Rattle.syntect_scope.proofs.power.compare.Given as goal

abbrev pub invariant-loop-i : goal.invariant-loop-i
invariant-loop-i l = record {
  same : drop l.i l.a ≡ drop l.i l.b;
  within : l.i ≤ length l.a;
}

abbrev pub decreases-loop-i : goal.decreases-loop-i
decreases-loop-i l = l.i
