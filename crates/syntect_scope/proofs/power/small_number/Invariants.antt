use Rattle.std.proofs.Common.{◌≡◌, ◌≤◌, length, drop}
use Rattle.syntect_scope.specs.Digits.{number_of}
use Rattle.syntect_scope.proofs.power.small_number.Given as goal

abbrev pub invariant-loop-i : goal.invariant-loop-i
invariant-loop-i l = record {
  number : number_of (drop l.i l.digits) ≡ l.number;
  within : l.i ≤ length l.digits;
}

abbrev pub decreases-loop-i : goal.decreases-loop-i
decreases-loop-i l = l.i
