use Rattle.std.proofs.Common.{◌≡◌, ◌≤◌, ◌-◌, length, max, vec_len, vec_capacity}
use Rattle.syntect_scope.specs.Digits.{number_of, AreDigits}
use Rattle.syntect_scope.proofs.power.pad.Given as goal

abbrev pub invariant-loop-digits : goal.invariant-loop-digits
invariant-loop-digits l = record {
  value : number_of l.digits.items ≡ number_of l.fn.digits.items;
  digits : AreDigits l.digits.items;
  room : vec_capacity l.digits ≡ vec_capacity l.fn.digits;
  kept : l.n ≤ length l.fn.digits.items → l.digits.items ≡ l.fn.digits.items;
  from : length l.fn.digits.items ≤ length l.digits.items;
  within : length l.digits.items ≤ max (length l.fn.digits.items) l.n;
}

abbrev pub decreases-loop-digits : goal.decreases-loop-digits
decreases-loop-digits l = l.n - vec_len l.digits
