use Rattle.std.proofs.Common.{◌≡◌, ◌≤◌, ◌<◌, ◌-◌, ◌+◌, ◌*◌, ◌^◌, length, get_or, vec_capacity}
use Rattle.syntect_scope.specs.Digits.{number_of, AreDigits}
use Rattle.syntect_scope.proofs.power.add_at.Given as goal

abbrev pub invariant-loop-rest : goal.invariant-loop-rest
invariant-loop-rest l = record {
  sum : number_of l.digits.items + l.rest * 8 ^ l.i ≡ number_of l.fn.digits.items + l.count * 8 ^ l.place;
  digits : AreDigits l.digits.items;
  room : vec_capacity l.digits ≡ vec_capacity l.fn.digits;
  small : l.rest ≤ 4294967296;
  within : l.i ≤ length l.digits.items;
  highest : l.i < length l.digits.items → 0 < get_or l.digits.items (length l.digits.items - 1) 0;
  ended : l.rest ≡ 0 → 0 < get_or l.digits.items (length l.digits.items - 1) 0;
}

abbrev pub decreases-loop-rest : goal.decreases-loop-rest
decreases-loop-rest l = vec_capacity l.fn.digits - l.i
