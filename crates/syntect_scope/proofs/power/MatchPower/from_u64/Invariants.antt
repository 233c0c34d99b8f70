use Rattle.std.proofs.Common.{◌≡◌, ◌+◌, ◌*◌, ◌^◌, ◌-◌, ◌<◌, length, get_or}
use Rattle.syntect_scope.specs.Digits.{number_of, AreDigits}
use Rattle.syntect_scope.proofs.power.MatchPower.from_u64.Given as goal

abbrev pub invariant-loop-rest : goal.invariant-loop-rest
invariant-loop-rest l = record {
  sum : number_of l.digits.items + l.rest * 8 ^ length l.digits.items ≡ l.number;
  digits : AreDigits l.digits.items;
  ended : l.rest ≡ 0 → 0 < length l.digits.items → 0 < get_or l.digits.items (length l.digits.items - 1) 0;
}

abbrev pub decreases-loop-rest : goal.decreases-loop-rest
decreases-loop-rest l = l.rest
