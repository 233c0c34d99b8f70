use Rattle.std.proofs.Common.{◌+◌, ◌*◌, ◌^◌, inl, inr, arith}
use Rattle.std.proofs.lemmas.Bool.{cases_lt}
use Rattle.syntect_scope.proofs.DigitLaws.{digits_above}
use Rattle.syntect_scope.proofs.power.small_number.Goals as goal

pub returns-in_err-checked_mul-clause-too_large : goal.returns-in_err-checked_mul-clause-too_large
returns-in_err-checked_mul-clause-too_large c =
    rw c.from_residual.ensures (elim (cases_lt (c.loop-i.number * 8) (2 ^ 64)) [
      | inl l ↦ absurd (c.in_err-checked_mul.ensures l)
      | inr g ↦ omega (arith, g, digits_above c.args.digits.now c.loop-i.i c.loop-i.number c.loop-i-test.true c.loop-i.invariant.within c.loop-i.invariant.number)
    ])

pub returns-in_err-number-clause-too_large : goal.returns-in_err-number-clause-too_large
returns-in_err-number-clause-too_large c =
    rw c.from_residual-in_err-number.ensures (elim (cases_lt (c.in_ok-checked_mul.field-0 + c.from.result) (2 ^ 64)) [
      | inl l ↦ absurd (c.in_err-number.ensures l)
      | inr g ↦ omega (arith, g, c.in_ok-checked_mul.ensures, c.from.ensures, digits_above c.args.digits.now c.loop-i.i c.loop-i.number c.loop-i-test.true c.loop-i.invariant.within c.loop-i.invariant.number)
    ])
