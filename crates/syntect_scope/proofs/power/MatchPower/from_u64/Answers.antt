use Rattle.std.proofs.Common.{arith}
use Rattle.syntect_scope.proofs.DigitLaws.{digits_push, digit_step, last_step}
use Rattle.syntect_scope.proofs.power.MatchPower.from_u64.Goals as goal

pub loop-rest-preserved : goal.loop-rest-preserved
loop-rest-preserved c =
    rw c.in_ok-push.ensures.items (record {
      sum = digit_step c.loop-rest.digits.items c.loop-rest.rest c.args.number c.loop-rest.invariant.sum;
      digits = digits_push c.loop-rest.digits.items _ c.loop-rest.invariant.digits (omega arith);
      ended = λ z _. last_step c.loop-rest.digits.items c.loop-rest.rest c.loop-rest-test.true z;
    })
