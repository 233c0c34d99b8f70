use Rattle.std.proofs.Common.{◌≡◌, ◌<◌, length, length-drop, drop, arith}
use Rattle.syntect_scope.proofs.ChoiceLaws.{power_found, power_lost}
use Rattle.std.proofs.lemmas.Bool.Decides.{nat_tests}
use Rattle.syntect_scope.proofs.matching.path_power.Goals as goal

pub returns-in-None : goal.returns-in-None
returns-in-None c = power_found c.loop-place.power c.loop-place.rest.now c.args.path.now c.args.stack.now _ _ c.in-None.ensures.cases c.loop-place.invariant

pub returns-then-is_empty : goal.returns-then-is_empty
returns-then-is_empty c =
    let z : length c.loop-place.rest.now ≡ 0 = grind (arith, nat_tests, c.if-is_empty.ensures) in
    power_found c.loop-place.power c.loop-place.rest.now c.args.path.now c.args.stack.now _ _ z c.loop-place.invariant

pub returns-else-is_empty : goal.returns-else-is_empty
returns-else-is_empty c =
    let l : 0 < length c.loop-place.rest.now = grind (arith, nat_tests, c.if-is_empty.ensures) in
    let e : length (drop c.loop-place.place c.args.stack.now) ≡ 0 = omega (arith, length-drop c.loop-place.place c.args.stack.now, c.loop-place-test.false) in
    power_lost c.loop-place.power c.loop-place.rest.now c.args.path.now c.args.stack.now (drop c.loop-place.place c.args.stack.now) c.loop-place.place l e c.loop-place.invariant
