use Rattle.std.proofs.Common.{◌≡◌, ◌∙◌, length, length-drop, drop, arith}
use Rattle.syntect_scope.proofs.ChoiceLaws.{path_found, path_left}
use Rattle.syntect_scope.proofs.matching.is_found.Goals as goal

pub returns-in-None : goal.returns-in-None
returns-in-None c = path_found c.loop-scope.rest.now c.args.path.now c.args.stack.now (drop c.loop-scope.scope-index c.args.stack.now) c.in-None.ensures.cases c.loop-scope.invariant

pub returns : goal.returns
returns c =
    let e : length (drop c.loop-scope.scope-index c.args.stack.now) ≡ 0 = omega (arith, length-drop c.loop-scope.scope-index c.args.stack.now, c.loop-scope-test.false) in
    c.is_empty.ensures ∙ path_left c.loop-scope.rest.now c.args.path.now c.args.stack.now (drop c.loop-scope.scope-index c.args.stack.now) e c.loop-scope.invariant
