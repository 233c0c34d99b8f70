use Rattle.std.proofs.Common.{of_calls}
use Rattle.syntect_scope.proofs.HookLaws.{hears, cleared_first}
use Rattle.syntect_scope.proofs.stack.ScopeStack.tell_cleared.Goals as goal

pub loop-preserved : goal.loop-preserved
loop-preserved g c = record {
  callable = search of_calls;
  told = λ last rest.
      c.loop.invariant.told last (cleared_first g.F.FnMut c.args.count c.loop.counter _ _ _ last c.loop-test.true
      (hears g.F.FnMut _ _ _ c.as_slice.result c.args.self.now.scopes c.as_slice.ensures c.hook.ensures) rest);
}
