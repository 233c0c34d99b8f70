use Rattle.std.proofs.Common.{◌≡◌, ◌<◌, ◌+◌, length, take, subst, ap, ◌∙◌, List, ℕ, arith, of_calls, get_or}
use Rattle.syntect_scope.specs.Hook.{Hears}
use Rattle.syntect_scope.specs.declared.stack.BasicScopeStackOp.TheVariants.{Push as Added}
use Rattle.syntect_scope.proofs.HookLaws.{hears, added_first}
use Rattle.syntect_scope.proofs.stack.ScopeStack.tell_pushed.Goals as goal

pub loop-place-preserved : goal.loop-place-preserved
loop-place-preserved g c =
    let scopes : List (List ℕ) = c.args.self.now.scopes in
    let place = c.loop-place.place in
    let found = c.index-scopes-place.result in
    let less : place < length scopes = omega (arith, c.loop-place-test.true, ap length c.as_slice-scopes.ensures) in
    let is : found ≡ get_or scopes place found = c.index-scopes-place.is ∙ ap (λ (l : List (List ℕ)). get_or l place found) c.as_slice-scopes.ensures in
    record {
      callable = search of_calls;
      told = λ last rest.
          c.loop-place.invariant.told last (added_first g.F.FnMut scopes place found _ _ last less
          (subst (λ (s : List ℕ). Hears g.F.FnMut c.loop-place.hook (Added s, take (place + 1) scopes) c.hook.new.self) is
          (hears g.F.FnMut _ _ _ c.bottom_n.result (take (place + 1) scopes) c.bottom_n.ensures c.hook.ensures)) rest);
    }
