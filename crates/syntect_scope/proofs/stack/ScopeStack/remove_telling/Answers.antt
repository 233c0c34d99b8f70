use Rattle.std.proofs.Common.{◌≡◌, ◌<◌, ◌-◌, length, take, rules, ap, ◌∙◌, arith, of_calls}
use Rattle.std.proofs.lemmas.Grind.{common_steps}
use Rattle.syntect_scope.proofs.HookLaws.{hears, removed_first}
use Rattle.syntect_scope.proofs.stack.ScopeStack.remove_telling.Goals as goal

pub loop-self-preserved : goal.loop-self-preserved
loop-self-preserved g c =
    let less : c.args.keep < length c.loop-self.self.scopes = omega (arith, c.loop-self-test.true, c.len.ensures) in
    let popped : c.pop.new.self.scopes ≡ take (length c.loop-self.self.scopes - 1) c.loop-self.self.scopes = ap (λ s. s.scopes) c.pop.ensures in
    record {
      callable = search of_calls;
      cleared = search rules;
      scopes = ap (take c.args.keep) popped ∙ grind (arith, common_steps) ∙ c.loop-self.invariant.scopes;
      told = λ last rest.
          c.loop-self.invariant.told last (removed_first g.F.FnMut c.args.keep c.loop-self.self.scopes c.pop.new.self.scopes _ _ last popped less
          (hears g.F.FnMut _ _ _ c.as_slice.result c.pop.new.self.scopes c.as_slice.ensures c.hook.ensures) rest);
    }
