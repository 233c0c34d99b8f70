use Rattle.std.proofs.Common.{◌≡◌, ◌-◌, length, take}
use Rattle.std.specs.List.{FoldsTo}
use Rattle.syntect_scope.specs.Hook.{Hears, removals}
use Rattle.syntect_scope.proofs.stack.ScopeStack.remove_telling.Given as goal

-- the calls that are left, with those before, are all
abbrev pub invariant-loop-self : goal.invariant-loop-self
invariant-loop-self g l = record {
  callable : goal.F-IsAlwaysCallable g l.hook;
  cleared : l.self.clear_stack ≡ l.fn.self.clear_stack;
  scopes : take l.keep l.self.scopes ≡ take l.keep l.fn.self.scopes;
  told : (last : _) → FoldsTo (Hears g.F.FnMut) l.hook (removals (length l.self.scopes - l.keep) l.self.scopes) last → FoldsTo (Hears g.F.FnMut) l.fn.hook (removals (length l.fn.self.scopes - l.keep) l.fn.self.scopes) last;
}

abbrev pub decreases-loop-self : goal.decreases-loop-self
decreases-loop-self g l = length l.self.scopes
