use Rattle.std.proofs.Common.{◌-◌, replicate}
use Rattle.std.specs.List.{FoldsTo}
use Rattle.syntect_scope.specs.Hook.{Hears}
use Rattle.syntect_scope.specs.declared.stack.BasicScopeStackOp.TheVariants.{Pop as Removed}
use Rattle.syntect_scope.proofs.stack.ScopeStack.tell_cleared.Given as goal

-- the calls that are left, with those before, are all
abbrev pub invariant-loop : goal.invariant-loop
invariant-loop g l = record {
  callable : goal.F-IsAlwaysCallable g l.hook;
  told : (last : _) → FoldsTo (Hears g.F.FnMut) l.hook (replicate (l.count - l.counter) (Removed, l.self.scopes)) last → FoldsTo (Hears g.F.FnMut) l.fn.hook (replicate l.count (Removed, l.self.scopes)) last;
}
