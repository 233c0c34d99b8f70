use Rattle.std.proofs.Common.{take, drop}
use Rattle.std.specs.List.{FoldsTo}
use Rattle.syntect_scope.specs.Hook.{Hears, additions}
use Rattle.syntect_scope.proofs.stack.ScopeStack.tell_pushed.Given as goal

-- the calls that are left, with those before, are all
abbrev pub invariant-loop-place : goal.invariant-loop-place
invariant-loop-place g l = record {
  callable : goal.F-IsAlwaysCallable g l.hook;
  told : (last : _) → FoldsTo (Hears g.F.FnMut) l.hook (additions (take l.place l.self.scopes) (drop l.place l.self.scopes)) last → FoldsTo (Hears g.F.FnMut) l.fn.hook (additions (take l.from l.self.scopes) (drop l.from l.self.scopes)) last;
}
