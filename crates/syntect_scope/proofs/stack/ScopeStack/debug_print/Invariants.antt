use Rattle.std.proofs.Common.{◌++◌, ◌∷◌, [], drop}
use Rattle.std.specs.Io.KnownBytes.{Appends}
use Rattle.syntect_scope.specs.Repository.{scopes_text}
use Rattle.syntect_scope.proofs.stack.ScopeStack.debug_print.Given as goal

-- what is written, and the scopes that are left, are the whole
abbrev pub invariant-loop-scope : goal.invariant-loop-scope
invariant-loop-scope g l =
    (last : _) → Appends (g.W.Write.contents l.writer) last (scopes_text l.repository (drop l.scope-index l.scope-items) ++ 10 ∷ [])
    → Appends (g.W.Write.contents l.fn.writer) last (scopes_text l.repository l.scope-items ++ 10 ∷ [])
