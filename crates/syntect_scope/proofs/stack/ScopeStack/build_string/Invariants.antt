use Rattle.std.proofs.Common.{◌≡◌, ◌++◌, drop}
use Rattle.std.specs.Prelude.{string_bytes}
use Rattle.syntect_scope.specs.Repository.{scopes_text}
use Rattle.syntect_scope.proofs.stack.ScopeStack.build_string.Given as goal

abbrev pub invariant-loop-scope : goal.invariant-loop-scope
invariant-loop-scope l = string_bytes l.text ++ scopes_text l.repository (drop l.scope-index l.scope-items) ≡ scopes_text l.repository l.scope-items
