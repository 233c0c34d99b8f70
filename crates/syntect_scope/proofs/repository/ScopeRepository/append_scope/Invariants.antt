use Rattle.std.proofs.Common.{◌≡◌, ◌++◌, take}
use Rattle.std.specs.Prelude.{string_bytes}
use Rattle.syntect_scope.specs.Repository.{scope_text}
use Rattle.syntect_scope.proofs.repository.ScopeRepository.append_scope.Given as goal

abbrev pub invariant-loop-i : goal.invariant-loop-i
invariant-loop-i l = string_bytes l.text ≡ string_bytes l.fn.text ++ scope_text l.self (take l.i l.scope)
