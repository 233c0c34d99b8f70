use Rattle.std.proofs.Common.{◌≡◌, take}
use Rattle.syntect_scope.proofs.repository.ScopeRepository.clone.Given as goal

abbrev pub invariant-loop-text : goal.invariant-loop-text
invariant-loop-text l = l.copy ≡ take l.text-index l.text-items
