use Rattle.std.proofs.Common.{◌≡◌, length, take}
use Rattle.syntect_scope.proofs.repository.ScopeRepository.forget.Given as goal

abbrev pub invariant-loop-self : goal.invariant-loop-self
invariant-loop-self l = record {
  front : take l.fn.held l.self ≡ take l.fn.held l.fn.self;
}

abbrev pub decreases-loop-self : goal.decreases-loop-self
decreases-loop-self l = length l.self
