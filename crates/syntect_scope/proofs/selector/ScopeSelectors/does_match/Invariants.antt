use Rattle.std.proofs.Common.{◌≡◌, drop}
use Rattle.syntect_scope.specs.Choice.{greater_score, union_score}
use Rattle.syntect_scope.proofs.selector.ScopeSelectors.does_match.Given as goal

abbrev pub invariant-loop-selector : goal.invariant-loop-selector
invariant-loop-selector l = greater_score l.best (union_score (drop l.selector-index l.selector-items) l.stack) ≡ union_score l.selector-items l.stack
