use Rattle.std.proofs.Common.{◌≡◌, drop}
use Rattle.std.specs.List.{list_any}
use Rattle.syntect_scope.specs.Choice.{excludes}
use Rattle.syntect_scope.proofs.selector.ScopeSelector.does_match.Given as goal

abbrev pub invariant-loop-exclusion : goal.invariant-loop-exclusion
invariant-loop-exclusion l = list_any (excludes l.stack) (drop l.exclusion-index l.exclusion-items) ≡ list_any (excludes l.stack) l.exclusion-items
