use Rattle.std.proofs.Common.{◌≡◌, drop}
use Rattle.syntect_scope.specs.Greedy.{passes}
use Rattle.syntect_scope.proofs.matching.is_found.Given as goal

abbrev pub invariant-loop-scope : goal.invariant-loop-scope
invariant-loop-scope l = passes l.rest (drop l.scope-index l.stack) ≡ passes l.path l.stack
