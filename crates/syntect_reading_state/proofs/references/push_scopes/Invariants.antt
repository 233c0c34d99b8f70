use Rattle.std.proofs.Common.{◌≡◌, ◌++◌, drop}
use Rattle.syntect_reading_state.specs.syntect_scope.Replay.{pushes}
use Rattle.syntect_reading_state.proofs.references.push_scopes.Given as goal

abbrev pub invariant-loop-scope : goal.invariant-loop-scope
invariant-loop-scope l = l.ops.items ++ pushes l.at (drop l.scope-index l.scopes) ≡ l.fn.ops.items ++ pushes l.at l.scopes
