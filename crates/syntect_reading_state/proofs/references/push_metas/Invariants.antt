use Rattle.std.proofs.Common.{◌≡◌, ◌++◌, drop}
use Rattle.syntect_reading_state.specs.syntect_scope.Replay.{pushes}
use Rattle.syntect_reading_state.specs.Opens.{metas}
use Rattle.syntect_reading_state.proofs.references.push_metas.Given as goal

abbrev pub invariant-loop-r : goal.invariant-loop-r
invariant-loop-r l = l.ops.items ++ pushes l.at (metas l.set (drop l.r-index l.refs)) ≡ l.fn.ops.items ++ pushes l.at (metas l.set l.refs)
