use Rattle.std.proofs.Common.{◌≡◌, ◌+◌, length, drop}
use Rattle.syntect_reading_state.specs.Opens.{metas}
use Rattle.syntect_reading_state.proofs.references.count_metas.Given as goal

abbrev pub invariant-loop-r : goal.invariant-loop-r
invariant-loop-r l = l.count + length (metas l.set (drop l.r-index l.refs)) ≡ length (metas l.set l.refs)
