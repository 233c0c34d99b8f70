use Rattle.std.proofs.Common.{◌≡◌, ◌++◌, drop}
use Rattle.syntect_reading_state.specs.Opens.{all_here}
use Rattle.syntect_reading_state.proofs.references.open_here.Given as goal

abbrev pub invariant-loop-r : goal.invariant-loop-r
invariant-loop-r l = l.ops.items ++ all_here l.at l.set (drop l.r-index l.refs) ≡ l.fn.ops.items ++ all_here l.at l.set l.refs
