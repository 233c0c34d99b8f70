use Rattle.std.proofs.Common.{◌≡◌, drop}
use Rattle.syntect_reading_state.specs.Opens.{contents, has_no_scope}
use Rattle.syntect_reading_state.proofs.references.no_contents.Given as goal

abbrev pub invariant-loop-r : goal.invariant-loop-r
invariant-loop-r l = has_no_scope (contents l.set (drop l.r-index l.refs)) ≡ has_no_scope (contents l.set l.refs)
