use Rattle.std.proofs.Common.{◌≡◌, replicate, None}
use Rattle.syntect_pattern_linear.proofs.known.nothing_known.Given as goal

abbrev pub invariant-loop-cell : goal.invariant-loop-cell
invariant-loop-cell g l = l.known.items ≡ replicate l._cell None
