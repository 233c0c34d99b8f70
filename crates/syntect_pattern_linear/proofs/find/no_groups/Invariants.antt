use Rattle.std.proofs.Common.{◌≡◌, replicate, None}
use Rattle.syntect_pattern_linear.proofs.find.no_groups.Given as goal

abbrev pub invariant-loop-group : goal.invariant-loop-group
invariant-loop-group l = l.groups.items ≡ replicate l._group None
