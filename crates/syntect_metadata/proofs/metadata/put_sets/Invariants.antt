use Rattle.std.proofs.Common.{◌≡◌}
use Rattle.syntect_metadata.specs.Sets.{with_sets}
use Rattle.syntect_metadata.proofs.metadata.put_sets.Given as goal

abbrev pub invariant-loop-set : goal.invariant-loop-set
invariant-loop-set l = l.table.entries ≡ with_sets l.yielded l.fn.table.entries
