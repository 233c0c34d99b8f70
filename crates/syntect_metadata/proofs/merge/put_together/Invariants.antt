use Rattle.std.proofs.Common.{◌≡◌, []}
use Rattle.syntect_metadata.specs.Merging.{with_entries}
use Rattle.syntect_metadata.specs.Seen.{table_seen}
use Rattle.syntect_metadata.proofs.merge.put_together.Given as goal

abbrev pub invariant-loop-entry : goal.invariant-loop-entry
invariant-loop-entry l = table_seen l.table.entries ≡ with_entries l.yielded []
