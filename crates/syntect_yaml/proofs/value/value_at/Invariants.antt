use Rattle.std.proofs.Common.{◌≡◌, drop}
use Rattle.syntect_yaml.specs.Node.{value_at}
use Rattle.syntect_yaml.specs.View.{entries_view}
use Rattle.syntect_yaml.proofs.value.value_at.Given as goal

abbrev pub invariant-loop-entry : goal.invariant-loop-entry
invariant-loop-entry l = value_at l.text (entries_view (drop l.entry-index l.entries)) ≡ value_at l.text (entries_view l.entries)
