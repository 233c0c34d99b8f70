use Rattle.std.proofs.Common.{◌≡◌, take, map}
use Rattle.syntect_yaml.specs.View.{view, entry_view}
use Rattle.syntect_yaml.proofs.value.+copy.Given as goal

abbrev pub invariant-copy_items-loop-item : goal.invariant-copy_items-loop-item
invariant-copy_items-loop-item l = map view l.copies.items ≡ map view (take l.item-index l.item-items)

abbrev pub invariant-copy_entries-loop-entry : goal.invariant-copy_entries-loop-entry
invariant-copy_entries-loop-entry l = map entry_view l.copies.items ≡ map entry_view (take l.entry-index l.entry-items)
