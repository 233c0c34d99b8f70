use Rattle.std.proofs.Common.{◌≡◌, drop}
use Rattle.std.specs.List.{flat_map}
use Rattle.syntect_shelf.specs.Places.{places_of_entry}
use Rattle.syntect_shelf.specs.Unread.{unread_among}
use Rattle.syntect_shelf.proofs.leads.unread_by_entries.Given as goal

abbrev pub invariant-loop-entry : goal.invariant-loop-entry
invariant-loop-entry l = unread_among l.whole (flat_map (places_of_entry l.definitions) (drop l.entry-index l.entries)) ≡ unread_among l.whole (flat_map (places_of_entry l.definitions) l.entries)
