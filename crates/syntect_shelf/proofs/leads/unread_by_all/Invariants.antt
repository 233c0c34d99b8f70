use Rattle.std.proofs.Common.{◌≡◌, drop}
use Rattle.syntect_shelf.specs.Places.{places_by}
use Rattle.syntect_shelf.specs.Unread.{unread_among}
use Rattle.syntect_shelf.proofs.leads.unread_by_all.Given as goal

abbrev pub invariant-loop-reference : goal.invariant-loop-reference
invariant-loop-reference l = unread_among l.whole (places_by l.definitions (drop l.reference-index l.references)) ≡ unread_among l.whole (places_by l.definitions l.references)
