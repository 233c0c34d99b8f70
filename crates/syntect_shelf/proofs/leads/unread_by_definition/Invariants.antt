use Rattle.std.proofs.Common.{◌≡◌}
use Rattle.std.specs.List.{flat_map}
use Rattle.syntect_shelf.specs.Places.{places_of_context}
use Rattle.syntect_shelf.specs.Unread.{unread_among}
use Rattle.syntect_shelf.proofs.leads.unread_by_definition.Given as goal

abbrev pub invariant-loop-context : goal.invariant-loop-context
invariant-loop-context l = unread_among l.whole (flat_map (λ e. places_of_context l.definitions e.1) l.context-iterator) ≡ unread_among l.whole (flat_map (λ e. places_of_context l.definitions e.1) l.definition.contexts)
