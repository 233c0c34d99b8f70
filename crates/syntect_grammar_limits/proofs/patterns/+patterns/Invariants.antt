use Rattle.std.proofs.Common.{◌≡◌, ◌+◌, ◌*◌, ◌++◌, drop, map}
use Rattle.std.specs.Prelude.{flat_map}
use Rattle.syntect_yaml.specs.View.{view}
use Rattle.syntect_grammar_limits.specs.Patterns.{of_context, of_item, of_reference}
use Rattle.syntect_grammar_limits.proofs.patterns.+patterns.Given as goal

abbrev pub decreases-add_context : goal.decreases-add_context
decreases-add_context l = 8 * l.room + 0

abbrev pub decreases-add_prototype : goal.decreases-add_prototype
decreases-add_prototype l = 8 * l.room + 1

abbrev pub decreases-add_reference : goal.decreases-add_reference
decreases-add_reference l = 8 * l.room + 1

abbrev pub decreases-add_each : goal.decreases-add_each
decreases-add_each l = 8 * l.room + 2

abbrev pub decreases-add_references : goal.decreases-add_references
decreases-add_references l = 8 * l.room + 3

abbrev pub decreases-add_embedded : goal.decreases-add_embedded
decreases-add_embedded l = 8 * l.room + 3

abbrev pub decreases-add_operation : goal.decreases-add_operation
decreases-add_operation l = 8 * l.room + 4

abbrev pub decreases-add_match : goal.decreases-add_match
decreases-add_match l = 8 * l.room + 5

abbrev pub decreases-add_item : goal.decreases-add_item
decreases-add_item l = 8 * l.room + 6

abbrev pub decreases-add_items : goal.decreases-add_items
decreases-add_items l = 8 * l.room + 7

abbrev pub invariant-add_items-loop-value : goal.invariant-add_items-loop-value
invariant-add_items-loop-value l =
    l.found ++ flat_map (of_item (of_context l.fn.room)) (map view (drop l.value-index l.items)) ≡ l.fn.found ++ flat_map (of_item (of_context l.fn.room)) (map view l.items)

abbrev pub invariant-add_each-loop-value : goal.invariant-add_each-loop-value
invariant-add_each-loop-value l =
    l.found ++ flat_map (of_reference (of_context l.fn.room)) (map view (drop l.value-index l.values)) ≡ l.fn.found ++ flat_map (of_reference (of_context l.fn.room)) (map view l.values)
