use Rattle.std.proofs.Common.{◌≡◌, ◌+◌, ◌*◌, [], drop, map}
use Rattle.syntect_yaml.specs.View.{view}
use Rattle.syntect_grammar_loader.specs.LoadingSteps.{each, KeepsAtoms}
use Rattle.syntect_grammar_loader.specs.LoadingContexts.{context, new_context, item, add_reference}
use Rattle.syntect_grammar_loader.proofs.yaml_load_contexts.+contexts.Given as goal

abbrev pub decreases-context : goal.decreases-context
decreases-context l = 8 * l.room + 0

abbrev pub decreases-with_prototype : goal.decreases-with_prototype
decreases-with_prototype l = 8 * l.room + 1

abbrev pub decreases-reference : goal.decreases-reference
decreases-reference l = 8 * l.room + 1

abbrev pub decreases-add_reference : goal.decreases-add_reference
decreases-add_reference l = 8 * l.room + 2

abbrev pub decreases-references : goal.decreases-references
decreases-references l = 8 * l.room + 3

abbrev pub decreases-embedded : goal.decreases-embedded
decreases-embedded l = 8 * l.room + 3

abbrev pub decreases-operation : goal.decreases-operation
decreases-operation l = 8 * l.room + 4

abbrev pub decreases-match_pattern : goal.decreases-match_pattern
decreases-match_pattern l = 8 * l.room + 5

abbrev pub decreases-item : goal.decreases-item
decreases-item l = 8 * l.room + 6

abbrev pub decreases-named_context : goal.decreases-named_context
decreases-named_context l = 8 * l.room + 7

abbrev pub invariant-named_context-loop-value : goal.invariant-named_context-loop-value
invariant-named_context-loop-value l =
    (each (item (context l.fn.room)) l.context (map view (drop l.value-index l.items)) l.reading ≡ each (item (context l.fn.room)) (new_context l.fn.wants_prototype) (map view l.items) l.fn.reading)
    × KeepsAtoms l.fn.reading.repository l.reading.repository

abbrev pub invariant-references-loop-one : goal.invariant-references-loop-one
invariant-references-loop-one l =
    (each (add_reference (context l.fn.room)) l.found (map view (drop l.one-index l.items)) l.reading ≡ each (add_reference (context l.fn.room)) [] (map view l.items) l.fn.reading)
    × KeepsAtoms l.fn.reading.repository l.reading.repository
