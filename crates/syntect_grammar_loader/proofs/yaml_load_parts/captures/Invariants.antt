use Rattle.std.proofs.Common.{◌≡◌, [], drop, map}
use Rattle.syntect_yaml.specs.View.{entry_view}
use Rattle.syntect_grammar_loader.specs.LoadingSteps.{each, KeepsAtoms}
use Rattle.syntect_grammar_loader.specs.LoadingParts.{capture}
use Rattle.syntect_grammar_loader.proofs.yaml_load_parts.captures.Given as goal

abbrev pub invariant-loop-entry : goal.invariant-loop-entry
invariant-loop-entry l =
    (each (capture l.fn.tested) l.found (map entry_view (drop l.entry-index l.entries)) l.reading ≡ each (capture l.fn.tested) [] (map entry_view l.entries) l.fn.reading)
    × KeepsAtoms l.fn.reading.repository l.reading.repository
