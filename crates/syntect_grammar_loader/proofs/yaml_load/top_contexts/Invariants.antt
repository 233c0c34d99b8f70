use Rattle.std.proofs.Common.{◌≡◌, [], drop, map}
use Rattle.syntect_yaml.specs.View.{entry_view}
use Rattle.syntect_grammar_loader.specs.LoadingSteps.{each, KeepsAtoms}
use Rattle.syntect_grammar_loader.specs.Loading.{top_entry}
use Rattle.syntect_grammar_loader.proofs.yaml_load.top_contexts.Given as goal

abbrev pub invariant-loop-entry : goal.invariant-loop-entry
invariant-loop-entry l =
    (each top_entry [] (map entry_view (drop l.entry-index l.entries)) l.reading ≡ each top_entry [] (map entry_view l.entries) l.fn.reading)
    × KeepsAtoms l.fn.reading.repository l.reading.repository
