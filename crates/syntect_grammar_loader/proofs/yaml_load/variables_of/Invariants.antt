use Rattle.std.proofs.Common.{◌≡◌, [], drop, map}
use Rattle.syntect_yaml.specs.View.{entry_view}
use Rattle.syntect_grammar_loader.specs.Loading.{variables_from}
use Rattle.syntect_grammar_loader.proofs.yaml_load.variables_of.Given as goal

abbrev pub invariant-loop-entry : goal.invariant-loop-entry
invariant-loop-entry l = variables_from l.variables (map entry_view (drop l.entry-index l.entries)) ≡ variables_from [] (map entry_view l.entries)
