use Rattle.std.proofs.Common.{◌≡◌, ◌++◌, drop, map}
use Rattle.std.specs.List.{filter_map}
use Rattle.syntect_grammar.specs.syntect_yaml.View.{view}
use Rattle.syntect_grammar.specs.syntect_grammar_loader.LoadingValues.{text_in}
use Rattle.syntect_shelf.proofs.head.add_texts.Given as goal

abbrev pub invariant-loop-item : goal.invariant-loop-item
invariant-loop-item l = l.texts ++ filter_map text_in (map view (drop l.item-index l.values)) ≡ l.fn.texts ++ filter_map text_in (map view l.values)
