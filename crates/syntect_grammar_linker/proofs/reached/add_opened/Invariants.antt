use Rattle.std.proofs.Common.{◌≡◌, ◌++◌, drop}
use Rattle.std.specs.List.{filter_map}
use Rattle.syntect_grammar_linker.specs.Reached.{open_step}
use Rattle.syntect_grammar_linker.proofs.reached.add_opened.Given as goal

abbrev pub invariant-loop-reference : goal.invariant-loop-reference
invariant-loop-reference l = l.steps.items ++ filter_map (open_step l.home l.names) (drop l.reference-index l.references) ≡ l.fn.steps.items ++ filter_map (open_step l.home l.names) l.references
