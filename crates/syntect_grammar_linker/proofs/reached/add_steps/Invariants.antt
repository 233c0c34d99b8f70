use Rattle.std.proofs.Common.{◌≡◌, ◌++◌, drop}
use Rattle.std.specs.List.{flat_map}
use Rattle.syntect_grammar_linker.specs.Reached.{entry_steps, entries_given, prototype_steps}
use Rattle.syntect_grammar_linker.proofs.reached.add_steps.Given as goal

abbrev pub invariant-loop-entry : goal.invariant-loop-entry
invariant-loop-entry l = l.steps.items ++ flat_map (entry_steps l.home l.names) (drop l.entry-index (entries_given l.bodies l.fn.id)) ≡ l.fn.steps.items ++ prototype_steps l.bodies l.home l.names l.fn.id
