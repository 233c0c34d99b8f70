use Rattle.std.proofs.Common.{◌≡◌, ◌++◌, drop}
use Rattle.syntect_grammar_linker.specs.Inclusions.{inclusions_of}
use Rattle.syntect_grammar_linker.proofs.reached.add_inclusions.Given as goal

abbrev pub invariant-loop-entry : goal.invariant-loop-entry
invariant-loop-entry l = l.inclusions.items ++ inclusions_of l.directory l.id (drop l.entry-index l.entries) ≡ l.fn.inclusions.items ++ inclusions_of l.directory l.id l.entries
