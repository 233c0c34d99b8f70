use Rattle.std.proofs.Common.{◌≡◌, ◌++◌, drop}
use Rattle.syntect_grammar_linker.specs.Inclusions.{inclusions_by, each_in}
use Rattle.syntect_grammar_linker.proofs.reached.add_inclusions_in.Given as goal

abbrev pub invariant-loop-context_index : goal.invariant-loop-context_index
invariant-loop-context_index l =
    l.inclusions.items ++ each_in (inclusions_by l.directory) l.syntax_index l.context_index (drop l.context_index l.contexts) ≡ l.fn.inclusions.items ++ each_in (inclusions_by l.directory) l.syntax_index 0 l.contexts
