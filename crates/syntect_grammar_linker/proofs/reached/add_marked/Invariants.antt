use Rattle.std.proofs.Common.{◌≡◌, ◌++◌, drop}
use Rattle.syntect_grammar_linker.specs.Inclusions.{if_marked, each_in}
use Rattle.syntect_grammar_linker.proofs.reached.add_marked.Given as goal

abbrev pub invariant-loop-context_index : goal.invariant-loop-context_index
invariant-loop-context_index l = l.marked.items ++ each_in if_marked l.syntax_index l.context_index (drop l.context_index l.contexts) ≡ l.fn.marked.items ++ each_in if_marked l.syntax_index 0 l.contexts
