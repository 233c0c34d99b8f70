use Rattle.std.proofs.Common.{◌≡◌, ◌++◌, drop}
use Rattle.syntect_grammar_linker.specs.Inclusions.{if_marked, each_from}
use Rattle.syntect_grammar_linker.proofs.reached.marked_given.Given as goal

abbrev pub invariant-loop-index : goal.invariant-loop-index
invariant-loop-index l = l.marked.items ++ each_from if_marked l.index (drop l.index l.bodies) ≡ each_from if_marked 0 l.bodies
