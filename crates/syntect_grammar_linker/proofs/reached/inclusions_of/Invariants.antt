use Rattle.std.proofs.Common.{◌≡◌, ◌++◌, drop}
use Rattle.syntect_grammar_linker.specs.Inclusions.{inclusions_by, each_from}
use Rattle.syntect_grammar_linker.proofs.reached.inclusions_of.Given as goal

abbrev pub invariant-loop-index : goal.invariant-loop-index
invariant-loop-index l = l.inclusions.items ++ each_from (inclusions_by l.directory) l.index (drop l.index l.bodies) ≡ each_from (inclusions_by l.directory) 0 l.bodies
