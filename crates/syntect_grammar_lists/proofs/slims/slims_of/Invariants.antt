use Rattle.std.proofs.Common.{take}
use Rattle.syntect_grammar_lists.proofs.SlimLaws.{AreSlimsOf}
use Rattle.syntect_grammar_lists.proofs.slims.slims_of.Given as goal

abbrev pub invariant-loop-flat : goal.invariant-loop-flat
invariant-loop-flat l = AreSlimsOf l.table.items (take l.flat-index l.flats) l.slims.items
