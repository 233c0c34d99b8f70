use Rattle.syntect_grammar_lists.specs.Entered.{NoneMarkedBeside}
use Rattle.syntect_grammar_lists.proofs.entered.unmark.Given as goal
use Rattle.std.proofs.Common.{length}

abbrev pub invariant-loop-id : goal.invariant-loop-id
invariant-loop-id l = NoneMarkedBeside l.marks.items l.ids.items

abbrev pub decreases-loop-id : goal.decreases-loop-id
decreases-loop-id l = length l.ids.items
