use Rattle.std.proofs.Common.{◌≤◌, length}
use Rattle.syntect_grammar_lists.proofs.slims.recent.Given as goal

abbrev pub invariant-loop-next : goal.invariant-loop-next
invariant-loop-next l = l.next ≤ length l.table

abbrev pub decreases-loop-next : goal.decreases-loop-next
decreases-loop-next l = l.next
