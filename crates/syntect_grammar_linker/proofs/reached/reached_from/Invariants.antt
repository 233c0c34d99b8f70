use Rattle.std.proofs.Common.{[], ◌∷◌, ◌+◌, length}
use Rattle.std.specs.HashSet as marks
use Rattle.syntect_grammar_contexts.specs.Contexts.{is_same}
use Rattle.syntect_grammar_linker.specs.Reached.{prototype_steps}
use Rattle.syntect_grammar_linker.proofs.Numbers.{numbers_from}
use Rattle.syntect_grammar_linker.proofs.Walks.{IsWalked, weight}
use Rattle.syntect_grammar_linker.proofs.reached.reached_from.Given as goal

abbrev pub invariant-loop-id : goal.invariant-loop-id
invariant-loop-id l = IsWalked (prototype_steps l.bodies l.home l.names) (l.fn.prototype ∷ []) (marks.contains is_same l.reached) l.waiting.items

abbrev pub decreases-loop-id : goal.decreases-loop-id
decreases-loop-id l = weight (prototype_steps l.bodies l.home l.names) (numbers_from 0 l.bodies) (marks.contains is_same l.reached) + length l.waiting.items
