use Rattle.std.proofs.Common.{[], ◌+◌, length}
use Rattle.std.specs.HashMap as hash
use Rattle.std.specs.HashSet as marks
use Rattle.std.specs.Option.{option_map_or}
use Rattle.syntect_grammar_contexts.specs.Contexts.{is_same}
use Rattle.syntect_grammar_linker.proofs.Walks.{IsWalked, weight}
use Rattle.syntect_grammar_linker.proofs.reached.spread.Given as goal

abbrev pub invariant-loop-id : goal.invariant-loop-id
invariant-loop-id l = IsWalked (λ from. option_map_or (λ v. v.items) (hash.get is_same l.includers from) []) l.fn.given.items (marks.contains is_same l.marked) l.waiting.items

abbrev pub decreases-loop-id : goal.decreases-loop-id
decreases-loop-id l = weight (λ from. option_map_or (λ v. v.items) (hash.get is_same l.includers from) []) (hash.keys l.includers) (marks.contains is_same l.marked) + length l.waiting.items
