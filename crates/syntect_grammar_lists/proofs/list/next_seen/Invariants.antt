use Rattle.std.proofs.Common.{length, get_or, map, ◌-◌, ◌≤◌, ◌<◌, ℕ}
use Rattle.syntect_grammar_lists.specs.Rows.{IsOut}
use Rattle.syntect_grammar_lists.specs.Slims.{widened}
use Rattle.syntect_grammar_lists.specs.declared.flats.Flat.{Flat}
use Rattle.syntect_grammar_lists.proofs.list.next_seen.Given as goal

abbrev pub invariant-loop-next : goal.invariant-loop-next
invariant-loop-next l = record {
  later : l.from ≤ l.next;
  passed : (k : ℕ) (d : Flat) → l.from ≤ k → k < l.next → k < length l.slims → IsOut l.outlook (get_or (map (widened l.table) l.slims) k d);
}

abbrev pub decreases-loop-next : goal.decreases-loop-next
decreases-loop-next l = length l.slims - l.next
