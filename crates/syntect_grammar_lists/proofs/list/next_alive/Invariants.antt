use Rattle.std.proofs.Common.{◌≡◌, length, get_or, List, ◌-◌, ◌≤◌, ◌<◌, ℕ}
use Rattle.syntect_grammar_lists.specs.Packed.{unpacked}
use Rattle.syntect_grammar_lists.specs.Rows.{AreRowsOf, IsOut}
use Rattle.syntect_grammar_lists.specs.declared.flats.Flat.{Flat}
use Rattle.syntect_grammar_lists.proofs.list.next_alive.Given as goal

abbrev pub invariant-loop-next : goal.invariant-loop-next
invariant-loop-next l = record {
  later : l.from ≤ l.next;
  passed : (flats : List Flat) (k : ℕ) (d : Flat) → length flats ≡ l.count → AreRowsOf (unpacked l.words l.rows) l.words flats
      → l.from ≤ k → k < l.next → k < l.count → IsOut l.outlook (get_or flats k d);
}

abbrev pub decreases-loop-next : goal.decreases-loop-next
decreases-loop-next l = l.count - l.next
