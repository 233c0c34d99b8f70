use Rattle.std.proofs.Common.{◌≡◌, ◌≤◌, ◌<◌, ◌-◌, ℕ, get_or, min, true, false}
use Rattle.syntect_pattern_table.proofs.program.next_flagged.Given as goal

abbrev pub invariant-loop-next : goal.invariant-loop-next
invariant-loop-next l = record {
  later : l.fn.place ≤ l.next;
  inside : l.next ≤ l.fn.end;
  skipped : (k : ℕ) → l.fn.place ≤ k → k < l.next → get_or l.flags (min (get_or l.text k 0) 128) true ≡ false;
}

abbrev pub decreases-loop-next : goal.decreases-loop-next
decreases-loop-next l = l.fn.end - l.next
