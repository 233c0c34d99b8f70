use Rattle.std.proofs.Common.{◌≡◌, ◌<◌, ◌≤◌, ◌-◌, ℕ, length, get_or, true}
use Rattle.syntect_pattern_word_ends.specs.Ends.{is_of}
use Rattle.syntect_pattern_word_ends.proofs.ends.run_end.Given as goal

abbrev pub invariant-loop-end : goal.invariant-loop-end
invariant-loop-end l = record {
  order : l.place ≤ l.end;
  within : l.end ≤ length l.text;
  chars : (j : ℕ) → l.place ≤ j → j < l.end → is_of l.blank (get_or l.text j 0) ≡ true;
}

abbrev pub decreases-loop-end : goal.decreases-loop-end
decreases-loop-end l = l.last - l.end
