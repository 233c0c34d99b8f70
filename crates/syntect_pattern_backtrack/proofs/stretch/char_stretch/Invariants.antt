use Rattle.std.proofs.Common.{◌≡◌, ◌≤◌, ◌<◌, ◌-◌, ℕ, length, get_or, true}
use Rattle.syntect_pattern_backtrack.specs.syntect_pattern.Sets.{holds, range}
use Rattle.syntect_pattern_backtrack.proofs.stretch.char_stretch.Given as goal

abbrev pub invariant-loop-end : goal.invariant-loop-end
invariant-loop-end l = record {
  rises : l.place ≤ l.end;
  within : l.end ≤ length l.text;
  ascii : (k : ℕ) → l.place ≤ k → k < l.end → get_or l.text k 0 < 128;
  held : (k : ℕ) → l.place ≤ k → k < l.end → holds (range l.wanted l.wanted) (get_or l.text k 0) ≡ true;
}

abbrev pub decreases-loop-end : goal.decreases-loop-end
decreases-loop-end l = length l.text - l.end
