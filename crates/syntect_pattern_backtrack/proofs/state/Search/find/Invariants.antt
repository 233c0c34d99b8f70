use Rattle.std.proofs.Common.{◌≡◌, ◌+◌, ◌≤◌, true, ◌-◌, suc, length}
use Rattle.syntect_pattern_backtrack.specs.syntect_pattern.Trees.{Tree}
use Rattle.syntect_pattern_backtrack.specs.syntect_pattern.Matches.{found}
use Rattle.syntect_pattern_backtrack.specs.syntect_pattern_table.Program.{IsProgramOf}
use Rattle.syntect_pattern_backtrack.proofs.state.Search.find.Given as goal

abbrev pub invariant-loop-place : goal.invariant-loop-place
invariant-loop-place l = record {
  same : (tree : Tree) → IsProgramOf l.program tree → found l.text tree l.place ≡ found l.text tree l.fn.begin;
  paid : l.limited ≡ true → l.count.made + l.self.left ≡ l.fn.count.made + l.fn.self.left;
  rises : l.fn.count.made ≤ l.count.made;
}

abbrev pub decreases-loop-place : goal.decreases-loop-place
decreases-loop-place l = suc (length l.text) - l.place
