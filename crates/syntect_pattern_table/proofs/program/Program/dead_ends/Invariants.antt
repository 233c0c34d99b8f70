use Rattle.std.proofs.Common.{◌≡◌, ◌≤◌, ◌<◌, ◌-◌, ℕ, [], get_or}
use Rattle.syntect_pattern.specs.Trees.{nothing}
use Rattle.syntect_pattern.specs.Matches.{Groups, matches}
use Rattle.syntect_pattern_table.specs.Program.{trees_of}
use Rattle.syntect_pattern_table.proofs.program.Program.dead_ends.Given as goal

abbrev pub invariant-loop-ends : goal.invariant-loop-ends
invariant-loop-ends l = record {
  inside : l.ends ≤ l.count;
  dead : (m : ℕ) → m < l.ends → (g : Groups) → matches l.text (get_or (trees_of l.self) l.node nothing) (l.place - m) g ≡ [];
}

abbrev pub decreases-loop-ends : goal.decreases-loop-ends
decreases-loop-ends l = l.count - l.ends
