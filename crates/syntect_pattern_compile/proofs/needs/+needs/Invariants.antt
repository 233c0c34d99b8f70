use Rattle.std.proofs.Common.{◌+◌, ◌*◌, ◌<◌, ◌≤◌, ℕ, Bool, length, max}
use Rattle.syntect_pattern.specs.Trees.{Tree, alt}
use Rattle.syntect_pattern_table.specs.Builder.{tree_in}
use Rattle.syntect_pattern_table.specs.Needs.{Needs}
use Rattle.syntect_pattern_compile.specs.NeedViews.{BothAreNeeded, IsAmong, PassesNeeds}
use Rattle.syntect_pattern_compile.proofs.needs.+needs.Given as goal

abbrev pub decreases-Found::add_first : goal.decreases-Found::add_first
decreases-Found::add_first l = 3 * l.first + 1

abbrev pub decreases-Found::add_needs : goal.decreases-Found::add_needs
decreases-Found::add_needs l = 3 * l.root

abbrev pub decreases-need_of_branch : goal.decreases-need_of_branch
decreases-need_of_branch l = 3 * l.place + 1

abbrev pub decreases-need_of_branches : goal.decreases-need_of_branches
decreases-need_of_branches l = 3 * max l.first l.rest + 2

abbrev pub invariant-Found::add_needs-parts : goal.invariant-Found::add_needs-parts
invariant-Found::add_needs-parts l = record {
  below : l.place ≤ l.fn.root;
  inside : l.place < length l.nodes;
  leads : PassesNeeds (tree_in l.nodes l.place) (tree_in l.nodes l.fn.root);
  kept : (t : Tree) → PassesNeeds (tree_in l.nodes l.fn.root) t → BothAreNeeded l.fn.self t → BothAreNeeded l.self t;
}

abbrev pub decreases-Found::add_needs-parts : goal.decreases-Found::add_needs-parts
decreases-Found::add_needs-parts l = l.place

abbrev pub invariant-need_of_branches-branches : goal.invariant-need_of_branches-branches
invariant-need_of_branches-branches l = record {
  below : l.place ≤ l.fn.rest;
  inside : l.place < length l.nodes;
  joins : (here next : ℕ → Bool) → IsAmong l.all here next → Needs here next (tree_in l.nodes l.place)
      → Needs here next (alt (tree_in l.nodes l.fn.first) (tree_in l.nodes l.fn.rest));
}

abbrev pub decreases-need_of_branches-branches : goal.decreases-need_of_branches-branches
decreases-need_of_branches-branches l = l.place
