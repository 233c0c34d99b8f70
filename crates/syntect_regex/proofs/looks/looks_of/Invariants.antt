use Rattle.std.proofs.Common.{◌≡◌, ◌≤◌, ◌+◌, ℕ, Some, None, false, length, get_or}
use Rattle.syntect_regex.specs.syntect_pattern_table.Table.{trees}
use Rattle.syntect_regex.specs.syntect_pattern_table.Builder.{tree_in}
use Rattle.syntect_regex.specs.Looks.{joined, met_in, met_before}
use Rattle.syntect_regex.proofs.looks.looks_of.Given as goal

abbrev pub invariant-loop-place : goal.invariant-loop-place
invariant-loop-place l = record {
  later : l.first ≤ l.place;
  inside : l.place ≤ l.root + 1;
  count : length l.marks.items ≡ l.root + 1;
  met : (n : ℕ) → joined (get_or l.looks.items n None) (met_before l.marks.items (trees l.nodes) l.place n) ≡ met_in (Some false) (tree_in l.nodes l.root) n;
}

abbrev pub decreases-loop-place : goal.decreases-loop-place
decreases-loop-place l = l.place
