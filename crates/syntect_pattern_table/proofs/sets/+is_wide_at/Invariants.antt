use Rattle.std.proofs.Common.{◌≡◌, ◌≤◌}
use Rattle.syntect_pattern_table.specs.SetTable.{is_wide, set_in}
use Rattle.syntect_pattern_table.proofs.sets.+is_wide_at.Given as goal

abbrev pub decreases-is_wide_at : goal.decreases-is_wide_at
decreases-is_wide_at l = l.root

abbrev pub invariant-parts : goal.invariant-parts
invariant-parts l = record {
  below : l.place ≤ l.fn.root;
  same : is_wide (set_in l.parts l.place) ≡ is_wide (set_in l.parts l.fn.root);
}

abbrev pub decreases-parts : goal.decreases-parts
decreases-parts l = l.place
