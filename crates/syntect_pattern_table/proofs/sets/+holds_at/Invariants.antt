use Rattle.std.proofs.Common.{◌≡◌, ◌≤◌}
use Rattle.syntect_pattern.specs.Sets.{holds}
use Rattle.syntect_pattern_table.specs.SetTable.{set_in}
use Rattle.syntect_pattern_table.proofs.sets.+holds_at.Given as goal

abbrev pub decreases-holds_at : goal.decreases-holds_at
decreases-holds_at l = l.root

abbrev pub invariant-parts : goal.invariant-parts
invariant-parts l = record {
  below : l.place ≤ l.fn.root;
  same : holds (set_in l.parts l.place) l.c ≡ holds (set_in l.parts l.fn.root) l.c;
}

abbrev pub decreases-parts : goal.decreases-parts
decreases-parts l = l.place
