use Rattle.std.proofs.Common.{◌≡◌, length}
use Rattle.syntect_pattern_plan.specs.syntect_pattern_table.Table.{trees}
use Rattle.syntect_pattern_plan.specs.Spelt.{ArePlaces}
use Rattle.syntect_pattern_plan.proofs.spelt.spelt.Given as goal

abbrev pub invariant-loop-node : goal.invariant-loop-node
invariant-loop-node l = record {
  count : length l.places.items ≡ l.node-index;
  placed : ArePlaces (trees l.program.nodes) l.spelling.nodes l.places.items;
}
