use Rattle.std.proofs.Common.{◌≡◌, length, take}
use Rattle.syntect_pattern_plan.specs.syntect_pattern_table.Table.{trees}
use Rattle.syntect_pattern_plan.specs.Facts.{AreFacts}
use Rattle.syntect_pattern_plan.proofs.facts.facts_of.Given as goal

abbrev pub invariant-loop-node : goal.invariant-loop-node
invariant-loop-node l = record {
  count : length l.facts.items ≡ l.node-index;
  right : AreFacts l.facts.items (trees (take l.node-index l.nodes));
}
