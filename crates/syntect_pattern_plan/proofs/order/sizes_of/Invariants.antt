use Rattle.std.proofs.Common.{◌≡◌, length, take}
use Rattle.syntect_pattern_plan.specs.syntect_pattern_table.Table.{AreSpelt, trees}
use Rattle.syntect_pattern_plan.specs.Order.{AreSizes}
use Rattle.syntect_pattern_plan.proofs.order.sizes_of.Given as goal

abbrev pub invariant-loop-node : goal.invariant-loop-node
invariant-loop-node l = record {
  count : length l.sizes.items ≡ l.node-index;
  right : AreSpelt l.nodes → AreSizes l.sizes.items (trees (take l.node-index l.nodes));
}
