use Rattle.std.proofs.Common.{◌≡◌, length, take}
use Rattle.syntect_pattern_plan.specs.syntect_pattern_table.Table.{AreSpelt, trees}
use Rattle.syntect_pattern_plan.specs.Order.{AreSizes}
use Rattle.syntect_pattern_plan.specs.Passes.{ArePasses}
use Rattle.syntect_pattern_plan.proofs.passes.passes_of.Given as goal

abbrev pub invariant-loop-node : goal.invariant-loop-node
invariant-loop-node l = record {
  count : length l.sizes.items ≡ l.node-index;
  same : length l.passes.items ≡ l.node-index;
  sized : AreSizes l.sizes.items (trees (take l.node-index l.program.nodes));
  passed : ArePasses l.passes.items (trees (take l.node-index l.program.nodes));
}
