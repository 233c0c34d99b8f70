use Rattle.std.proofs.Common.{◌≡◌, List, [], length, take}
use Rattle.syntect_pattern_plan.specs.syntect_pattern.Trees.{Tree}
use Rattle.syntect_pattern_plan.specs.Cells.{heights_from}
use Rattle.syntect_pattern_plan.specs.Facts.{AreFacts}
use Rattle.syntect_pattern_plan.specs.Order.{AreSizes, AreCapped}
use Rattle.syntect_pattern_plan.proofs.order.heights_of.Given as goal

abbrev pub invariant-loop-number : goal.invariant-loop-number
invariant-loop-number l = record {
  count : length l.heights.items ≡ l.number;
  right : (ts : List Tree) → AreFacts l.plan.facts ts → AreSizes l.sizes ts → AreCapped l.heights.items (heights_from ts [] (take l.number l.plan.cells));
}
