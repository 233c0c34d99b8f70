use Rattle.std.proofs.Common.{◌≡◌, ℕ, List, ap, subst, sym, ◌∙◌, add-one, get_or}
use Rattle.syntect_pattern_plan.specs.syntect_pattern.Trees.{Tree}
use Rattle.syntect_pattern_plan.specs.syntect_pattern_table.Program.{trees_of}
use Rattle.syntect_pattern_plan.specs.syntect_pattern_table.Table.{AreSpelt, trees}
use Rattle.syntect_pattern_plan.specs.syntect_pattern_table.declared.node.Node.{Node}
use Rattle.syntect_pattern_plan.specs.Order.{AreSizes}
use Rattle.syntect_pattern_plan.proofs.OrderLaws.{levels-more}
use Rattle.syntect_pattern_plan.proofs.order.order_of.Goals as goal

pub loop-cell-preserved : goal.loop-cell-preserved
loop-cell-preserved c = record {
  all = λ plan.
      let ts : List Tree = trees_of c.args.program.now in
      let spelt : AreSpelt c.as_slice.result.now = subst AreSpelt (sym c.as_slice.ensures) plan.spelt in
      let of_nodes : AreSizes c.in_ok-sizes.sizes.items ts = subst (λ (ns : List Node). AreSizes c.in_ok-sizes.sizes.items (trees ns)) c.as_slice.ensures (c.in_ok-sizes.ensures spelt) in
      let sizes : AreSizes c.as_slice-2.result.now ts = subst (λ (ns : List ℕ). AreSizes ns ts) (sym c.as_slice-2.ensures.value) of_nodes in
      let here : c.number_at.result ≡ get_or c.in_ok-heights.heights.items c.loop-cell.cell 0 = c.number_at.ensures ∙ ap (λ (l : List ℕ). get_or l c.loop-cell.cell 0) c.as_slice-in-loop-cell.ensures.value in
      rw add-one (levels-more ts c.args.plan.now.cells c.loop-cell.order.items c.push.new.self.items c.in_ok-heights.heights.items c.number_at.result c.loop-cell.cell
      (c.in_ok-heights.ensures.heights ts plan.facts_are sizes) here (c.loop-cell.invariant.all plan) c.in_ok-push.ensures.items);
}
