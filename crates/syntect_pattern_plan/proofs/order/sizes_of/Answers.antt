use Rattle.std.proofs.Common.{◌≡◌, ℕ, List, [], ap, subst, sym, ◌∙◌, arith, length, length-append, ◌∷◌, take, false}
use Rattle.std.proofs.lemmas.List.{get_or_default}
use Rattle.syntect_pattern_plan.specs.syntect_pattern_table.Table.{is_text, trees}
use Rattle.syntect_pattern_plan.specs.syntect_pattern_table.declared.node.Node.{Node}
use Rattle.syntect_pattern_plan.specs.Order.{AreSizes}
use Rattle.syntect_pattern_plan.proofs.OrderLaws.{sizes-more, sizes-none}
use Rattle.syntect_pattern_plan.proofs.order.sizes_of.Goals as goal

pub loop-node-init : goal.loop-node-init
loop-node-init c = record { count = ap length c.new-sizes.ensures.items; right = λ _. sizes-none c.new-sizes.result.items c.new-sizes.ensures.items }

pub loop-node-preserved : goal.loop-node-preserved
loop-node-preserved c = record {
  count = ap length c.in_ok-push.ensures.items ∙ omega (arith, length-append c.loop-node.sizes.items (c.node_size-size.result ∷ []), c.loop-node.invariant.count);
  right = λ spelt.
      let i : ℕ = c.loop-node.node-index in
      let before : AreSizes c.as_slice.result.now (trees (take i c.args.nodes.now)) =
      subst (λ (ns : List ℕ). AreSizes ns (trees (take i c.args.nodes.now))) (sym c.as_slice.ensures.value) (c.loop-node.invariant.right spelt) in
      let plain : is_text c.node-item.result ≡ false = ap is_text (c.node-item.is ∙ get_or_default c.args.nodes.now i c.node-item.result Node.Nothing (omega arith)) ∙ spelt i in
      sizes-more c.args.nodes.now c.loop-node.sizes.items c.push.new.self.items c.node_size-size.result i c.node-item.result
      c.in_ok-push.ensures.items c.loop-node.invariant.count (omega arith) c.node-item.is (c.loop-node.invariant.right spelt)
      (c.node_size-size.ensures (trees (take i c.args.nodes.now)) before plain);
}
