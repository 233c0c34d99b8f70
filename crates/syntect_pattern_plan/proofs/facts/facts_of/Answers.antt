use Rattle.std.proofs.Common.{List, [], ap, subst, sym, ◌∙◌, arith, length, length-append, ◌∷◌, take}
use Rattle.syntect_pattern_plan.specs.syntect_pattern_table.Table.{trees}
use Rattle.syntect_pattern_plan.specs.Facts.{AreFacts}
use Rattle.syntect_pattern_plan.specs.declared.facts.Facts.{Facts}
use Rattle.syntect_pattern_plan.proofs.FactLaws.{facts-more, facts-none}
use Rattle.syntect_pattern_plan.proofs.facts.facts_of.Goals as goal

pub loop-node-init : goal.loop-node-init
loop-node-init c = record { count = ap length c.new-facts.ensures.items; right = facts-none c.new-facts.result.items c.new-facts.ensures.items }

pub loop-node-preserved : goal.loop-node-preserved
loop-node-preserved c = record {
  count = ap length c.in_ok-push.ensures.items ∙ omega (arith, length-append c.loop-node.facts.items (c.node_facts-next.result ∷ []), c.loop-node.invariant.count);
  right =
      let before : AreFacts c.as_slice.result.now (trees (take c.loop-node.node-index c.args.nodes.now)) =
      subst (λ (fs : List Facts). AreFacts fs (trees (take c.loop-node.node-index c.args.nodes.now))) (sym c.as_slice.ensures.value) c.loop-node.invariant.right in
      facts-more c.args.nodes.now c.loop-node.facts.items c.push.new.self.items c.node_facts-next.result c.loop-node.node-index c.node-item.result
      c.in_ok-push.ensures.items c.loop-node.invariant.count (omega arith) c.node-item.is c.loop-node.invariant.right
      (c.node_facts-next.ensures (trees (take c.loop-node.node-index c.args.nodes.now)) before);
}
