use Rattle.std.proofs.Common.{◌≡◌, ℕ, List, [], ap, subst, sym, ◌∙◌, arith, length, length-append, ◌∷◌, take, false, get_or, ◌<◌}
use Rattle.std.proofs.lemmas.List.{get_or_default}
use Rattle.syntect_pattern_plan.specs.syntect_pattern_table.Table.{is_text, trees}
use Rattle.syntect_pattern_plan.specs.syntect_pattern_table.declared.node.Node.{Node}
use Rattle.syntect_pattern_plan.specs.Order.{AreSizes}
use Rattle.syntect_pattern_plan.specs.Passes.{ArePasses}
use Rattle.syntect_pattern_plan.proofs.OrderLaws.{passes-more, passes-none, sizes-more, sizes-none}
use Rattle.syntect_pattern_plan.proofs.passes.passes_of.Goals as goal

pub loop-node-init : goal.loop-node-init
loop-node-init c = record {
  count = ap length c.new-sizes.ensures.items;
  same = ap length c.new-passes.ensures.items;
  sized = sizes-none c.new-sizes.result.items c.new-sizes.ensures.items;
  passed = passes-none c.new-passes.result.items c.new-passes.ensures.items;
}

pub loop-node-preserved : goal.loop-node-preserved
loop-node-preserved c =
    let i : ℕ = c.loop-node.node-index in
    let nodes : List Node = c.args.program.now.nodes in
    let ns : List ℕ = c.loop-node.sizes.items in
    let ps : List ℕ = c.loop-node.passes.items in
    let inside : i < length nodes = omega (arith, ap length c.as_slice-node-items.ensures) in
    let here : c.node-item.result ≡ get_or nodes i c.node-item.result = c.node-item.is ∙ ap (λ (l : List Node). get_or l i c.node-item.result) c.as_slice-node-items.ensures in
    let plain : is_text c.node-item.result ≡ false = ap is_text (here ∙ get_or_default nodes i c.node-item.result Node.Nothing inside) ∙ c.requires i in
    let sizes : AreSizes c.as_slice.result.now (trees (take i nodes)) = subst (λ (l : List ℕ). AreSizes l (trees (take i nodes))) (sym c.as_slice.ensures.value) c.loop-node.invariant.sized in
    let sized : AreSizes c.as_slice-in-loop-node.result.now (trees (take i nodes)) = subst (λ (l : List ℕ). AreSizes l (trees (take i nodes))) (sym c.as_slice-in-loop-node.ensures.value) c.loop-node.invariant.sized in
    let passed : ArePasses c.as_slice-in-loop-node-2.result.now (trees (take i nodes)) = subst (λ (l : List ℕ). ArePasses l (trees (take i nodes))) (sym c.as_slice-in-loop-node-2.ensures.value) c.loop-node.invariant.passed in
    record {
      count = ap length c.in_ok-push.ensures.items ∙ omega (arith, length-append ns (c.node_size-size.result ∷ []), c.loop-node.invariant.count);
      same = ap length c.in_ok-push-2.ensures.items ∙ omega (arith, length-append ps (c.node_passes-more.result ∷ []), c.loop-node.invariant.same);
      sized = sizes-more nodes ns c.push.new.self.items c.node_size-size.result i c.node-item.result c.in_ok-push.ensures.items c.loop-node.invariant.count inside here c.loop-node.invariant.sized
          (c.node_size-size.ensures (trees (take i nodes)) sizes plain);
      passed = passes-more nodes ps c.push-in-loop-node.new.self.items c.node_passes-more.result i c.node-item.result c.in_ok-push-2.ensures.items c.loop-node.invariant.same inside here c.loop-node.invariant.passed
          (c.node_passes-more.ensures (trees (take i nodes)) sized passed plain);
    }
