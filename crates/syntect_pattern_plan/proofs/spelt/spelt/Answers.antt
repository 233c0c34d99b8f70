use Rattle.std.proofs.Common.{◌≡◌, ◌∷◌, [], List, ap, subst, sym, ◌∙◌, arith, length, length-append, get_or}
use Rattle.syntect_pattern_plan.specs.syntect_pattern_table.Builder.{Holds, tree_in}
use Rattle.syntect_pattern_plan.specs.syntect_pattern_table.Table.{AreSpelt, node_tree, trees}
use Rattle.syntect_pattern_plan.specs.syntect_pattern_table.declared.node.Node.{Node}
use Rattle.syntect_pattern_plan.proofs.syntect_pattern_table_proofs.BuilderLaws.{length-trees}
use Rattle.syntect_pattern_steps.proofs.OkLaws.{if_ok_map}
use Rattle.syntect_pattern_plan.specs.Spelt.{AllBelow, ArePlaces}
use Rattle.syntect_pattern_plan.proofs.BuildLaws.{ok-both}
use Rattle.syntect_pattern_plan.proofs.SpeltLaws.{places-inside, places-more, program-same}
use Rattle.syntect_pattern_plan.proofs.spelt.spelt.Goals as goal

pub push_node-requires-clause-below : goal.push_node-requires-clause-below
push_node-requires-clause-below c =
    let olds : List Node = c.args.program.now.nodes in
    let mid : List Node = c.loop-node.spelling.nodes in
    subst (AllBelow (length mid)) (sym c.as_slice.ensures.value) (places-inside (trees olds) mid c.loop-node.places.items c.loop-node.invariant.placed)

pub loop-node-preserved : goal.loop-node-preserved
loop-node-preserved c =
    let i = c.loop-node.invariant in
    let olds : List Node = c.args.program.now.nodes in
    let mid = c.loop-node.spelling.nodes in
    let places = c.loop-node.places.items in
    let read : c.as_slice-node-items.result.now ≡ olds = c.as_slice-node-items.ensures in
    let long : length c.as_slice-node-items.result.now ≡ length olds = ap length read in
    let is : c.node-item.result ≡ get_or olds c.loop-node.node-index c.node-item.result =
    c.node-item.is ∙ ap (λ (ns : List Node). get_or ns c.loop-node.node-index c.node-item.result) read in
    let holds : Holds c.push_node.new.self.nodes c.in_ok-place.place (node_tree (trees olds) c.node-item.result) =
    c.in_ok-place.ensures.holds (trees olds) (subst (ArePlaces (trees olds) mid) (sym c.as_slice.ensures.value) i.placed) in
    record {
      count = ap length c.in_ok-push.ensures.items ∙ omega (arith, length-append places (c.in_ok-place.place ∷ []), i.count);
      placed = places-more olds mid c.push_node.new.self.nodes places c.push.new.self.items c.in_ok-place.place c.loop-node.node-index c.node-item.result
          c.args.program.now.ordered i.count (omega (arith, long, c.loop-node-test.true)) is c.in_ok-place.ensures.grows i.placed holds c.in_ok-push.ensures.items;
    }

pub new-requires-2-clause-inside : goal.new-requires-2-clause-inside
new-requires-2-clause-inside c =
    let i = c.loop-node.invariant in
    let olds : List Node = c.args.program.now.nodes in
    let long : length (trees olds) ≡ length c.as_slice-2.result.now =
    omega (arith, length-trees olds, i.count, c.loop-node-test.false, ap length c.as_slice-node-items.ensures, ap length c.as_slice-2.ensures.value) in
    (c.in_ok-root.ensures.holds (trees olds) long (subst (ArePlaces (trees olds) c.loop-node.spelling.nodes) (sym c.as_slice-2.ensures.value) i.placed)).inside

pub returns-clause-spelt : goal.returns-clause-spelt
returns-clause-spelt c = if_ok_map c.new-2.result _ _ (λ p e. subst AreSpelt (sym e) c.push_root.new.self.spelt) c.new-2.ensures.nodes

pub returns-clause-root : goal.returns-clause-root
returns-clause-root c =
    let i = c.loop-node.invariant in
    let olds : List Node = c.args.program.now.nodes in
    let long : length (trees olds) ≡ length c.as_slice-2.result.now =
    omega (arith, length-trees olds, i.count, c.loop-node-test.false, ap length c.as_slice-node-items.ensures, ap length c.as_slice-2.ensures.value) in
    let h = c.in_ok-root.ensures.holds (trees olds) long (subst (ArePlaces (trees olds) c.loop-node.spelling.nodes) (sym c.as_slice-2.ensures.value) i.placed) in
    ok-both c.new-2.result _ _ _ (λ p a b. ap (λ (ns : List Node). tree_in ns p.root) a ∙ ap (tree_in c.push_root.new.self.nodes) b ∙ h.is) c.new-2.ensures.nodes c.new-2.ensures.root

pub returns-clause-program : goal.returns-clause-program
returns-clause-program c =
    let i = c.loop-node.invariant in
    let olds : List Node = c.args.program.now.nodes in
    let long : length (trees olds) ≡ length c.as_slice-2.result.now =
    omega (arith, length-trees olds, i.count, c.loop-node-test.false, ap length c.as_slice-node-items.ensures, ap length c.as_slice-2.ensures.value) in
    let h = c.in_ok-root.ensures.holds (trees olds) long (subst (ArePlaces (trees olds) c.loop-node.spelling.nodes) (sym c.as_slice-2.ensures.value) i.placed) in
    program-same c.new-2.result c.args.program.now c.push_root.new.self.nodes c.in_ok-root.root h.is
    c.new-2.ensures.nodes c.new-2.ensures.root c.new-2.ensures.groups c.new-2.ensures.starts c.new-2.ensures.needs
