use Rattle.syntect_pattern_table.specs.Builder.{tree_in}
use Rattle.syntect_pattern_table.specs.Table.{trees}
use Rattle.syntect_pattern_table.proofs.LookLaws.{tree-is}
use Rattle.std.proofs.Common.{◌≡◌, true, ap, ◌∙◌, refl}
use Rattle.syntect_pattern_table.specs.Table.{node_tree}
use Rattle.syntect_pattern_compile.specs.NeedViews.{is_one}
use Rattle.syntect_pattern_compile.proofs.NeedLaws.{need-pair}
use Rattle.syntect_pattern_compile.proofs.needs.pair_of.Goals as goal

pub returns : goal.returns
returns c =
    let nodes = c.args.nodes.now in
    let tree : tree_in nodes c.args.first ≡ node_tree (trees nodes) c.index-nodes-first.result =
    tree-is nodes c.requires.table.ordered c.args.first c.index-nodes-first.result c.requires.first c.index-nodes-first.is c.index-nodes-first.result refl in
    let one : is_one (tree_in nodes c.args.first) ≡ true = ap is_one tree ∙ c.is_single.ensures c.if-not-is_single.false (trees nodes) in
    rw c.weighed.ensures.here (rw c.weighed.ensures.next
    (need-pair c.places_at-here.result c.places_at.result (tree_in nodes c.args.first) (tree_in nodes c.args.second) one c.if-here.false
    (c.places_at-here.ensures (trees nodes) c.requires.table.begun) (c.places_at.ensures (trees nodes) c.requires.table.begun)))
