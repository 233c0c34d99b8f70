use Rattle.std.proofs.Common.{◌≡◌, ◌∷◌, ℕ, List, sym, subst}
use Rattle.syntect_pattern.specs.Trees.{seq}
use Rattle.syntect_pattern.specs.Letters.{letters_of, letters_tree}
use Rattle.syntect_pattern_table.specs.Builder.{tree_in}
use Rattle.syntect_pattern_table.specs.Table.{trees}
use Rattle.syntect_pattern_table.specs.declared.node.Node.{Node}
use Rattle.syntect_pattern_table.proofs.LookLaws.{tree-is}
use Rattle.syntect_pattern_compile.specs.NeedViews.{IsNeeded}
use Rattle.syntect_pattern_compile.proofs.needs.leading.Goals as goal

pub returns-in-Some : goal.returns-in-Some
returns-in-Some c =
    let nodes = c.args.nodes.now in
    let tree : tree_in nodes c.args.place ≡ seq (tree_in nodes c.in-Sequence.first) (tree_in nodes c.in-Sequence.second) =
    tree-is nodes c.requires.table.ordered c.args.place c.index-nodes-place.result c.requires.inside c.index-nodes-place.is
    (Node.Sequence c.in-Sequence.first c.in-Sequence.second) c.in-Sequence.is in
    subst (IsNeeded c.in-Some.pair) (sym tree) c.in-Some.ensures

pub returns-in-Text : goal.returns-in-Text
returns-in-Text c =
    let nodes = c.args.nodes.now in
    let l = c.in-Text.letters in
    let tree : tree_in nodes c.args.place ≡ letters_tree l.fold (letters_of l) (tree_in nodes c.in-Text.rest) =
    tree-is nodes c.requires.table.ordered c.args.place c.index-nodes-place.result c.requires.inside c.index-nodes-place.is
    (Node.Text l c.in-Text.rest) c.in-Text.is in
    subst (IsNeeded c.pair_of_letters.result) (sym tree)
    (subst (λ (cs : List ℕ). IsNeeded c.pair_of_letters.result (letters_tree l.fold (l.first ∷ cs) (tree_in nodes c.in-Text.rest))) c.others.ensures
    (c.pair_of_letters.ensures (tree_in nodes c.in-Text.rest) (c.places_at-behind.ensures (trees nodes) c.requires.table.begun)))
