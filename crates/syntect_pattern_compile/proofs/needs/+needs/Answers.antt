use Rattle.std.proofs.Common.{◌≡◌, ◌<◌, ◌∷◌, ℕ, List, arith, refl, subst, sym}
use Rattle.std.proofs.lemmas.Bool.{ltb-true}
use Rattle.syntect_pattern.specs.Letters.{letters_of, letters_tree}
use Rattle.syntect_pattern.specs.Trees.{Tree, alt, seq}
use Rattle.syntect_pattern_table.specs.Builder.{tree_in}
use Rattle.syntect_pattern_table.specs.Needs.{Needs}
use Rattle.syntect_pattern_table.specs.Starts.{is_in}
use Rattle.syntect_pattern_table.specs.Table.{node_tree, trees}
use Rattle.syntect_pattern_table.specs.declared.node.Node.{Node}
use Rattle.syntect_pattern_table.proofs.LookLaws.{parts-are, second-before, tree-is}
use Rattle.syntect_pattern_compile.specs.NeedViews.{PassesNeeds}
use Rattle.syntect_pattern_compile.proofs.NeedLaws.{need-among, need-behind, need-either, need-first, need-second}
use Rattle.syntect_pattern_compile.proofs.needs.+needs.Goals as goal

pub Found::add_first-returns-in-Some : goal.Found::add_first-returns-in-Some
Found::add_first-returns-in-Some t c = λ tree leads both.
    c.add.ensures tree (leads (is_in c.in-Some.pair.here) (is_in c.in-Some.pair.next) c.in-Some.ensures) both

pub Found::add_first-returns-in-None : goal.Found::add_first-returns-in-None
Found::add_first-returns-in-None t c = λ tree leads both.
    let nodes = c.args.nodes.now in
    c.add_needs.ensures tree
    (λ here next n. leads here next (need-first here next (tree_in nodes c.args.first) (tree_in nodes c.args.second) n)) both

pub Found::add_needs-returns-then-self-gt-SELDOM : goal.Found::add_needs-returns-then-self-gt-SELDOM
Found::add_needs-returns-then-self-gt-SELDOM t c = λ tree leads both.
    let nodes = c.args.nodes.now in
    let branches : Tree = alt (tree_in nodes c.in-Alternation.first) (tree_in nodes c.in-Alternation.rest) in
    let it : tree_in nodes c.parts.place ≡ branches =
    tree-is nodes c.requires.table.ordered c.parts.place c.index-nodes-place.result c.parts.invariant.inside c.index-nodes-place.is
    (Node.Alternation c.in-Alternation.first c.in-Alternation.rest) c.in-Alternation.is in
    let on : PassesNeeds branches tree = λ here next n. leads here next (c.parts.invariant.leads here next (subst (Needs here next) (sym it) n)) in
    let one = c.need_of_branches in
    let two = c.need_of_branches-then-self-gt-SELDOM in
    c.add-then-self-gt-SELDOM.ensures tree (on (is_in two.result.here) (is_in two.result.next) two.ensures)
    (c.add.ensures tree (on (is_in one.result.here) (is_in one.result.next) one.ensures) (c.parts.invariant.kept tree leads both))

pub Found::add_needs-returns-else-self-gt-SELDOM : goal.Found::add_needs-returns-else-self-gt-SELDOM
Found::add_needs-returns-else-self-gt-SELDOM t c = λ tree leads both.
    let nodes = c.args.nodes.now in
    let branches : Tree = alt (tree_in nodes c.in-Alternation.first) (tree_in nodes c.in-Alternation.rest) in
    let it : tree_in nodes c.parts.place ≡ branches =
    tree-is nodes c.requires.table.ordered c.parts.place c.index-nodes-place.result c.parts.invariant.inside c.index-nodes-place.is
    (Node.Alternation c.in-Alternation.first c.in-Alternation.rest) c.in-Alternation.is in
    let one = c.need_of_branches in
    c.add.ensures tree
    (leads (is_in one.result.here) (is_in one.result.next) (c.parts.invariant.leads (is_in one.result.here) (is_in one.result.next)
    (subst (Needs (is_in one.result.here) (is_in one.result.next)) (sym it) one.ensures)))
    (c.parts.invariant.kept tree leads both)

pub Found::add_needs-returns-in-None : goal.Found::add_needs-returns-in-None
Found::add_needs-returns-in-None t c = λ tree leads both.
    let one = c.begin_of in
    c.add-in-None.ensures tree
    (leads (is_in one.result.here) (is_in one.result.next) (c.parts.invariant.leads (is_in one.result.here) (is_in one.result.next)
    (one.ensures (trees c.args.nodes.now) c.requires.table.begun)))
    (c.parts.invariant.kept tree leads both)

pub Found::add_needs-parts-preserved-in-Sequence : goal.Found::add_needs-parts-preserved-in-Sequence
Found::add_needs-parts-preserved-in-Sequence t c =
    let nodes = c.args.nodes.now in
    let x = tree_in nodes c.in-Sequence.first in
    let y = tree_in nodes c.in-Sequence.second in
    let it : tree_in nodes c.parts.place ≡ seq x y =
    tree-is nodes c.requires.table.ordered c.parts.place c.index-nodes-place.result c.parts.invariant.inside c.index-nodes-place.is
    (Node.Sequence c.in-Sequence.first c.in-Sequence.second) c.in-Sequence.is in
    let before : c.in-Sequence.second < c.parts.place =
    second-before nodes c.requires.table.ordered c.parts.place c.index-nodes-place.result c.parts.invariant.inside c.index-nodes-place.is
    (Node.Sequence c.in-Sequence.first c.in-Sequence.second) c.in-Sequence.is c.in-Sequence.first c.in-Sequence.second refl in
    let on : PassesNeeds (seq x y) (tree_in nodes c.args.root) = λ here next n. c.parts.invariant.leads here next (subst (Needs here next) (sym it) n) in
    record {
      below = omega (arith, before, c.parts.invariant.below);
      inside = omega (arith, before, c.parts.invariant.inside);
      leads = λ here next n. on here next (need-second here next x y n);
      kept = λ tree leads both.
          c.add_first.ensures tree (λ here next n. leads here next (on here next n)) (c.parts.invariant.kept tree leads both);
    }

pub Found::add_needs-parts-preserved-in-Text : goal.Found::add_needs-parts-preserved-in-Text
Found::add_needs-parts-preserved-in-Text t c =
    let nodes = c.args.nodes.now in
    let l = c.in-Text.letters in
    let u = tree_in nodes c.in-Text.rest in
    let it : tree_in nodes c.parts.place ≡ letters_tree l.fold (letters_of l) u =
    tree-is nodes c.requires.table.ordered c.parts.place c.index-nodes-place.result c.parts.invariant.inside c.index-nodes-place.is
    (Node.Text l c.in-Text.rest) c.in-Text.is in
    let before : c.in-Text.rest < c.parts.place =
    ltb-true c.in-Text.rest c.parts.place
    (parts-are nodes c.requires.table.ordered c.parts.place c.index-nodes-place.result c.parts.invariant.inside c.index-nodes-place.is
    (Node.Text l c.in-Text.rest) c.in-Text.is) in
    let on : PassesNeeds (letters_tree l.fold (letters_of l) u) (tree_in nodes c.args.root) = λ here next n. c.parts.invariant.leads here next (subst (Needs here next) (sym it) n) in
    record {
      below = omega (arith, before, c.parts.invariant.below);
      inside = omega (arith, before, c.parts.invariant.inside);
      leads = λ here next n. on here next (need-behind here next l.fold (letters_of l) u n);
      kept = λ tree leads both.
          c.add_letters.ensures tree u
          (λ here next n. leads here next (on here next (subst (λ (cs : List ℕ). Needs here next (letters_tree l.fold (l.first ∷ cs) u)) c.others.ensures n)))
          (c.places_at-behind.ensures (trees nodes) c.requires.table.begun) (c.parts.invariant.kept tree leads both);
    }

pub Found::add_needs-parts-preserved : goal.Found::add_needs-parts-preserved
Found::add_needs-parts-preserved t c =
    let nodes = c.args.nodes.now in
    let it : tree_in nodes c.parts.place ≡ node_tree (trees nodes) c.index-nodes-place.result =
    tree-is nodes c.requires.table.ordered c.parts.place c.index-nodes-place.result c.parts.invariant.inside c.index-nodes-place.is
    c.index-nodes-place.result refl in
    let before : c.in-Some.part < c.parts.place =
    c.in-Some.ensures.before c.parts.place
    (parts-are nodes c.requires.table.ordered c.parts.place c.index-nodes-place.result c.parts.invariant.inside c.index-nodes-place.is
    c.index-nodes-place.result refl) in
    record {
      below = omega (arith, before, c.parts.invariant.below);
      inside = omega (arith, before, c.parts.invariant.inside);
      leads = λ here next n. c.parts.invariant.leads here next (subst (Needs here next) (sym it) (c.in-Some.ensures.leads (trees nodes) here next n));
      kept = c.parts.invariant.kept;
    }

pub need_of_branch-returns : goal.need_of_branch-returns
need_of_branch-returns t c =
    let tree = tree_in c.args.nodes.now c.args.place in
    (c.add_needs.ensures tree (λ here next n. n) (c.new-found.ensures tree)).0

pub need_of_branches-returns-in_default : goal.need_of_branches-returns-in_default
need_of_branches-returns-in_default t c =
    let nodes = c.args.nodes.now in
    let all = c.one_of_two.result in
    c.branches.invariant.joins (is_in all.here) (is_in all.next) c.one_of_two.ensures.left
    (need-among c.need_of_branch.result (is_in all.here) (is_in all.next) (tree_in nodes c.branches.place) c.one_of_two.ensures.right c.need_of_branch.ensures)

pub need_of_branches-branches-preserved : goal.need_of_branches-branches-preserved
need_of_branches-branches-preserved t c =
    let nodes = c.args.nodes.now in
    let x = tree_in nodes c.in-Alternation.first in
    let y = tree_in nodes c.in-Alternation.second in
    let it : tree_in nodes c.branches.place ≡ alt x y =
    tree-is nodes c.requires.table.ordered c.branches.place c.index-nodes-place.result c.branches.invariant.inside c.index-nodes-place.is
    (Node.Alternation c.in-Alternation.first c.in-Alternation.second) c.in-Alternation.is in
    let before : c.in-Alternation.second < c.branches.place =
    second-before nodes c.requires.table.ordered c.branches.place c.index-nodes-place.result c.branches.invariant.inside c.index-nodes-place.is
    (Node.Alternation c.in-Alternation.first c.in-Alternation.second) c.in-Alternation.is c.in-Alternation.first c.in-Alternation.second refl in
    record {
      below = omega (arith, before, c.branches.invariant.below);
      inside = omega (arith, before, c.branches.invariant.inside);
      joins = λ here next among n.
          c.branches.invariant.joins here next
          (λ k e. among.0 k (c.one_of_two-all.ensures.left.0 k e), λ k e. among.1 k (c.one_of_two-all.ensures.left.1 k e))
          (subst (Needs here next) (sym it) (need-either here next x y
          (need-among c.need_of_branch-in-branches.result here next x
          (λ k e. among.0 k (c.one_of_two-all.ensures.right.0 k e), λ k e. among.1 k (c.one_of_two-all.ensures.right.1 k e))
          c.need_of_branch-in-branches.ensures) n));
    }
