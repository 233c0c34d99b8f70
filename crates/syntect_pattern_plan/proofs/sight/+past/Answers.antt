use Rattle.std.proofs.Common.{◌≡◌, ◌||◌, ℕ, Bool, List, ap, sym, ◌∙◌, arith, get_or, subst, true, refl}
use Rattle.syntect_pattern_plan.specs.syntect_pattern.Trees.{Tree, nothing, seq, alt}
use Rattle.syntect_pattern_plan.specs.syntect_pattern_table.Program.{trees_of}
use Rattle.syntect_pattern_plan.specs.syntect_pattern_table.Table.{node_tree}
use Rattle.syntect_pattern_plan.specs.syntect_pattern_table.declared.node.Node.{Node}
use Rattle.syntect_pattern_steps.proofs.OkLaws.{if_ok_map}
use Rattle.syntect_pattern_plan.specs.Onward.{plain}
use Rattle.syntect_pattern_plan.specs.Cells.{tree_size}
use Rattle.syntect_pattern_plan.specs.Sights.{IsImage, flag_of, is_single}
use Rattle.syntect_pattern_plan.proofs.TreeLaws.{and_right}
use Rattle.syntect_pattern_plan.proofs.SightLaws.{image-of, image-seq, image-alt, image-group, image-bounds}
use Rattle.syntect_pattern_plan.proofs.sight.+past.Goals as goal

pub past-requires-in-Some-Sequence : goal.past-requires-in-Some-Sequence
past-requires-in-Some-Sequence t c =
    let s = c.args.text.now in
    let ts = trees_of c.args.program.now in
    let a : Tree = get_or ts c.in-Some-Sequence.first nothing in
    let b : Tree = get_or ts c.in-Some-Sequence.second nothing in
    let tree : get_or ts c.args.node nothing ≡ seq a b = c.in-Some-Sequence.ensures.is ∙ ap (node_tree ts) c.in-Some-Sequence.field-0-is in
    let size : tree_size (get_or ts c.args.node nothing) ≡ tree_size (seq a b) = ap tree_size tree in
    let both : plain (seq a b) ≡ true = ap plain (sym tree) ∙ c.requires.1.1.1.1.0 in (
      omega (arith, c.requires.1.0, size),
      (
        c.requires.1.1.0,
        (
          c.requires.1.1.1.0,
          (
            and_right (plain a) (plain b) both,
            λ q e. image-bounds s c.requires.1.1.0 a c.args.before.now c.in_ok-middle-in-Some-Sequence.middle.items c.requires.1.1.1.1.1 c.in_ok-middle-in-Some-Sequence.ensures q
                (ap (λ (l : List Bool). flag_of l q) (sym c.as_slice.ensures.value) ∙ e),
          ),
        ),
      ),
    )

pub returns-in_ok-middle-in-Some-Sequence : goal.returns-in_ok-middle-in-Some-Sequence
returns-in_ok-middle-in-Some-Sequence t c =
    let s = c.args.text.now in
    let ts = trees_of c.args.program.now in
    let a : Tree = get_or ts c.in-Some-Sequence.first nothing in
    let b : Tree = get_or ts c.in-Some-Sequence.second nothing in
    let tree : get_or ts c.args.node nothing ≡ seq a b = c.in-Some-Sequence.ensures.is ∙ ap (node_tree ts) c.in-Some-Sequence.field-0-is in
    let both : plain (seq a b) ≡ true = ap plain (sym tree) ∙ c.requires.1.1.1.1.0 in
    let mid = c.in_ok-middle-in-Some-Sequence.middle.items in
    if_ok_map c.past-in-Some-Sequence.result
    (λ row. IsImage s b c.as_slice.result.now row.items)
    (λ row. IsImage s (get_or ts c.args.node nothing) c.args.before.now row.items)
    (λ row h. image-of s _ (seq a b) c.args.before.now row.items tree
    (image-seq s c.requires.1.1.0 a b c.args.before.now mid row.items both c.requires.1.1.1.1.1 c.in_ok-middle-in-Some-Sequence.ensures
    (subst (λ (m : List Bool). IsImage s b m row.items) c.as_slice.ensures.value h)))
    c.past-in-Some-Sequence.ensures

pub returns-in_ok-other-in-Some-Alternation : goal.returns-in_ok-other-in-Some-Alternation
returns-in_ok-other-in-Some-Alternation t c =
    let s = c.args.text.now in
    let ts = trees_of c.args.program.now in
    let a : Tree = get_or ts c.in-Some-Alternation.first nothing in
    let b : Tree = get_or ts c.in-Some-Alternation.second nothing in
    let tree : get_or ts c.args.node nothing ≡ alt a b = c.in-Some-Alternation.ensures.is ∙ ap (node_tree ts) c.in-Some-Alternation.field-0-is in
    let one = c.in_ok-one-in-Some-Alternation.one.items in
    let other = c.in_ok-other-in-Some-Alternation.other.items in
    if_ok_map c.either.result
    (λ row. (j : ℕ) → flag_of row.items j ≡ (flag_of c.as_slice-in-Some-Alternation.result.now j || flag_of c.as_slice-in-Some-Alternation-2.result.now j))
    (λ row. IsImage s (get_or ts c.args.node nothing) c.args.before.now row.items)
    (λ row h. image-of s _ (alt a b) c.args.before.now row.items tree
    (image-alt s c.requires.1.1.0 a b c.args.before.now one other row.items c.in_ok-one-in-Some-Alternation.ensures c.in_ok-other-in-Some-Alternation.ensures
    (λ j. h j
    ∙ ap (λ (l : List Bool). flag_of l j || flag_of c.as_slice-in-Some-Alternation-2.result.now j) c.as_slice-in-Some-Alternation.ensures.value
    ∙ ap (λ (l : List Bool). flag_of one j || flag_of l j) c.as_slice-in-Some-Alternation-2.ensures.value)))
    c.either.ensures

pub returns-in-Some-Group : goal.returns-in-Some-Group
returns-in-Some-Group t c =
    let s = c.args.text.now in
    let ts = trees_of c.args.program.now in
    let a : Tree = get_or ts c.in-Some-Group.body nothing in
    let tree = c.in-Some-Group.ensures.is ∙ ap (node_tree ts) c.in-Some-Group.field-0-is in
    if_ok_map c.past-in-Some-Group.result
    (λ row. IsImage s a c.args.before.now row.items)
    (λ row. IsImage s (get_or ts c.args.node nothing) c.args.before.now row.items)
    (λ row h. image-of s _ _ c.args.before.now row.items tree (image-group s c.requires.1.1.0 _ a c.args.before.now row.items h))
    c.past-in-Some-Group.ensures

pub returns-in-None : goal.returns-in-None
returns-in-None t c =
    let s = c.args.text.now in
    let ts = trees_of c.args.program.now in
    if_ok_map c.past_single-in-None.result
    (λ row. (us : List Tree) → is_single (node_tree us Node.Nothing) ≡ true → IsImage s (node_tree us Node.Nothing) c.args.before.now row.items)
    (λ row. IsImage s (get_or ts c.args.node nothing) c.args.before.now row.items)
    (λ row h. image-of s _ nothing c.args.before.now row.items c.in-None.ensures.is (h ts refl))
    c.past_single-in-None.ensures
