use Rattle.std.proofs.Common.{◌∷◌, [], ℕ, List, refl, sym, subst, ◌∙◌, ap, arith, length, length-append}
use Rattle.syntect_pattern_table.specs.Table.{parts_before, trees}
use Rattle.syntect_pattern_table.specs.Lengths.{AreLengths, HasLengths}
use Rattle.syntect_pattern_table.specs.declared.lengths.Lengths.{Lengths}
use Rattle.syntect_pattern_table.proofs.LookLaws.{tree-is, parts-are}
use Rattle.syntect_pattern_table.proofs.LengthLaws.{AreLengths-push}
use Rattle.syntect_pattern_table.proofs.lengths.lengths_in.Goals as goal

pub loop-place-preserved : goal.loop-place-preserved
loop-place-preserved c =
    let nodes = c.args.nodes.now in
    let ts = trees c.args.nodes.now in
    let tree = tree-is nodes c.requires c.loop-place.place c.index-nodes-place.result (omega arith) c.index-nodes-place.is c.index-nodes-place.result refl in
    let before : AreLengths c.as_slice.result.now ts = subst (λ (ls : List Lengths). AreLengths ls ts) (sym c.as_slice.ensures.value) c.loop-place.invariant.are in
    record {
      count = ap length c.in_ok-push.ensures.items ∙ omega (arith, length-append c.loop-place.lengths.items (c.lengths_of-next.result ∷ []), c.loop-place.invariant.count);
      are = subst (λ (ls : List Lengths). AreLengths ls ts) (sym c.in_ok-push.ensures.items)
          (AreLengths-push c.loop-place.lengths.items ts c.lengths_of-next.result c.loop-place.place c.loop-place.invariant.are c.loop-place.invariant.count
          (subst (λ t. HasLengths t c.lengths_of-next.result) (sym tree) (c.lengths_of-next.ensures ts before)));
    }

pub lengths_of-next-requires : goal.lengths_of-next-requires
lengths_of-next-requires c =
    ap (λ (k : ℕ). parts_before k c.index-nodes-place.result) (ap length c.as_slice.ensures.value ∙ c.loop-place.invariant.count)
    ∙ parts-are c.args.nodes.now c.requires c.loop-place.place c.index-nodes-place.result (omega arith) c.index-nodes-place.is c.index-nodes-place.result refl

pub returns : goal.returns
returns c = subst (λ (ls : List Lengths). AreLengths ls (trees c.args.nodes.now)) (sym c.from_vec.ensures) c.loop-place.invariant.are
