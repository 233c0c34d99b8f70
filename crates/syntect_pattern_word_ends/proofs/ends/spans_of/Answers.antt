use Rattle.std.proofs.Common.{◌∷◌, [], ◌≡◌, ◌<◌, ◌++◌, ℕ, List, refl, sym, subst, ◌∙◌, ap, arith, length, length-append, get_or}
use Rattle.syntect_pattern_word_ends.specs.syntect_pattern.Trees.{nothing}
use Rattle.syntect_pattern_table.specs.Table.{trees}
use Rattle.syntect_pattern_table.specs.Starts.{begins_at}
use Rattle.syntect_pattern_table.specs.declared.starts.Places.{Places}
use Rattle.syntect_pattern_table.proofs.LookLaws.{tree-is}
use Rattle.syntect_pattern_word_ends.specs.Ends.{Span, spans}
use Rattle.syntect_pattern_word_ends.proofs.SpanLaws.{Span-push}
use Rattle.syntect_pattern_word_ends.proofs.ends.spans_of.Goals as goal

pub loop-place-preserved : goal.loop-place-preserved
loop-place-preserved c =
    let nodes = c.args.nodes.now in
    let ts = trees c.args.nodes.now in
    let place = c.loop-place.place in
    let reads : List Places = c.loop-place.reads.items in
    let stays : List Places = c.loop-place.stays.items in
    let next = c.spans_of_node-next.result in
    let tree = tree-is nodes c.requires place c.index-nodes-place.result (omega arith) c.index-nodes-place.is c.index-nodes-place.result refl in
    let spanned : (x : ℕ) → x < 130 → begins_at x next ≡ spans c.args.blank x (get_or ts place nothing) =
    λ x l.
    let before : Span c.args.blank x c.as_slice.result.now c.as_slice-in-loop-place.result.now ts =
    subst (λ (rs : List Places). Span c.args.blank x rs c.as_slice-in-loop-place.result.now ts) (sym c.as_slice.ensures.value)
    (subst (λ (ss : List Places). Span c.args.blank x reads ss ts) (sym c.as_slice-in-loop-place.ensures.value) (c.loop-place.invariant.right x l)) in
    c.spans_of_node-next.ensures ts x l before ∙ ap (spans c.args.blank x) (sym tree) in
    record {
      count = ap length c.push_reserved.ensures.items ∙ omega (arith, length-append reads (next.read ∷ []), c.loop-place.invariant.count);
      number = ap length c.push_reserved-in-loop-place.ensures.items ∙ omega (arith, length-append stays (next.stay ∷ []), c.loop-place.invariant.number);
      read_room = omega (arith, c.push_reserved.ensures.capacity, c.loop-place.invariant.read_room);
      stay_room = omega (arith, c.push_reserved-in-loop-place.ensures.capacity, c.loop-place.invariant.stay_room);
      right = λ x l. subst (λ (rs : List Places). Span c.args.blank x rs c.push_reserved-in-loop-place.new.self.items ts) (sym c.push_reserved.ensures.items)
          (subst (λ (ss : List Places). Span c.args.blank x (reads ++ next.read ∷ []) ss ts) (sym c.push_reserved-in-loop-place.ensures.items)
          (Span-push c.args.blank x reads stays ts next place (c.loop-place.invariant.right x l) c.loop-place.invariant.count c.loop-place.invariant.number (spanned x l)));
    }
