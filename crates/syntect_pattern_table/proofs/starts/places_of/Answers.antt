use Rattle.std.proofs.Common.{◌∷◌, [], ◌≡◌, ◌<◌, ◌||◌, ◌++◌, ℕ, List, refl, sym, subst, ◌∙◌, ap, arith, length, length-append, get_or}
use Rattle.std.proofs.lemmas.List.{get_or_default}
use Rattle.syntect_pattern.specs.Sets.{range}
use Rattle.syntect_pattern.specs.Trees.{nothing}
use Rattle.syntect_pattern_table.specs.Table.{trees}
use Rattle.syntect_pattern_table.specs.Starts.{AreFirsts, AreWithin, Begin, Begins, begins, begins_at, is_in, none_there, reads, row_at, stays}
use Rattle.syntect_pattern_table.specs.declared.node.Node.{Node}
use Rattle.syntect_pattern_table.specs.declared.starts.Firsts.{Firsts}
use Rattle.syntect_pattern_table.specs.declared.starts.Places.{Places}
use Rattle.syntect_pattern_table.proofs.LookLaws.{first-before, tree-is}
use Rattle.syntect_pattern_table.proofs.BeginLaws.{AreFirsts-push, AreWithin-push, Begin-push, GoesOn-same, alone-begins, front-begins, one-begins}
use Rattle.syntect_pattern_table.proofs.PlaceListLaws.{places_or}
use Rattle.syntect_pattern_table.proofs.starts.places_of.Goals as goal

pub index-requires : goal.index-requires
index-requires c =
    let inside = first-before c.args.nodes.now c.requires c.loop-place.place c.index-nodes-place.result (omega arith) c.index-nodes-place.is
    (Node.Sequence c.in-Sequence.first c.in-Sequence.field-1) c.in-Sequence.is c.in-Sequence.first c.in-Sequence.field-1 refl in
    omega (arith, inside, c.loop-place.invariant.number, c.loop-place.rows.ok.0)

pub loop-place-preserved : goal.loop-place-preserved
loop-place-preserved c =
    let nodes = c.args.nodes.now in
    let ts = trees c.args.nodes.now in
    let place = c.loop-place.place in
    let ps : List Places = c.loop-place.places in
    let rows : List ℕ = c.loop-place.rows.items in
    let fs : List Firsts = c.loop-place.firsts.items in
    let fs' : List Firsts = c.row_of.new.firsts.items in
    let next = c.firsts_of-next.result in
    let p : Places = c.either.result in
    let row : ℕ = c.in_ok-row.row in
    let tree = tree-is nodes c.requires place c.index-nodes-place.result (omega arith) c.index-nodes-place.is c.index-nodes-place.result refl in
    let begun : (x : ℕ) → x < 130 → begins_at x next ≡ begins x (get_or ts place nothing) =
    λ x l.
    let before : Begin x ps c.as_slice.result.now c.as_slice-in-loop-place.result.now ts =
    subst (λ (rs : List ℕ). Begin x ps rs c.as_slice-in-loop-place.result.now ts) (sym c.as_slice.ensures.value)
    (subst (λ (gs : List Firsts). Begin x ps rows gs ts) (sym c.as_slice-in-loop-place.ensures.value) (c.loop-place.invariant.right x l)) in
    c.firsts_of-next.ensures ts x l before ∙ ap (begins x) (sym tree) in
    let first : (x : ℕ) → x < 130 → is_in p x ≡ (reads (get_or ts place nothing) x || stays (get_or ts place nothing) x) =
    λ x l. c.either.ensures x ∙ ap (λ (y : Begins). y.read || y.stay) (begun x l) in
    let placed = c.in_ok-push-3.ensures.ok in
    let rowed = c.push_reserved-in-loop-place.ensures.items in
    record {
      count = ap length placed ∙ omega (arith, length-append ps (p ∷ []), c.loop-place.invariant.count);
      number = ap length rowed ∙ omega (arith, length-append rows (row ∷ []), c.loop-place.invariant.number);
      row_room = omega (arith, c.push_reserved-in-loop-place.ensures.capacity, c.loop-place.invariant.row_room);
      within = subst (λ (rs : List ℕ). AreWithin rs fs') (sym rowed)
          (AreWithin-push 0 ps rows fs fs' ts p row place c.in_ok-row.ensures.kept c.loop-place.invariant.count c.loop-place.invariant.number c.loop-place.invariant.within
          c.in_ok-row.ensures.within);
      right = λ x l. subst (λ (qs : List Places). Begin x qs c.push_reserved-in-loop-place.new.self.items fs' ts) (sym placed)
          (subst (λ (rs : List ℕ). Begin x (ps ++ p ∷ []) rs fs' ts) (sym rowed)
          (Begin-push x ps rows fs fs' ts p row place c.in_ok-row.ensures.kept c.loop-place.invariant.count c.loop-place.invariant.number (c.loop-place.invariant.right x l)
          c.loop-place.invariant.within (c.in_ok-row.ensures.row p x (c.either.ensures x) ∙ begun x l)));
      kept = subst (λ (qs : List Places). AreFirsts qs ts) (sym placed)
          (AreFirsts-push ps ts p place c.loop-place.invariant.kept c.loop-place.invariant.count first);
    }

pub loop-place-preserved-in-Char : goal.loop-place-preserved-in-Char
loop-place-preserved-in-Char c =
    let nodes = c.args.nodes.now in
    let ts = trees c.args.nodes.now in
    let place = c.loop-place.place in
    let ps : List Places = c.loop-place.places in
    let rows : List ℕ = c.loop-place.rows.items in
    let fs : List Firsts = c.loop-place.firsts.items in
    let p : Places = c.places_of_char.result in
    let tree = tree-is nodes c.requires place c.index-nodes-place.result (omega arith) c.index-nodes-place.is (Node.Char c.in-Char.wanted) c.in-Char.is in
    let begun : (x : ℕ) → x < 130 → begins_at x (row_at p fs 0) ≡ begins x (get_or ts place nothing) =
    λ x l. one-begins x p (range c.in-Char.wanted c.in-Char.wanted) (c.places_of_char.ensures x l) ∙ ap (begins x) (sym tree) in
    let placed = c.in_ok-push.ensures.ok in
    let rowed = c.push_reserved.ensures.items in
    record {
      count = ap length placed ∙ omega (arith, length-append ps (p ∷ []), c.loop-place.invariant.count);
      number = ap length rowed ∙ omega (arith, length-append rows (0 ∷ []), c.loop-place.invariant.number);
      row_room = omega (arith, c.push_reserved.ensures.capacity, c.loop-place.invariant.row_room);
      within = subst (λ (rs : List ℕ). AreWithin rs fs) (sym rowed)
          (AreWithin-push 0 ps rows fs fs ts p 0 place (GoesOn-same fs) c.loop-place.invariant.count c.loop-place.invariant.number c.loop-place.invariant.within (omega arith));
      right = λ x l. subst (λ (qs : List Places). Begin x qs c.push_reserved.new.self.items fs ts) (sym placed)
          (subst (λ (rs : List ℕ). Begin x (ps ++ p ∷ []) rs fs ts) (sym rowed)
          (Begin-push x ps rows fs fs ts p 0 place (GoesOn-same fs) c.loop-place.invariant.count c.loop-place.invariant.number (c.loop-place.invariant.right x l)
          c.loop-place.invariant.within (begun x l)));
      kept = subst (λ (qs : List Places). AreFirsts qs ts) (sym placed)
          (AreFirsts-push ps ts p place c.loop-place.invariant.kept c.loop-place.invariant.count (λ x l. alone-begins x p (get_or ts place nothing) (begun x l)));
    }

pub loop-place-preserved-then-index-eq0 : goal.loop-place-preserved-then-index-eq0
loop-place-preserved-then-index-eq0 c =
    let nodes = c.args.nodes.now in
    let ts = trees c.args.nodes.now in
    let place = c.loop-place.place in
    let ps : List Places = c.loop-place.places in
    let rows : List ℕ = c.loop-place.rows.items in
    let fs : List Firsts = c.loop-place.firsts.items in
    let p : Places = c.unwrap_or-read.result in
    let first = c.in-Sequence.first in
    let second = c.in-Sequence.field-1 in
    let inside : first < place =
    first-before nodes c.requires place c.index-nodes-place.result (omega arith) c.index-nodes-place.is (Node.Sequence first second) c.in-Sequence.is first second refl in
    let tree = tree-is nodes c.requires place c.index-nodes-place.result (omega arith) c.index-nodes-place.is (Node.Sequence first second) c.in-Sequence.is in
    let begun : (x : ℕ) → x < 130 → begins_at x (row_at p fs 0) ≡ begins x (get_or ts place nothing) =
    λ x l.
    let placed_there : get_or ps first none_there ≡ p =
    get_or_default ps first none_there c.nowhere.result (omega (arith, inside, c.loop-place.invariant.count)) ∙ sym (places_or ps first c.get.result p c.nowhere.result c.get.ensures c.unwrap_or-read.ensures) in
    let none : get_or rows first 0 ≡ 0 = get_or_default rows first 0 c.index.result.now (omega (arith, inside, c.loop-place.invariant.number)) ∙ sym c.index.ensures ∙ c.if-index-eq0.true in
    front-begins x p (get_or ts first nothing) (get_or ts second nothing)
    (sym (ap (λ (q : Places). begins_at x (row_at q fs 0)) placed_there) ∙ sym (ap (λ (r : ℕ). begins_at x (row_at (get_or ps first none_there) fs r)) none)
    ∙ c.loop-place.invariant.right x l first (omega (arith, inside, c.loop-place.invariant.count)))
    ∙ ap (begins x) (sym tree) in
    let placed = c.in_ok-push-2.ensures.ok in
    let rowed = c.push_reserved-then-index-eq0.ensures.items in
    record {
      count = ap length placed ∙ omega (arith, length-append ps (p ∷ []), c.loop-place.invariant.count);
      number = ap length rowed ∙ omega (arith, length-append rows (0 ∷ []), c.loop-place.invariant.number);
      row_room = omega (arith, c.push_reserved-then-index-eq0.ensures.capacity, c.loop-place.invariant.row_room);
      within = subst (λ (rs : List ℕ). AreWithin rs fs) (sym rowed)
          (AreWithin-push 0 ps rows fs fs ts p 0 place (GoesOn-same fs) c.loop-place.invariant.count c.loop-place.invariant.number c.loop-place.invariant.within (omega arith));
      right = λ x l. subst (λ (qs : List Places). Begin x qs c.push_reserved-then-index-eq0.new.self.items fs ts) (sym placed)
          (subst (λ (rs : List ℕ). Begin x (ps ++ p ∷ []) rs fs ts) (sym rowed)
          (Begin-push x ps rows fs fs ts p 0 place (GoesOn-same fs) c.loop-place.invariant.count c.loop-place.invariant.number (c.loop-place.invariant.right x l)
          c.loop-place.invariant.within (begun x l)));
      kept = subst (λ (qs : List Places). AreFirsts qs ts) (sym placed)
          (AreFirsts-push ps ts p place c.loop-place.invariant.kept c.loop-place.invariant.count (λ x l. alone-begins x p (get_or ts place nothing) (begun x l)));
    }
