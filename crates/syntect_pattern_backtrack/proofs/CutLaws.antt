-- Parts of which the first match counts alone: how they end.
use Rattle.std.proofs.Common.{◌≡◌, true, false, ℕ, suc, ◌+◌, ◌<◌, ◌≤◌, List, [], ◌∷◌, length, take, drop, set, refl, sym, subst, ◌∙◌, ap, arith, Option, Some, None, reverse}
use Rattle.std.specs.Prelude.{IsCharBoundary, IfSome, IsSome}
use Rattle.std.specs.Option.{option_map_or, option_or}
use Rattle.std.proofs.lemmas.List.{take-append-drop, length-take-le}
use Rattle.syntect_pattern_backtrack.specs.syntect_pattern.Trees.{Tree}
use Rattle.syntect_pattern_backtrack.specs.syntect_pattern.Matches.{Groups, Member}
use Rattle.syntect_pattern_backtrack.specs.declared.state.Bound.{Bound}
use Rattle.syntect_pattern_backtrack.specs.declared.state.Cell.{Cell}
use Rattle.syntect_pattern_backtrack.specs.declared.state.Next.{Next}
use Rattle.syntect_pattern_backtrack.specs.declared.state.Search.{Search}
use Rattle.syntect_pattern_backtrack.specs.declared.state.Frame.{Frame}
use Rattle.syntect_pattern_backtrack.specs.Machine.{Work, On, one, tick, both, outcome, bounded, at_places, at_start, list_at, search, tree_at, pending, now, total, FramesFit, ListFits, Fits, Goes, found_by, steps_of, bound_of, uncut, cells_before, next_of, place_of, Cuts}
use Rattle.syntect_pattern_backtrack.proofs.MachineLaws.{list_at-append, pending-append, pending-tick, CellsFit-take, FramesFit-more}
use Rattle.syntect_pattern_backtrack.proofs.WorkLaws.{ticks, found-ticks, count-ticks, same_work}
use Rattle.syntect_pattern_backtrack.proofs.StepLaws.{pending-ticks}
use Rattle.syntect_pattern_backtrack.proofs.RunLaws.{found_by-found}

-- a part that began: its bound, its list and its place
abbrev Part : Type 0
Part = Bound × ℕ × ℕ

module _ (s : List ℕ) (ts : List Tree) where
  -- the cells above those that the frames need change nothing
  pending-take : (xs : List Cell) (len : ℕ) (g : Groups) (fs : List Frame) (w : Work) → len ≤ length xs → FramesFit s len fs → pending s ts xs g fs w ≡ pending s ts (take len xs) g fs w
  pending-take xs len g fs w hl hf =
      ap (λ zs. pending s ts zs g fs w) (sym (take-append-drop len xs))
      ∙ pending-append s ts (take len xs) (drop len xs) g fs w (rw (length-take-le len xs hl) hf)

  pub list_at-take : (xs : List Cell) (len k : ℕ) → len ≤ length xs → k ≤ len → list_at s ts xs k ≡ list_at s ts (take len xs) k
  list_at-take xs len k hl hk =
      ap (λ zs. list_at s ts zs k) (sym (take-append-drop len xs))
      ∙ list_at-append s ts (take len xs) (drop len xs) k (rw (length-take-le len xs hl) hk)

  -- the frames that are kept fit
  pub FramesFit-uncut : (n : ℕ) (fs : List Frame) → FramesFit s n fs → FramesFit s n (uncut fs)
  FramesFit-uncut n [] h = tt
  FramesFit-uncut n (Frame.Enter m k i len ∷ fs) h = FramesFit-more s len n (uncut fs) h.1 (FramesFit-uncut len fs h.3)
  FramesFit-uncut n (Frame.Leave k i len ∷ fs) h = FramesFit-more s len n (uncut fs) h.1 (FramesFit-uncut len fs h.3)
  FramesFit-uncut n (Frame.Stretch k c i len ∷ fs) h = FramesFit-more s len n (uncut fs) h.1 (FramesFit-uncut len fs h.3)
  FramesFit-uncut n (Frame.Starts m k c i len ∷ fs) h = FramesFit-more s len n (uncut fs) h.1 (FramesFit-uncut len fs h.2)
  FramesFit-uncut n (Frame.Within b k i len ∷ fs) h = FramesFit-more s len n fs h.1 h.3
  FramesFit-uncut n (Frame.Restore m old ∷ fs) h = (h.0, FramesFit-uncut n fs h.1)

  -- what is done after the first match of the part
  abbrev went : Part → List Cell → ℕ → Groups → Work
  went b xs i g = now s ts (next_of b) xs (place_of b i) g

  -- what is found stays, and the steps of the part are gone
  record Forgets (b : Part) (xs : List Cell) (g h : Groups) (fs : List Frame) (i : ℕ) (w : Work) : Type 0 where
    pub found : (pending s ts xs g (uncut fs) (went b xs i h)).found ≡ (pending s ts xs g fs w).found
    pub fewer : (pending s ts xs g (uncut fs) (went b xs i h)).count + w.count < (pending s ts xs g fs w).count

  outcome-went : (o : Bound) (k p : ℕ) (xs : List Cell) (g h : Groups) (i : ℕ) → outcome o (Some (i, h)) (list_at s ts xs k) p g ≡ went (o, k, p) xs i h
  outcome-went Bound.Whole k p xs g h i = refl
  outcome-went Bound.Holds k p xs g h i = refl
  outcome-went Bound.Fails k p xs g h i = refl

  went-take : (o : Bound) (k p : ℕ) (xs : List Cell) (len : ℕ) (h : Groups) (i : ℕ) → len ≤ length xs → k ≤ len → went (o, k, p) xs i h ≡ went (o, k, p) (take len xs) i h
  went-take Bound.Whole k p xs len h i hl hk = ap (λ (K : On). K i h) (list_at-take xs len k hl hk)
  went-take Bound.Holds k p xs len h i hl hk = ap (λ (K : On). K p h) (list_at-take xs len k hl hk)
  went-take Bound.Fails k p xs len h i hl hk = refl

  bound-fits : (b : Part) (n : ℕ) (fs : List Frame) → FramesFit s n fs → bound_of fs ≡ Some b → (b.1 ≤ n) × IsCharBoundary s b.2
  bound-fits b n [] h e = cc
  bound-fits b n (Frame.Enter m k i len ∷ fs) h e = let r = bound-fits b len fs h.3 e in (let l : b.1 ≤ len = r.0 in omega arith, r.1)
  bound-fits b n (Frame.Leave k i len ∷ fs) h e = let r = bound-fits b len fs h.3 e in (let l : b.1 ≤ len = r.0 in omega arith, r.1)
  bound-fits b n (Frame.Stretch k c i len ∷ fs) h e = let r = bound-fits b len fs h.3 e in (let l : b.1 ≤ len = r.0 in omega arith, r.1)
  bound-fits b n (Frame.Starts m k c i len ∷ fs) h e = let r = bound-fits b len fs h.2 e in (let l : b.1 ≤ len = r.0 in omega arith, r.1)
  bound-fits b n (Frame.Restore m old ∷ fs) h e = bound-fits b n fs h.1 e
  bound-fits b n (Frame.Within o k i len ∷ fs) h e =
      let is : (o, k, i) ≡ b = ap (λ (x : Option Part). option_map_or (λ (c : Part). c) x b) e in
      subst (λ (c : Part). (c.1 ≤ n) × IsCharBoundary s c.2) is (omega arith, h.2)

  -- What is needed after the part: its list, and those of the frames that are kept.
  record Needed (b : Part) (n : ℕ) (fs : List Frame) : Type 0 where
    pub fewer : cells_before fs ≤ n
    pub list : b.1 ≤ cells_before fs
    pub frames : FramesFit s (cells_before fs) (uncut fs)

  needed : (b : Part) (n : ℕ) (fs : List Frame) → FramesFit s n fs → bound_of fs ≡ Some b → Needed b n fs
  needed b n [] h e = cc
  needed b n (Frame.Enter m k i len ∷ fs) h e = let r = needed b len fs h.3 e in record { fewer = omega (arith, r.fewer, h.1); list = r.list; frames = r.frames }
  needed b n (Frame.Leave k i len ∷ fs) h e = let r = needed b len fs h.3 e in record { fewer = omega (arith, r.fewer, h.1); list = r.list; frames = r.frames }
  needed b n (Frame.Stretch k c i len ∷ fs) h e = let r = needed b len fs h.3 e in record { fewer = omega (arith, r.fewer, h.1); list = r.list; frames = r.frames }
  needed b n (Frame.Starts m k c i len ∷ fs) h e = let r = needed b len fs h.2 e in record { fewer = omega (arith, r.fewer, h.1); list = r.list; frames = r.frames }
  needed b n (Frame.Restore m old ∷ fs) h e = let r = needed b n fs h.1 e in record { fewer = r.fewer; list = r.list; frames = (h.0, r.frames) }
  needed b n (Frame.Within o k i len ∷ fs) h e =
      let is : (o, k, i) ≡ b = ap (λ (x : Option Part). option_map_or (λ (c : Part). c) x b) e in
      record { fewer = h.1; list = subst (λ (c : Part). c.1 ≤ len) is h.0; frames = h.3 }

  -- a choice of the part goes
  forgets-choice : (b : Part) (xs : List Cell) (len : ℕ) (g h : Groups) (fs : List Frame) (i : ℕ) (w x : Work)
      → bound_of fs ≡ Some b → len ≤ length xs → FramesFit s len fs → Forgets b (take len xs) g h fs i (both w x)
      → ((pending s ts xs g (uncut fs) (went b xs i h)).found ≡ (pending s ts (take len xs) g fs (both w x)).found)
      × ((pending s ts xs g (uncut fs) (went b xs i h)).count + w.count < (pending s ts (take len xs) g fs (both w x)).count)
  unfolding both
  forgets-choice b xs len g h fs i w x hb hl hf c =
      let same : pending s ts xs g (uncut fs) (went b xs i h) ≡ pending s ts (take len xs) g (uncut fs) (went b (take len xs) i h) =
      pending-take xs len g (uncut fs) (went b xs i h) hl (FramesFit-uncut len fs hf)
      ∙ ap (pending s ts (take len xs) g (uncut fs)) (went-take b.0 b.1 b.2 xs len h i hl (bound-fits b len fs hf hb).0) in
      (ap (λ (v : Work). v.found) same ∙ c.found, omega (arith, ap (λ (v : Work). v.count) same, c.fewer))

  found-both : (w x : Work) (m : Member) → w.found ≡ Some m → (both w x).found ≡ Some m
  unfolding both
  found-both w x m e = ap (λ f. option_or f x.found) e

  -- the part ends: its first match counts, and what else it could try is gone
  forget : (b : Part) (xs : List Cell) (g h : Groups) (fs : List Frame) (i : ℕ) (w : Work)
      → bound_of fs ≡ Some b → FramesFit s (length xs) fs → w.found ≡ Some (i, h) → Forgets b xs g h fs i w
  unfolding tick bounded
  forget b xs g h [] i w hb hf hw = cc
  forget b xs g h (Frame.Enter n k j len ∷ fs) i w hb hf hw =
      let x : Work = tick (search s (tree_at s ts n) (list_at s ts (take len xs) k) j g) in
      let c = forget b (take len xs) g h fs i (both w x) hb (rw (length-take-le len xs hf.1) hf.3) (found-both w x (i, h) hw) in
      let r = forgets-choice b xs len g h fs i w x hb hf.1 hf.3 c in
      record { found = r.0; fewer = r.1 }
  forget b xs g h (Frame.Leave k j len ∷ fs) i w hb hf hw =
      let x : Work = tick (list_at s ts (take len xs) k j g) in
      let c = forget b (take len xs) g h fs i (both w x) hb (rw (length-take-le len xs hf.1) hf.3) (found-both w x (i, h) hw) in
      let r = forgets-choice b xs len g h fs i w x hb hf.1 hf.3 c in
      record { found = r.0; fewer = r.1 }
  forget b xs g h (Frame.Stretch k n j len ∷ fs) i w hb hf hw =
      let x : Work = tick (at_places (list_at s ts (take len xs) k) n j g) in
      let c = forget b (take len xs) g h fs i (both w x) hb (rw (length-take-le len xs hf.1) hf.3) (found-both w x (i, h) hw) in
      let r = forgets-choice b xs len g h fs i w x hb hf.1 hf.3 c in
      record { found = r.0; fewer = r.1 }
  forget b xs g h (Frame.Starts n k m j len ∷ fs) i w hb hf hw =
      let x : Work = tick (at_places (at_start s (search s (tree_at s ts n)) (list_at s ts (take len xs) k)) m j g) in
      let c = forget b (take len xs) g h fs i (both w x) hb (rw (length-take-le len xs hf.1) hf.2) (found-both w x (i, h) hw) in
      let r = forgets-choice b xs len g h fs i w x hb hf.1 hf.2 c in
      record { found = r.0; fewer = r.1 }
  forget b xs g h (Frame.Restore n old ∷ fs) i w hb hf hw =
      let g' : Groups = set g n old in
      let c = forget b xs g' h fs i (tick w) hb hf.1 hw in
      let m = pending-tick s ts xs g' (uncut fs) (went b xs i h) in
      record { found = ap (λ (v : Work). v.found) m ∙ c.found; fewer = omega (arith, ap (λ (v : Work). v.count) m, c.fewer) }
  forget b xs g h (Frame.Within o k p len ∷ fs) i w hb hf hw =
      let is : (o, k, p) ≡ b = ap (λ (x : Option Part). option_map_or (λ (c : Part). c) x b) hb in
      let K : On = list_at s ts (take len xs) k in
      let out : Work = went (o, k, p) (take len xs) i h in
      let is_out : outcome o w.found K p g ≡ out = ap (λ (f : Option Member). outcome o f K p g) hw ∙ outcome-went o k p (take len xs) g h i in
      let all : tick (bounded o w K p g) ≡ ticks (suc w.count) out =
      same_work _ _ _ _
      (ap (λ (v : Work). v.found) is_out ∙ sym (found-ticks (suc w.count) out))
      (let c : (outcome o w.found K p g).count ≡ out.count = ap (λ (v : Work). v.count) is_out in omega (arith, count-ticks (suc w.count) out)) in
      let m : pending s ts (take len xs) g fs (tick (bounded o w K p g)) ≡ ticks (suc w.count) (pending s ts (take len xs) g fs out) =
      ap (pending s ts (take len xs) g fs) all ∙ pending-ticks s ts (suc w.count) (take len xs) g fs out in
      let same : pending s ts xs g fs (went (o, k, p) xs i h) ≡ pending s ts (take len xs) g fs out =
      pending-take xs len g fs (went (o, k, p) xs i h) hf.1 hf.3
      ∙ ap (pending s ts (take len xs) g fs) (went-take o k p xs len h i hf.1 hf.0) in
      let P : Work = pending s ts (take len xs) g fs out in
      subst (λ (c : Part). Forgets c xs g h (Frame.Within o k p len ∷ fs) i w) is (record {
        found = ap (λ (v : Work). v.found) same ∙ sym (ap (λ (v : Work). v.found) m ∙ found-ticks (suc w.count) P);
        fewer = omega (arith, ap (λ (v : Work). v.count) same, ap (λ (v : Work). v.count) m, count-ticks (suc w.count) P);
      })

  place-fits : (b : Part) (j : ℕ) → IsCharBoundary s b.2 → IsCharBoundary s j → IsCharBoundary s (place_of b j)
  place-fits (Bound.Whole, k, i) j h l = l
  place-fits (Bound.Holds, k, i) j h l = h
  place-fits (Bound.Fails, k, i) j h l = l

  list-fits : (b : Part) (n : ℕ) → b.1 ≤ n → ListFits (next_of b) n
  list-fits (Bound.Whole, k, i) n h = h
  list-fits (Bound.Holds, k, i) n h = h
  list-fits (Bound.Fails, k, i) n h = tt

  -- a part is cut
  pub goes_cut : (old new : Search) (next : Next) (b : Part) → Fits s Next.Found old → bound_of (reverse old.frames.items) ≡ Some b → Cuts b old next new → Goes s ts Next.Found old next new
  unfolding one
  goes_cut old new next b hf hb h =
      let xs : List Cell = old.cells.items in
      let fs : List Frame = reverse old.frames.items in
      let g : Groups = old.groups.items in
      let i : ℕ = old.place in
      let fit = bound-fits b (length xs) fs hf.frames hb in
      let need = needed b (length xs) fs hf.frames hb in
      let len : ℕ = cells_before fs in
      let ys : List Cell = take len xs in
      let count : length ys ≡ len = length-take-le len xs need.fewer in
      let r = forget b xs g g fs i (one i g) hb hf.frames refl in
      let after : total s ts next new ≡ pending s ts ys g (uncut fs) (went b ys i g) =
      ap (λ (n : Next). total s ts n new) h.next_is
      ∙ ap (λ (zs : List Cell). pending s ts zs new.groups.items (reverse new.frames.items) (now s ts (next_of b) zs new.place new.groups.items)) h.cells
      ∙ ap (λ (q : Groups). pending s ts ys q (reverse new.frames.items) (now s ts (next_of b) ys new.place q)) h.groups
      ∙ ap (λ (rs : List Frame). pending s ts ys g rs (now s ts (next_of b) ys new.place g)) h.frames
      ∙ ap (λ (j : ℕ). pending s ts ys g (uncut fs) (now s ts (next_of b) ys j g)) h.place in
      let same : pending s ts xs g (uncut fs) (went b xs i g) ≡ pending s ts ys g (uncut fs) (went b ys i g) =
      pending-take xs len g (uncut fs) (went b xs i g) need.fewer need.frames
      ∙ ap (pending s ts ys g (uncut fs)) (went-take b.0 b.1 b.2 xs len g i need.fewer need.list) in
      let fewer : (pending s ts xs g (uncut fs) (went b xs i g)).count + 0 < (pending s ts xs g fs (one i g)).count = r.fewer in
      let steps : steps_of s ts next new < steps_of s ts Next.Found old = omega (arith, ap (λ (v : Work). v.count) after, ap (λ (v : Work). v.count) same) in
      record {
        found = ap (λ (v : Work). v.found) (after ∙ sym same) ∙ r.found;
        fewer = steps;
        fits = record {
          cells = rw h.cells (CellsFit-take s xs len hf.cells);
          frames = rw (h.cells, h.frames, count) need.frames;
          list = rw (h.next_is, h.cells, count) (list-fits b len need.list);
          place = rw h.place (place-fits b i fit.1 hf.place);
          groups = rw h.groups hf.groups;
        };
      }

  -- a match that isn't that of a part is the whole one
  pub finish-whole : (old new : Search) (next : Next) → next ≡ Next.Found → bound_of (reverse old.frames.items) ≡ None → new.place ≡ old.place → new.groups.items ≡ old.groups.items
      → Some (new.place, new.groups.items) ≡ found_by s ts next old
  finish-whole old new next n b hi hg =
      ap (λ (i : ℕ). Some (i, new.groups.items)) hi ∙ ap (λ (g : Groups). Some (old.place, g)) hg
      ∙ sym (found_by-found s ts old next n b)

  -- a match of a part
  pub finish-part : (old new : Search) (found : Option Next) (next next' : Next) → next ≡ Next.Found → found ≡ Some next' → Fits s next old
      → IfSome found (λ m. IfSome (bound_of (reverse old.frames.items)) (λ b. Cuts b old m new)) → IfSome found (λ m. IsSome (bound_of (reverse old.frames.items)))
      → Goes s ts next old next' new
  finish-part old new found next next' n e hf hp hs =
      let P : Option Next → Type 0 = λ o. IfSome o (λ m. IfSome (bound_of (reverse old.frames.items)) (λ b. Cuts b old m new)) in
      let Q : Option Next → Type 0 = λ o. IfSome o (λ m. IsSome (bound_of (reverse old.frames.items))) in
      let fits : Fits s Next.Found old = subst (λ (m : Next). Fits s m old) n hf in
      subst (λ (m : Next). Goes s ts m old next' new) (sym n) (go (bound_of (reverse old.frames.items)) refl (subst P e hp) (subst Q e hs) fits)
    where
      go : (o : Option Part) → bound_of (reverse old.frames.items) ≡ o → IfSome o (λ b. Cuts b old next' new) → IsSome o → Fits s Next.Found old → Goes s ts Next.Found old next' new
      go None h c i f = let no : false ≡ true = i in cc
      go (Some b) h c i f = goes_cut old new next' b f h c
