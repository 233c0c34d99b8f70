-- The steps of a search, each over plain lists.
use Rattle.std.proofs.Common.{◌≡◌, ℕ, zero, suc, ◌+◌, ◌<◌, ◌≤◌, List, [], ◌∷◌, ◌++◌, length, refl, sym, ◌∙◌, ap, arith, length-append, add-one, reverse}
use Rattle.std.specs.Prelude.{IsCharBoundary}
use Rattle.std.proofs.Math.Seq.{take-length}
use Rattle.std.proofs.lemmas.List.{reverse-append}
use Rattle.syntect_pattern_backtrack.specs.syntect_pattern.Trees.{Tree}
use Rattle.syntect_pattern_backtrack.specs.syntect_pattern.Matches.{Groups}
use Rattle.syntect_pattern_backtrack.specs.declared.state.Cell.{Cell}
use Rattle.syntect_pattern_backtrack.specs.declared.state.Next.{Next}
use Rattle.syntect_pattern_backtrack.specs.declared.state.Search.{Search}
use Rattle.syntect_pattern_backtrack.specs.declared.state.Frame.{Frame}
use Rattle.syntect_pattern_backtrack.specs.Machine.{Work, tick, both, On, on_item, list_at, search, tree_at, pending, now, total, FramesFit, ListFits, CellsFit, ItemFits, GroupsFit, Fits, Goes, found_by, steps_of}
use Rattle.syntect_pattern_backtrack.proofs.WorkLaws.{ticks, found-ticks, count-ticks}
use Rattle.syntect_pattern_backtrack.proofs.MachineLaws.{list_at-seam, pending-append, pending-tick, CellsFit-push, FramesFit-more}

module _ (s : List ℕ) (ts : List Tree) where
  -- what is left to do, over the parts of a search
  abbrev pub rest : Next → List Cell → ℕ → Groups → List Frame → Work
  rest next xs i g fs = pending s ts xs g fs (now s ts next xs i g)

  pub goes_by : (next next' : Next) (old new : Search) (n : ℕ) (xs : List Cell) (i : ℕ) (g : Groups) (fs : List Frame)
      → new.cells.items ≡ xs → new.place ≡ i → new.groups.items ≡ g → reverse new.frames.items ≡ fs
      → total s ts next old ≡ ticks (suc n) (rest next' xs i g fs)
      → CellsFit s xs → FramesFit s (length xs) fs → ListFits next' (length xs) → IsCharBoundary s i → GroupsFit s g
      → Goes s ts next old next' new
  goes_by next next' old new n xs i g fs hx hi hg hf h fc ff fl fb fg =
      let same : total s ts next' new ≡ rest next' xs i g fs =
      ap (λ zs. pending s ts zs new.groups.items (reverse new.frames.items) (now s ts next' zs new.place new.groups.items)) hx
      ∙ ap (λ j. pending s ts xs new.groups.items (reverse new.frames.items) (now s ts next' xs j new.groups.items)) hi
      ∙ ap (λ k. pending s ts xs k (reverse new.frames.items) (now s ts next' xs i k)) hg
      ∙ ap (λ rs. pending s ts xs g rs (now s ts next' xs i g)) hf in
      let finds : found_by s ts next' new ≡ found_by s ts next old =
      ap (λ (w : Work). w.found) same ∙ sym (ap (λ (w : Work). w.found) h ∙ found-ticks (suc n) (rest next' xs i g fs)) in
      let less : steps_of s ts next' new < steps_of s ts next old =
      omega (arith, ap (λ (w : Work). w.count) same, ap (λ (w : Work). w.count) h, count-ticks (suc n) (rest next' xs i g fs)) in
      record {
        found = finds;
        fewer = less;
        fits = record { cells = rw hx fc; frames = rw (hx, hf) ff; list = rw hx fl; place = rw hi fb; groups = rw hg fg };
      }

  pub pending-ticks : (n : ℕ) (xs : List Cell) (g : Groups) (fs : List Frame) (w : Work) → pending s ts xs g fs (ticks n w) ≡ ticks n (pending s ts xs g fs w)
  pending-ticks zero xs g fs w = refl
  pending-ticks (suc n) xs g fs w = pending-tick s ts xs g fs (ticks n w) ∙ ap tick (pending-ticks n xs g fs w)

  -- a step that changes the place alone
  pub goes_to : (next next' : Next) (old new : Search) (n : ℕ) (j : ℕ)
      → Fits s next old
      → new.cells.items ≡ old.cells.items → new.groups.items ≡ old.groups.items → new.frames.items ≡ old.frames.items → new.place ≡ j
      → now s ts next old.cells.items old.place old.groups.items ≡ ticks (suc n) (now s ts next' old.cells.items j old.groups.items)
      → ListFits next' (length old.cells.items) → IsCharBoundary s j
      → Goes s ts next old next' new
  goes_to next next' old new n j hf hx hg hr hi h hl hb =
      goes_by next next' old new n old.cells.items j old.groups.items (reverse old.frames.items) hx hi hg (ap reverse hr)
      (ap (pending s ts old.cells.items old.groups.items (reverse old.frames.items)) h
      ∙ pending-ticks (suc n) old.cells.items old.groups.items (reverse old.frames.items) (now s ts next' old.cells.items j old.groups.items))
      hf.cells hf.frames hl hb hf.groups

  -- a step that changes nothing but what comes next
  pub goes_on : (next next' : Next) (x : Search) (n : ℕ)
      → Fits s next x
      → now s ts next x.cells.items x.place x.groups.items ≡ ticks (suc n) (now s ts next' x.cells.items x.place x.groups.items)
      → ListFits next' (length x.cells.items)
      → Goes s ts next x next' x
  goes_on next next' x n hf h hl = goes_to next next' x x n x.place hf refl refl refl refl h hl hf.place

  -- a step that puts a cell before a list and goes on with the node a
  pub goes_cons : (next : Next) (old new : Search) (n : ℕ) (a : ℕ) (c : Cell)
      → Fits s next old
      → new.cells.items ≡ old.cells.items ++ c ∷ [] → new ≡ record old { cells = new.cells }
      → now s ts next old.cells.items old.place old.groups.items
      ≡ ticks (suc n) (search s (tree_at s ts a) (on_item s ts c.item (list_at s ts old.cells.items c.next)) old.place old.groups.items)
      → c.next ≤ length old.cells.items → ItemFits s c.item
      → Goes s ts next old (Next.Enter a (length old.cells.items + 1)) new
  goes_cons next old new n a c hf hc ho h hl fi =
      let xs : List Cell = old.cells.items in
      let fs : List Frame = reverse old.frames.items in
      let more : length (xs ++ c ∷ []) ≡ suc (length xs) = omega (arith, length-append xs (c ∷ [])) in
      rw add-one (goes_by next (Next.Enter a (suc (length xs))) old new n (xs ++ c ∷ []) old.place old.groups.items fs
      hc (ap (λ (x : Search). x.place) ho) (ap (λ (x : Search). x.groups.items) ho) (ap (λ (x : Search). reverse x.frames.items) ho)
      (ap (pending s ts xs old.groups.items fs) h
      ∙ pending-ticks (suc n) xs old.groups.items fs _
      ∙ ap (ticks (suc n)) (sym (pending-append s ts xs (c ∷ []) old.groups.items fs _ hf.frames)
      ∙ ap (λ (k : On). pending s ts (xs ++ c ∷ []) old.groups.items fs (search s (tree_at s ts a) k old.place old.groups.items)) (sym (list_at-seam s ts xs c []))))
      (CellsFit-push s xs c hf.cells hl fi)
      (FramesFit-more s (length xs) (length (xs ++ c ∷ [])) fs (omega arith) hf.frames)
      (omega arith) hf.place hf.groups)

  -- a step that keeps a choice for later and goes on with the node a
  pub goes_choice : (next : Next) (old new : Search) (n a b k : ℕ)
      → Fits s next old → k ≤ length old.cells.items
      → new.frames.items ≡ old.frames.items ++ Frame.Enter b k old.place (length old.cells.items) ∷ [] → new ≡ record old { frames = new.frames }
      → now s ts next old.cells.items old.place old.groups.items
      ≡ ticks (suc n) (both (search s (tree_at s ts a) (list_at s ts old.cells.items k) old.place old.groups.items)
      (tick (search s (tree_at s ts b) (list_at s ts old.cells.items k) old.place old.groups.items)))
      → Goes s ts next old (Next.Enter a k) new
  goes_choice next old new n a b k hf hk hr ho h =
      let xs : List Cell = old.cells.items in
      let g : Groups = old.groups.items in
      let fs : List Frame = reverse old.frames.items in
      goes_by next (Next.Enter a k) old new n xs old.place g (Frame.Enter b k old.place (length xs) ∷ fs)
      (ap (λ (x : Search). x.cells.items) ho) (ap (λ (x : Search). x.place) ho) (ap (λ (x : Search). x.groups.items) ho)
      (ap reverse hr ∙ reverse-append old.frames.items (Frame.Enter b k old.place (length xs) ∷ []))
      (ap (pending s ts xs g fs) h
      ∙ pending-ticks (suc n) xs g fs _
      ∙ ap (λ zs. ticks (suc n) (pending s ts zs g fs (both (search s (tree_at s ts a) (list_at s ts xs k) old.place g) (tick (search s (tree_at s ts b) (list_at s ts zs k) old.place g))))) (sym (take-length xs)))
      hf.cells (hk, omega arith, hf.place, hf.frames) hk hf.place hf.groups
