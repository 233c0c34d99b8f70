-- How the lists of items and the frames change.
use Rattle.std.proofs.Common.{◌≡◌, ℕ, zero, suc, ◌+◌, ◌<◌, ◌≤◌, List, [], ◌∷◌, ◌++◌, length, take, drop, set, get_or, refl, sym, ◌∙◌, ap, subst, arith, length-append, below_more, Option, Some, None}
use Rattle.std.specs.Option.{option_or}
use Rattle.std.proofs.Math.ListN.{get_or-append}
use Rattle.std.proofs.Math.Seq.{get_or-append_seam, drop-cons}
use Rattle.std.proofs.lemmas.List.{take-append-le, take-append-drop, length-take-le, length-take, get_or-take}
use Rattle.syntect_pattern_backtrack.specs.syntect_pattern.Trees.{Tree}
use Rattle.syntect_pattern_backtrack.specs.syntect_pattern.Matches.{Groups, Member}
use Rattle.syntect_pattern_backtrack.specs.declared.state.Bound.{Bound}
use Rattle.syntect_pattern_backtrack.specs.declared.state.Cell.{Cell}
use Rattle.syntect_pattern_backtrack.specs.declared.state.Frame.{Frame}
use Rattle.syntect_pattern_backtrack.specs.declared.state.Frame.TheVariants.{Enter, Leave, Stretch, Starts, Within, Restore}
use Rattle.syntect_pattern_backtrack.specs.Machine.{Work, tick, both, On, end, list_in, on_item, on_cell, lists_from, list_at, search, tree_at, at_places, at_start, bounded, outcome, bound_of, pending, FramesFit, ItemFits, CellsFit}
use Rattle.syntect_pattern_backtrack.proofs.WorkLaws.{both-tick, bounded-tick}

bounded-less : (b : Bound) (w x : Work) (k : On) (i : ℕ) (g : Groups) → w.found ≡ x.found → w.count < x.count
    → ((bounded b w k i g).found ≡ (bounded b x k i g).found) × ((bounded b w k i g).count < (bounded b x k i g).count)
unfolding bounded
bounded-less b w x k i g e h =
    let same : outcome b w.found k i g ≡ outcome b x.found k i g = ap (λ (f : Option Member). outcome b f k i g) e in
    (ap (λ (v : Work). v.found) same, omega (arith, ap (λ (v : Work). v.count) same))

module _ (s : List ℕ) (ts : List Tree) where
  abbrev lists : List On → List Cell → List On
  lists = lists_from s ts

  pub lists-append : (ks : List On) (xs ys : List Cell) → lists ks (xs ++ ys) ≡ lists (lists ks xs) ys
  lists-append ks [] ys = refl
  lists-append ks (x ∷ xs) ys = lists-append (ks ++ on_cell s ts ks x ∷ []) xs ys

  pub length-lists : (ks : List On) (xs : List Cell) → length (lists ks xs) ≡ length ks + length xs
  length-lists ks [] = omega arith
  length-lists ks (x ∷ xs) =
      length-lists (ks ++ on_cell s ts ks x ∷ []) xs ∙ omega (arith, length-append ks (on_cell s ts ks x ∷ []))

  -- later cells leave the earlier lists alone
  pub get_or-lists : (ks : List On) (xs : List Cell) (d : On) (n : ℕ) → n < length ks → get_or (lists ks xs) n d ≡ get_or ks n d
  get_or-lists ks [] d n h = refl
  get_or-lists ks (x ∷ xs) d n h =
      get_or-lists (ks ++ on_cell s ts ks x ∷ []) xs d n (omega (arith, length-append ks (on_cell s ts ks x ∷ [])))
      ∙ get_or-append ks (on_cell s ts ks x ∷ []) d n h

  pub list_in-lists : (ks : List On) (xs : List Cell) (k : ℕ) → k ≤ length ks → list_in s ts (lists ks xs) k ≡ list_in s ts ks k
  list_in-lists ks xs zero h = refl
  list_in-lists ks xs (suc k) h = get_or-lists ks xs (end s ts) k (omega arith)

  -- more cells leave the lists alone
  pub list_at-append : (xs ys : List Cell) (k : ℕ) → k ≤ length xs → list_at s ts (xs ++ ys) k ≡ list_at s ts xs k
  unfolding list_at
  list_at-append xs ys k h =
      ap (λ ks. list_in s ts ks k) (lists-append [] xs ys) ∙ list_in-lists (lists [] xs) ys k (omega (arith, length-lists [] xs))

  -- the list of a cell that stands between these
  pub list_at-seam : (xs : List Cell) (c : Cell) (ys : List Cell) → list_at s ts (xs ++ c ∷ ys) (suc (length xs)) ≡ on_item s ts c.item (list_at s ts xs c.next)
  unfolding list_at
  list_at-seam xs c ys =
      ap (λ ks. list_in s ts ks (suc (length xs))) (lists-append [] xs (c ∷ ys))
      ∙ get_or-lists (lists [] xs ++ on_cell s ts (lists [] xs) c ∷ []) ys (end s ts) (length xs)
      (omega (arith, length-lists [] xs, length-append (lists [] xs) (on_cell s ts (lists [] xs) c ∷ [])))
      ∙ ap (λ n. get_or (lists [] xs ++ on_cell s ts (lists [] xs) c ∷ []) n (end s ts)) (sym (length-lists [] xs ∙ omega arith))
      ∙ get_or-append_seam (lists [] xs) (on_cell s ts (lists [] xs) c) [] (end s ts)

  pub list_at-nil : (xs : List Cell) → list_at s ts xs 0 ≡ end s ts
  unfolding list_at
  list_at-nil xs = refl

  -- a list begins with its cell
  pub list-cell : (xs : List Cell) (c : Cell) (k : ℕ) → CellsFit s xs → k < length xs → get_or xs k c ≡ c → list_at s ts xs (suc k) ≡ on_item s ts c.item (list_at s ts xs c.next)
  list-cell xs c k hf hk e =
      let len : length (take k xs) ≡ k = length-take-le k xs (omega arith) in
      let cut : xs ≡ take k xs ++ c ∷ drop (suc k) xs = sym (take-append-drop k xs) ∙ ap (λ ys. take k xs ++ ys) (drop-cons xs k c hk ∙ ap (λ d. d ∷ drop (suc k) xs) e) in
      let fits : c.next ≤ k = subst (λ (d : Cell). d.next ≤ k) e (hf k c hk).0 in
      ap (λ zs. list_at s ts zs (suc k)) cut
      ∙ ap (λ n. list_at s ts (take k xs ++ c ∷ drop (suc k) xs) (suc n)) (sym len)
      ∙ list_at-seam (take k xs) c (drop (suc k) xs)
      ∙ ap (on_item s ts c.item)
      (sym (list_at-append (take k xs) (drop k xs) c.next (omega arith))
      ∙ ap (λ zs. list_at s ts zs c.next) (take-append-drop k xs))

  pub pending-append : (xs ys : List Cell) (g : Groups) (fs : List Frame) (w : Work) → FramesFit s (length xs) fs → pending s ts (xs ++ ys) g fs w ≡ pending s ts xs g fs w
  pending-append xs ys g [] w h = refl
  pending-append xs ys g (Enter n k i len ∷ fs) w h =
      ap (λ zs. pending s ts zs g fs (both w (tick (search s (tree_at s ts n) (list_at s ts zs k) i g)))) (take-append-le len xs ys h.1)
  pending-append xs ys g (Leave k i len ∷ fs) w h =
      ap (λ zs. pending s ts zs g fs (both w (tick (list_at s ts zs k i g)))) (take-append-le len xs ys h.1)
  pending-append xs ys g (Stretch k n i len ∷ fs) w h =
      ap (λ zs. pending s ts zs g fs (both w (tick (at_places (list_at s ts zs k) n i g)))) (take-append-le len xs ys h.1)
  pending-append xs ys g (Starts n k c i len ∷ fs) w h =
      ap (λ zs. pending s ts zs g fs (both w (tick (at_places (at_start s (search s (tree_at s ts n)) (list_at s ts zs k)) c i g)))) (take-append-le len xs ys h.1)
  pending-append xs ys g (Within b k i len ∷ fs) w h =
      ap (λ zs. pending s ts zs g fs (tick (bounded b w (list_at s ts zs k) i g))) (take-append-le len xs ys h.1)
  pending-append xs ys g (Restore n old ∷ fs) w h = pending-append xs ys _ fs (tick w) h.1

  pub pending-tick : (xs : List Cell) (g : Groups) (fs : List Frame) (w : Work) → pending s ts xs g fs (tick w) ≡ tick (pending s ts xs g fs w)
  pending-tick xs g [] w = refl
  pending-tick xs g (Enter n k i len ∷ fs) w =
      ap (pending s ts (take len xs) g fs) (both-tick w (tick (search s (tree_at s ts n) (list_at s ts (take len xs) k) i g)))
      ∙ pending-tick (take len xs) g fs (both w (tick (search s (tree_at s ts n) (list_at s ts (take len xs) k) i g)))
  pending-tick xs g (Leave k i len ∷ fs) w =
      ap (pending s ts (take len xs) g fs) (both-tick w (tick (list_at s ts (take len xs) k i g)))
      ∙ pending-tick (take len xs) g fs (both w (tick (list_at s ts (take len xs) k i g)))
  pending-tick xs g (Stretch k n i len ∷ fs) w =
      ap (pending s ts (take len xs) g fs) (both-tick w (tick (at_places (list_at s ts (take len xs) k) n i g)))
      ∙ pending-tick (take len xs) g fs (both w (tick (at_places (list_at s ts (take len xs) k) n i g)))
  pending-tick xs g (Starts n k c i len ∷ fs) w =
      let x : Work = tick (at_places (at_start s (search s (tree_at s ts n)) (list_at s ts (take len xs) k)) c i g) in
      ap (pending s ts (take len xs) g fs) (both-tick w x) ∙ pending-tick (take len xs) g fs (both w x)
  pending-tick xs g (Within b k i len ∷ fs) w =
      ap (λ x. pending s ts (take len xs) g fs (tick x)) (bounded-tick b w (list_at s ts (take len xs) k) i g)
      ∙ pending-tick (take len xs) g fs (tick (bounded b w (list_at s ts (take len xs) k) i g))
  pending-tick xs g (Restore n old ∷ fs) w = pending-tick xs (set g n old) fs (tick w)

  -- what the frames find is what is found already, where it isn't that of a part
  pub pending-found : (xs : List Cell) (g : Groups) (fs : List Frame) (w : Work) (i : ℕ) (h : Groups) → bound_of fs ≡ None → w.found ≡ Some (i, h) → (pending s ts xs g fs w).found ≡ Some (i, h)
  unfolding both tick
  pending-found xs g [] w i h b e = e
  pending-found xs g (Enter n k j len ∷ fs) w i h b e =
      pending-found (take len xs) g fs (both w (tick (search s (tree_at s ts n) (list_at s ts (take len xs) k) j g))) i h b (rw e refl)
  pending-found xs g (Leave k j len ∷ fs) w i h b e =
      pending-found (take len xs) g fs (both w (tick (list_at s ts (take len xs) k j g))) i h b (rw e refl)
  pending-found xs g (Stretch k n j len ∷ fs) w i h b e =
      pending-found (take len xs) g fs (both w (tick (at_places (list_at s ts (take len xs) k) n j g))) i h b (rw e refl)
  pending-found xs g (Starts n k c j len ∷ fs) w i h b e =
      pending-found (take len xs) g fs (both w (tick (at_places (at_start s (search s (tree_at s ts n)) (list_at s ts (take len xs) k)) c j g))) i h b (rw e refl)
  pending-found xs g (Within o k j len ∷ fs) w i h b e = cc
  pending-found xs g (Restore n old ∷ fs) w i h b e = pending-found xs (set g n old) fs (tick w) i h b e

  -- what is found stays, and fewer steps are left, whatever the frames are
  pub pending-less : (xs : List Cell) (g : Groups) (fs : List Frame) (w x : Work) → w.found ≡ x.found → w.count < x.count
      → ((pending s ts xs g fs w).found ≡ (pending s ts xs g fs x).found) × ((pending s ts xs g fs w).count < (pending s ts xs g fs x).count)
  unfolding both tick
  pending-less xs g [] w x e h = (e, h)
  pending-less xs g (Enter n k i len ∷ fs) w x e h =
      pending-less (take len xs) g fs (both w (tick (search s (tree_at s ts n) (list_at s ts (take len xs) k) i g))) (both x (tick (search s (tree_at s ts n) (list_at s ts (take len xs) k) i g)))
      (ap (λ f. option_or f (search s (tree_at s ts n) (list_at s ts (take len xs) k) i g).found) e) (omega arith)
  pending-less xs g (Leave k i len ∷ fs) w x e h =
      pending-less (take len xs) g fs (both w (tick (list_at s ts (take len xs) k i g))) (both x (tick (list_at s ts (take len xs) k i g)))
      (ap (λ f. option_or f (list_at s ts (take len xs) k i g).found) e) (omega arith)
  pending-less xs g (Stretch k n i len ∷ fs) w x e h =
      pending-less (take len xs) g fs (both w (tick (at_places (list_at s ts (take len xs) k) n i g))) (both x (tick (at_places (list_at s ts (take len xs) k) n i g)))
      (ap (λ f. option_or f (at_places (list_at s ts (take len xs) k) n i g).found) e) (omega arith)
  pending-less xs g (Starts n k c i len ∷ fs) w x e h =
      let y : Work = tick (at_places (at_start s (search s (tree_at s ts n)) (list_at s ts (take len xs) k)) c i g) in
      pending-less (take len xs) g fs (both w y) (both x y) (ap (λ f. option_or f y.found) e) (omega arith)
  pending-less xs g (Within b k i len ∷ fs) w x e h =
      let K : On = list_at s ts (take len xs) k in
      let r = bounded-less b w x K i g e h in
      pending-less (take len xs) g fs (tick (bounded b w K i g)) (tick (bounded b x K i g)) r.0 (let l : (bounded b w K i g).count < (bounded b x K i g).count = r.1 in omega arith)
  pending-less xs g (Restore n old ∷ fs) w x e h = pending-less xs (set g n old) fs (tick w) (tick x) e (omega arith)

-- a cell whose list is there fits
pub CellsFit-push : (s : List ℕ) (xs : List Cell) (c : Cell) → CellsFit s xs → c.next ≤ length xs → ItemFits s c.item → CellsFit s (xs ++ c ∷ [])
CellsFit-push s xs c h hc hi k d hk =
    below_more (λ n. (e : Cell) → ((get_or (xs ++ c ∷ []) n e).next ≤ n) × ItemFits s (get_or (xs ++ c ∷ []) n e).item) (length xs)
    (λ n p e. rw (get_or-append xs (c ∷ []) e n p) (h n e p))
    (λ e. rw (get_or-append_seam xs c [] e) (hc, hi)) k (omega (arith, length-append xs (c ∷ []))) d

pub CellsFit-take : (s : List ℕ) (xs : List Cell) (n : ℕ) → CellsFit s xs → CellsFit s (take n xs)
CellsFit-take s xs n h k d hk = rw (get_or-take n xs k d (omega (arith, length-take n xs))) (h k d (omega (arith, length-take n xs)))

pub FramesFit-more : (s : List ℕ) (n m : ℕ) (fs : List Frame) → n ≤ m → FramesFit s n fs → FramesFit s m fs
FramesFit-more s n m [] h f = tt
FramesFit-more s n m (Enter node k i len ∷ fs) h f = (f.0, omega arith, f.2, f.3)
FramesFit-more s n m (Leave k i len ∷ fs) h f = (f.0, omega arith, f.2, f.3)
FramesFit-more s n m (Stretch k count i len ∷ fs) h f = (f.0, omega arith, f.2, f.3)
FramesFit-more s n m (Starts node k count i len ∷ fs) h f = (f.0, omega arith, f.2)
FramesFit-more s n m (Within b k i len ∷ fs) h f = (f.0, omega arith, f.2, f.3)
FramesFit-more s n m (Restore i old ∷ fs) h f = (f.0, FramesFit-more s n m fs h f.1)
