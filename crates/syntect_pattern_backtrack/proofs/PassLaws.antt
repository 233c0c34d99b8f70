-- Turns, exits and ends of stretches that are passed over, since nothing is found there.
use Rattle.std.proofs.Common.{◌≡◌, ◌≢◌, ℕ, zero, suc, ◌+◌, ◌-◌, ◌<◌, ◌≤◌, ◌==◌, if◌then◌else◌, Bool, true, false, List, [], ◌∷◌, ◌++◌, length, take, get_or, set, refl, sym, ◌∙◌, ap, subst, arith, length-append, Option, Some, None, add-one, reverse}
use Rattle.std.specs.Prelude.{IsCharBoundary, IfOk, OnOk, Result, Ok, Err}
use Rattle.std.specs.Option.{option_or}
use Rattle.std.proofs.lemmas.List.{reverse-append}
use Rattle.syntect_pattern_backtrack.specs.syntect_pattern.Trees.{Tree, anchor, repeat}
use Rattle.syntect_pattern_backtrack.specs.syntect_pattern.declared.anchor.Anchor.{Anchor}
use Rattle.syntect_pattern_backtrack.specs.syntect_pattern.Matches.{Groups, Member, anchor_holds}
use Rattle.syntect_pattern_backtrack.specs.declared.state.Turns.{Turns}
use Rattle.syntect_pattern_backtrack.specs.declared.state.Continuation.TheVariants.{Run, Close, Again}
use Rattle.syntect_pattern_backtrack.specs.declared.state.Cell.{Cell}
use Rattle.syntect_pattern_backtrack.specs.declared.state.Next.{Next}
use Rattle.syntect_pattern_backtrack.specs.declared.state.Search.{Search}
use Rattle.syntect_pattern_backtrack.specs.declared.state.Frame.{Frame}
use Rattle.syntect_pattern_backtrack.specs.Machine.{Work, none, tick, both, On, on_item, list_at, search, tree_at, prefer, while_left, work_if, is_used_up, one_turn_less, at_places, pending, now, total, CellsFit, FramesFit, ItemFits, IsShorter, Fits, Goes}
use Rattle.syntect_pattern_backtrack.proofs.MachineLaws.{list_at-seam, pending-append, pending-less, CellsFit-push, FramesFit-more}
use Rattle.syntect_pattern_backtrack.proofs.TurnLaws.{turn-now, while-unused}
use Rattle.syntect_pattern_backtrack.proofs.BackLaws.{leave-cell}
use Rattle.syntect_pattern_backtrack.proofs.CutLaws.{list_at-take}
use Rattle.syntect_pattern_steps.specs.First.{IsDead}
use Rattle.syntect_pattern_backtrack.proofs.DeadLaws.{dead-found, goes_less}

or_none : (o : Option Member) → option_or o None ≡ o
or_none None = refl
or_none (Some m) = refl

-- -- Turns

prefer-dead : (greedy : Bool) (v w : Work) → v.found ≡ None → (prefer greedy v w).found ≡ w.found
unfolding both
prefer-dead true v w e = ap (λ f. option_or f w.found) e
prefer-dead false v w e = ap (option_or w.found) e ∙ or_none w.found

prefer-alone : (greedy : Bool) (v w : Work) → w.found ≡ None → (prefer greedy v w).found ≡ v.found
unfolding both
prefer-alone true v w e = ap (option_or v.found) e ∙ or_none v.found
prefer-alone false v w e = ap (λ f. option_or f v.found) e

prefer-count : (greedy : Bool) (v w : Work) → (v.count ≤ (prefer greedy v w).count) × (w.count ≤ (prefer greedy v w).count)
unfolding both
prefer-count true v w = (omega arith, omega arith)
prefer-count false v w = (omega arith, omega arith)

while-dead : (most : Option ℕ) (m : Work) → m.found ≡ None → (while_left most (tick m)).found ≡ None
unfolding none tick
while-dead None m e = e
while-dead (Some zero) m e = refl
while-dead (Some (suc n)) m e = e

work-dead : (b : Bool) (w : Work) → w.found ≡ None → (work_if b (tick w)).found ≡ None
unfolding none tick
work-dead true w e = e
work-dead false w e = refl

module _ (s : List ℕ) (ts : List Tree) where
  -- a cell is put before a list, and the node a finds the same in fewer steps
  pub goes_cons-less : (next : Next) (old new : Search) (a : ℕ) (c : Cell)
      → Fits s next old
      → new.cells.items ≡ old.cells.items ++ c ∷ [] → new ≡ record old { cells = new.cells }
      → (search s (tree_at s ts a) (on_item s ts c.item (list_at s ts old.cells.items c.next)) old.place old.groups.items).found ≡ (now s ts next old.cells.items old.place old.groups.items).found
      → (search s (tree_at s ts a) (on_item s ts c.item (list_at s ts old.cells.items c.next)) old.place old.groups.items).count < (now s ts next old.cells.items old.place old.groups.items).count
      → c.next ≤ length old.cells.items → ItemFits s c.item
      → Goes s ts next old (Next.Enter a (length old.cells.items + 1)) new
  goes_cons-less next old new a c hf hc ho f less hl fi =
      let xs : List Cell = old.cells.items in
      let g : Groups = old.groups.items in
      let fs : List Frame = reverse old.frames.items in
      let more : length (xs ++ c ∷ []) ≡ suc (length xs) = omega (arith, length-append xs (c ∷ [])) in
      let place : new.place ≡ old.place = ap (λ (x : Search). x.place) ho in
      let groups : new.groups.items ≡ g = ap (λ (x : Search). x.groups.items) ho in
      let frames : reverse new.frames.items ≡ fs = ap (λ (x : Search). reverse x.frames.items) ho in
      let M : Work = search s (tree_at s ts a) (on_item s ts c.item (list_at s ts xs c.next)) old.place g in
      let W : Work = now s ts next xs old.place g in
      let same : total s ts (Next.Enter a (suc (length xs))) new ≡ pending s ts xs g fs M =
      ap (λ zs. pending s ts zs new.groups.items (reverse new.frames.items) (search s (tree_at s ts a) (list_at s ts zs (suc (length xs))) new.place new.groups.items)) hc
      ∙ ap (λ j. pending s ts (xs ++ c ∷ []) new.groups.items (reverse new.frames.items) (search s (tree_at s ts a) (list_at s ts (xs ++ c ∷ []) (suc (length xs))) j new.groups.items)) place
      ∙ ap (λ k. pending s ts (xs ++ c ∷ []) k (reverse new.frames.items) (search s (tree_at s ts a) (list_at s ts (xs ++ c ∷ []) (suc (length xs))) old.place k)) groups
      ∙ ap (λ rs. pending s ts (xs ++ c ∷ []) g rs (search s (tree_at s ts a) (list_at s ts (xs ++ c ∷ []) (suc (length xs))) old.place g)) frames
      ∙ pending-append s ts xs (c ∷ []) g fs _ hf.frames
      ∙ ap (λ (k : On). pending s ts xs g fs (search s (tree_at s ts a) k old.place g)) (list_at-seam s ts xs c []) in
      let r = pending-less s ts xs g fs M W f less in
      let fewer : (pending s ts xs g fs M).count < (pending s ts xs g fs W).count = r.1 in
      rw add-one (record {
        found = ap (λ (w : Work). w.found) same ∙ r.0;
        fewer = (let l : (total s ts (Next.Enter a (suc (length xs))) new).count < (total s ts next old).count = omega (arith, ap (λ (w : Work). w.count) same) in l);
        fits = record {
          cells = rw hc (CellsFit-push s xs c hf.cells hl fi);
          frames = rw (hc, frames) (FramesFit-more s (length xs) (length (xs ++ c ∷ [])) fs (omega arith) hf.frames);
          list = rw hc (omega arith);
          place = rw place hf.place;
          groups = rw groups hf.groups;
        };
      })

module _ (s : List ℕ) (ts : List Tree) (t : Turns) (greedy : Bool) (least : ℕ) (most : Option ℕ) (a : ℕ) (is : tree_at s ts t.node ≡ repeat greedy least most (tree_at s ts a)) where
  -- another turn finds nothing
  pub goes_turn-dead : (x : Search) (k : ℕ) → Fits s (Next.Turn t k) x → 0 < t.left → IsDead s x.place (tree_at s ts a)
      → Goes s ts (Next.Turn t k) x (if t.least == 0 then Next.Leave k else Next.Fail) x
  unfolding tick none
  goes_turn-dead x k hf hl hd = go (t.least == 0) refl
    where
      K : On
      K = list_at s ts x.cells.items k

      i : ℕ
      i = x.place

      g : Groups
      g = x.groups.items

      M : Work
      M = search s (tree_at s ts a) (on_item s ts (Again (one_turn_less t) i) K) i g

      more : Work
      more = while_left t.most (tick M)

      none_more : more.found ≡ None
      none_more = while-dead t.most M (dead-found s ts (tree_at s ts a) (on_item s ts (Again (one_turn_less t) i) K) i g hd)

      turns-are : (b : Bool) → (t.least == 0) ≡ b → now s ts (Next.Turn t k) x.cells.items i g ≡ tick (prefer greedy more (work_if b (tick (K i g))))
      turns-are b e = turn-now s ts t greedy least most a is K i g hl ∙ ap (λ c. tick (prefer greedy more (work_if c (tick (K i g))))) e

      go : (b : Bool) → (t.least == 0) ≡ b → Goes s ts (Next.Turn t k) x (if b then Next.Leave k else Next.Fail) x
      go true e =
          goes_less s ts (Next.Turn t k) (Next.Leave k) x hf
          (sym (ap (λ (w : Work). w.found) (turns-are true e) ∙ prefer-dead greedy more (tick (K i g)) none_more))
          (omega (arith, ap (λ (w : Work). w.count) (turns-are true e), (prefer-count greedy more (tick (K i g))).1))
          hf.list
      go false e =
          goes_less s ts (Next.Turn t k) Next.Fail x hf
          (sym (ap (λ (w : Work). w.found) (turns-are false e) ∙ prefer-dead greedy more none none_more))
          (omega (arith, ap (λ (w : Work). w.count) (turns-are false e)))
          tt

  -- what follows the loop finds nothing: another turn and nothing else
  pub goes_turn-only : (old new : Search) (k : ℕ) → Fits s (Next.Turn t k) old → 0 < t.left → is_used_up t.most ≡ false
      → (list_at s ts old.cells.items k old.place old.groups.items).found ≡ None
      → new.cells.items ≡ old.cells.items ++ record { item = Again (one_turn_less t) old.place; next = k } ∷ [] → new ≡ record old { cells = new.cells }
      → Goes s ts (Next.Turn t k) old (Next.Enter a (length old.cells.items + 1)) new
  unfolding tick
  goes_turn-only old new k hf hl hu hd hc ho =
      let K : On = list_at s ts old.cells.items k in
      let M : Work = search s (tree_at s ts a) (on_item s ts (Again (one_turn_less t) old.place) K) old.place old.groups.items in
      let out : Work = work_if (t.least == 0) (tick (K old.place old.groups.items)) in
      let turns : now s ts (Next.Turn t k) old.cells.items old.place old.groups.items ≡ tick (prefer greedy (tick M) out) =
      turn-now s ts t greedy least most a is K old.place old.groups.items hl
      ∙ ap (λ w. tick (prefer greedy w out)) (while-unused t.most (tick M) hu) in
      goes_cons-less s ts (Next.Turn t k) old new a (record { item = Again (one_turn_less t) old.place; next = k }) hf hc ho
      (sym (ap (λ (w : Work). w.found) turns ∙ prefer-alone greedy (tick M) out (work-dead (t.least == 0) (K old.place old.groups.items) hd)))
      (omega (arith, ap (λ (w : Work). w.count) turns, (prefer-count greedy (tick M) out).0))
      hf.list tt

  -- another turn is taken, by what it does to a search
  pub take_turn-ok : {E : Type 0} (old new : Search) (k : ℕ) (r : Result Next E) (less : Turns) → less ≡ one_turn_less t
      → (new.cells.items ≡ old.cells.items ++ record { item = Again (one_turn_less t) old.place; next = k } ∷ [] → new ≡ record old { cells = new.cells }
      → Goes s ts (Next.Turn t k) old (Next.Enter a (length old.cells.items + 1)) new)
      → OnOk r (new.cells.items ≡ old.cells.items ++ record { item = Again less old.place; next = k } ∷ [])
      → IfOk r (λ next. next ≡ Next.Enter a (length old.cells.items + 1)) → new ≡ record old { cells = new.cells }
      → IfOk r (λ next. Goes s ts (Next.Turn t k) old next new)
  take_turn-ok old new k (Ok next) less is_less h hc hn ho =
      rw hn (h (hc ∙ ap (λ (t' : Turns). old.cells.items ++ record { item = Again t' old.place; next = k } ∷ []) is_less) ho)
  take_turn-ok old new k (Err e) less is_less h hc hn ho = tt

-- -- Ends of a stretch

found_if : (b : Bool) (w : Work) → w.found ≡ None → (work_if b w).found ≡ None
unfolding none
found_if true w h = h
found_if false w h = refl

module _ (s : List ℕ) (ts : List Tree) (xs : List Cell) (c : Cell) (list : ℕ) (some : list ≢ 0) (hc : CellsFit s xs) (hl : list ≤ length xs) (is : get_or xs (list - 1) c ≡ c) (i : ℕ) where
  -- a list that begins with a node without a match
  pub list-run : (node : ℕ) → c.item ≡ Run node → IsDead s i (tree_at s ts node) → (g : Groups) → (list_at s ts xs list i g).found ≡ None
  unfolding tick
  list-run node e h g =
      let K : On = list_at s ts xs c.next in
      ap (λ (k : On). (k i g).found) (leave-cell s ts xs c list some hc hl is)
      ∙ ap (λ it. (on_item s ts it K i g).found) e ∙ dead-found s ts (tree_at s ts node) K i g h

  -- a list that begins with the end of a group
  pub list-close : (n a : ℕ) → c.item ≡ Close n a → ((g : Groups) → (list_at s ts xs c.next i g).found ≡ None) → (g : Groups) → (list_at s ts xs list i g).found ≡ None
  unfolding tick
  list-close n a e h g =
      let K : On = list_at s ts xs c.next in
      ap (λ (k : On). (k i g).found) (leave-cell s ts xs c list some hc hl is)
      ∙ ap (λ it. (on_item s ts it K i g).found) e ∙ h (set g n (Some (a, i)))

  -- a list that begins with an anchor, which reads nothing
  pub list-anchor : (node : ℕ) (a : Anchor) → c.item ≡ Run node → tree_at s ts node ≡ anchor a → ((g : Groups) → (list_at s ts xs c.next i g).found ≡ None) → (g : Groups) → (list_at s ts xs list i g).found ≡ None
  unfolding tick
  list-anchor node a e t h g =
      let K : On = list_at s ts xs c.next in
      ap (λ (k : On). (k i g).found) (leave-cell s ts xs c list some hc hl is)
      ∙ ap (λ it. (on_item s ts it K i g).found) e ∙ ap (λ (tree : Tree). (search s tree K i g).found) t ∙ found_if (anchor_holds s a i) (K i g) (h g)

places-skip : (K : On) (g : Groups) (m c j : ℕ) → m ≤ c → ((p : ℕ) → p < m → (K (j - p) g).found ≡ None)
    → ((at_places K (c - m) (j - m) g).found ≡ (at_places K c j g).found) × ((at_places K (c - m) (j - m) g).count + m ≤ (at_places K c j g).count)
unfolding both tick
places-skip K g zero c j l h = let e : c - 0 ≡ c = omega arith in let f : j - 0 ≡ j = omega arith in rw (e, f) (refl, omega arith)
places-skip K g (suc m) zero j l h = absurd (omega arith)
places-skip K g (suc m) (suc c) j l h =
    let r = places-skip K g m c (j - 1) (omega arith) (λ p q. subst (λ n. (K n g).found ≡ None) (let e : j - suc p ≡ j - 1 - p = omega arith in e) (h (suc p) (omega arith))) in
    let here : (K j g).found ≡ None = subst (λ n. (K n g).found ≡ None) (let e : j - 0 ≡ j = omega arith in e) (h 0 (omega arith)) in
    let e : suc c - suc m ≡ c - m = omega arith in
    let f : j - suc m ≡ j - 1 - m = omega arith in
    rw (e, f) (r.0 ∙ sym (ap (λ o. option_or o (at_places K c (j - 1) g).found) here), omega (arith, r.1))

-- a list that is passed over finds nothing at the first of the ends
pub here_dead : (s : List ℕ) (ts : List Tree) (xs : List Cell) (list j n : ℕ) → n ≢ 0 → ((m : ℕ) → m < n → (g : Groups) → (list_at s ts xs list (j - m) g).found ≡ None)
    → (g : Groups) → (list_at s ts xs list j g).found ≡ None
here_dead s ts xs list j n ne h g =
    subst (λ i. (list_at s ts xs list i g).found ≡ None) (let e : j - 0 ≡ j = omega arith in e) (h 0 (omega arith) g)

-- the last frame alone fits
pub fits_alone : (s : List ℕ) (n : ℕ) (f : Frame) (fs : List Frame) → FramesFit s n (f ∷ fs) → FramesFit s n (f ∷ [])
fits_alone s n (Frame.Enter m k i len) fs h = (h.0, h.1, h.2, tt)
fits_alone s n (Frame.Leave k i len) fs h = (h.0, h.1, h.2, tt)
fits_alone s n (Frame.Stretch k c i len) fs h = (h.0, h.1, h.2, tt)
fits_alone s n (Frame.Starts m k c i len) fs h = (h.0, h.1, tt)
fits_alone s n (Frame.Within b k i len) fs h = (h.0, h.1, h.2, tt)
fits_alone s n (Frame.Restore m old) fs h = (h.0, tt)

module _ (s : List ℕ) (ts : List Tree) where
  -- a stretch gives the ends up at which nothing is found
  pub goes_shorter : (old new : Search) (rest : List Frame) (f f' : Frame)
      → Fits s Next.Fail old → reverse old.frames.items ≡ f ∷ reverse rest → IsShorter s ts old.cells.items f f'
      → new.frames.items ≡ rest ++ f' ∷ [] → new.place ≡ old.place → new.cells.items ≡ old.cells.items → new.groups.items ≡ old.groups.items
      → Goes s ts Next.Fail old Next.Fail new
  unfolding both tick none
  goes_shorter old new rest f f' hf hr h hn hi hx hg =
      let xs : List Cell = old.cells.items in
      let g : Groups = old.groups.items in
      let fs : List Frame = reverse rest in
      let len : ℕ = h.cells in
      let ys : List Cell = take len xs in
      let first : reverse old.frames.items ≡ Frame.Stretch h.list h.count h.place len ∷ fs = hr ∙ ap (λ (x : Frame). x ∷ fs) h.was in
      let last : reverse new.frames.items ≡ Frame.Stretch h.list (h.count - h.ends) (h.place - h.ends) len ∷ fs =
      ap reverse hn ∙ reverse-append rest (f' ∷ []) ∙ ap (λ (x : Frame). x ∷ fs) h.is in
      let ff : FramesFit s (length xs) (Frame.Stretch h.list h.count h.place len ∷ fs) = subst (FramesFit s (length xs)) first hf.frames in
      let K : On = list_at s ts ys h.list in
      let P : Work = both none (tick (at_places K h.count h.place g)) in
      let P' : Work = both none (tick (at_places K (h.count - h.ends) (h.place - h.ends) g)) in
      let before : total s ts Next.Fail old ≡ pending s ts ys g fs P = ap (λ rs. pending s ts xs g rs none) first in
      let after : total s ts Next.Fail new ≡ pending s ts ys g fs P' =
      ap (λ zs. pending s ts zs new.groups.items (reverse new.frames.items) none) hx
      ∙ ap (λ k. pending s ts xs k (reverse new.frames.items) none) hg
      ∙ ap (λ rs. pending s ts xs g rs none) last in
      let same : list_at s ts xs h.list ≡ K = list_at-take s ts xs len h.list ff.1 ff.0 in
      let r = places-skip K g h.ends h.count h.place h.inside (λ p q. ap (λ (k : On). (k (h.place - p) g).found) (sym same) ∙ h.dead p q g) in
      let some : 0 < h.ends = h.some in
      let less = pending-less s ts ys g fs P' P r.0 (omega (arith, r.1, some)) in
      let fewer : (pending s ts ys g fs P').count < (pending s ts ys g fs P).count = less.1 in
      let inside : h.ends ≤ h.count = h.inside in
      record {
        found = ap (λ (w : Work). w.found) after ∙ less.0 ∙ sym (ap (λ (w : Work). w.found) before);
        fewer = (let l : (total s ts Next.Fail new).count < (total s ts Next.Fail old).count = omega (arith, ap (λ (w : Work). w.count) after, ap (λ (w : Work). w.count) before) in l);
        fits = record {
          cells = rw hx hf.cells;
          frames = rw (hx, last) (ff.0, ff.1, (λ m p. subst (IsCharBoundary s) (let e : h.place - (h.ends + m) ≡ h.place - h.ends - m = omega arith in e) (ff.2 (h.ends + m) (omega arith))), ff.3);
          list = tt;
          place = rw hi hf.place;
          groups = rw hg hf.groups;
        };
      }
