-- Lists that go on, groups that end, and frames that are taken off.
use Rattle.std.proofs.Common.{◌≡◌, ◌≢◌, Bool, true, false, if◌then◌else◌, ℕ, zero, suc, ◌-◌, ◌<◌, ◌≤◌, List, [], ◌∷◌, ◌++◌, length, take, get_or, set, refl, sym, ◌∙◌, ap, subst, arith, Option, Some, None, reverse, set-set, inl, inr}
use Rattle.std.specs.Prelude.{IsCharBoundary}
use Rattle.std.proofs.Math.Seq.{take-length}
use Rattle.std.proofs.lemmas.List.{set-get_or, length-take-le, set_past, reverse-append}
use Rattle.std.proofs.lemmas.Bool.{cases_lt}
use Rattle.syntect_pattern_backtrack.specs.syntect_pattern.Trees.{Tree}
use Rattle.syntect_pattern_backtrack.specs.syntect_pattern.Matches.{Groups}
use Rattle.syntect_pattern_backtrack.specs.declared.state.Continuation.TheVariants.{Close}
use Rattle.syntect_pattern_backtrack.specs.declared.state.Bound.{Bound}
use Rattle.syntect_pattern_backtrack.specs.declared.state.Cell.{Cell}
use Rattle.syntect_pattern_backtrack.specs.declared.state.Next.{Next}
use Rattle.syntect_pattern_backtrack.specs.declared.state.Search.{Search}
use Rattle.syntect_pattern_backtrack.specs.declared.state.Frame.{Frame}
use Rattle.syntect_pattern_backtrack.specs.Machine.{Work, none, tick, both, work_if, On, on_item, list_at, at_places, search, tree_at, pending, now, at_start, is_start, outcome, ListFits, FramesFit, ItemFits, SlotFits, GroupsFit, CellsFit, Fits, Goes, ReturnsTo, Retreats, Restarts, ComesOut, RestoresGroup}
use Rattle.syntect_pattern_backtrack.proofs.WorkLaws.{both-none, bounded-none, both-tick, both-tick_right, ticks}
use Rattle.syntect_pattern_backtrack.proofs.MachineLaws.{list-cell, pending-tick, CellsFit-take}
use Rattle.syntect_pattern_backtrack.proofs.StepLaws.{goes_by, goes_to, goes_on}

-- from one place to the other
abbrev Span : Type 0
Span = ℕ × ℕ

slot-set : (s : List ℕ) (g : Groups) (n : ℕ) (x : Option Span) (m : ℕ) → SlotFits s (get_or g m None) → SlotFits s x → SlotFits s (get_or (set g n x) m None)
slot-set s [] n x m h hx = h
slot-set s (y ∷ g) zero x zero h hx = hx
slot-set s (y ∷ g) zero x (suc m) h hx = h
slot-set s (y ∷ g) (suc n) x zero h hx = h
slot-set s (y ∷ g) (suc n) x (suc m) h hx = slot-set s g n x m h hx

-- a group gets a span that fits
pub GroupsFit-set : (s : List ℕ) (g : Groups) (n : ℕ) (x : Option Span) → GroupsFit s g → SlotFits s x → GroupsFit s (set g n x)
GroupsFit-set s g n x h hx m = slot-set s g n x m (h m) hx

module _ (s : List ℕ) (ts : List Tree) where
  -- the list of a cell's others is there
  pub next-fits : (xs : List Cell) (c : Cell) (list : ℕ) → list ≢ 0 → CellsFit s xs → list ≤ length xs → get_or xs (list - 1) c ≡ c → c.next ≤ length xs
  next-fits xs c list ne hc hl e =
      let h : c.next ≤ list - 1 = subst (λ (d : Cell). d.next ≤ list - 1) e (hc (list - 1) c (omega arith)).0 in omega arith

  item-fits : (xs : List Cell) (c : Cell) (list : ℕ) → list ≢ 0 → CellsFit s xs → list ≤ length xs → get_or xs (list - 1) c ≡ c → ItemFits s c.item
  item-fits xs c list ne hc hl e = subst (λ (d : Cell). ItemFits s d.item) e (hc (list - 1) c (omega arith)).1

  -- a list that isn't empty goes on with its cell
  pub leave-cell : (xs : List Cell) (c : Cell) (list : ℕ) → list ≢ 0 → CellsFit s xs → list ≤ length xs → get_or xs (list - 1) c ≡ c
      → list_at s ts xs list ≡ on_item s ts c.item (list_at s ts xs c.next)
  leave-cell xs c list ne hc hl e =
      ap (list_at s ts xs) (let h : list ≡ suc (list - 1) = omega arith in h)
      ∙ list-cell s ts xs c (list - 1) hc (omega arith) e

  -- an item that changes nothing but what comes next
  pub goes_item : (x : Search) (next : Next) (c : Cell) (list n : ℕ)
      → list ≢ 0 → Fits s (Next.Leave list) x → get_or x.cells.items (list - 1) c ≡ c
      → on_item s ts c.item (list_at s ts x.cells.items c.next) x.place x.groups.items ≡ ticks (suc n) (now s ts next x.cells.items x.place x.groups.items)
      → (c.next ≤ length x.cells.items → ListFits next (length x.cells.items))
      → Goes s ts (Next.Leave list) x next x
  goes_item x next c list n ne hf e h hl =
      goes_on s ts (Next.Leave list) next x n hf
      (ap (λ (k : On). k x.place x.groups.items) (leave-cell x.cells.items c list ne hf.cells hf.list e) ∙ h)
      (hl (next-fits x.cells.items c list ne hf.cells hf.list e))

  -- a group ends, and a frame gives its old span back
  goes_close-inside : (x new : Search) (c : Cell) (list n a : ℕ)
      → list ≢ 0 → Fits s (Next.Leave list) x → get_or x.cells.items (list - 1) c ≡ c → c.item ≡ Close n a
      → n < length x.groups.items
      → new.frames.items ≡ x.frames.items ++ Frame.Restore n (get_or x.groups.items n None) ∷ []
      → new.groups.items ≡ set x.groups.items n (Some (a, x.place)) → new.cells.items ≡ x.cells.items → new.place ≡ x.place
      → Goes s ts (Next.Leave list) x (Next.Leave c.next) new
  goes_close-inside x new c list n a ne hf e hc hn hr hg hx hi =
      let xs : List Cell = x.cells.items in
      let fs : List Frame = reverse x.frames.items in
      let g : Groups = x.groups.items in
      let g' : Groups = set g n (Some (a, x.place)) in
      let old : Option Span = get_or g n None in
      let back : set g' n old ≡ g = set-set g n (Some (a, x.place)) old ∙ set-get_or g n None in
      let K : Work = list_at s ts xs c.next x.place g' in
      let begun : IsCharBoundary s a = subst (ItemFits s) hc (item-fits xs c list ne hf.cells hf.list e) in
      goes_by s ts (Next.Leave list) (Next.Leave c.next) x new 0 xs x.place g' (Frame.Restore n old ∷ fs)
      hx hi hg (ap reverse hr ∙ reverse-append x.frames.items (Frame.Restore n old ∷ []))
      (ap (λ (k : On). pending s ts xs g fs (k x.place g)) (leave-cell xs c list ne hf.cells hf.list e)
      ∙ ap (λ it. pending s ts xs g fs (on_item s ts it (list_at s ts xs c.next) x.place g)) hc
      ∙ pending-tick s ts xs g fs (tick K)
      ∙ ap (λ h. tick (pending s ts xs h fs (tick K))) (sym back))
      hf.cells (hf.groups n, hf.frames) (next-fits xs c list ne hf.cells hf.list e) hf.place
      (GroupsFit-set s g n (Some (a, x.place)) hf.groups (begun, hf.place))

  -- a group ends
  pub goes_close : (x new : Search) (c : Cell) (list n a : ℕ)
      → list ≢ 0 → Fits s (Next.Leave list) x → get_or x.cells.items (list - 1) c ≡ c → c.item ≡ Close n a
      → (n < length x.groups.items → new.frames.items ≡ x.frames.items ++ Frame.Restore n (get_or x.groups.items n None) ∷ [])
      → (length x.groups.items ≤ n → new.frames.items ≡ x.frames.items)
      → new.groups.items ≡ set x.groups.items n (Some (a, x.place)) → new.cells.items ≡ x.cells.items → new.place ≡ x.place
      → Goes s ts (Next.Leave list) x (Next.Leave c.next) new
  goes_close x new c list n a ne hf e hc inside outside hg hx hi =
      elim (cases_lt n (length x.groups.items)) [
        | inl p ↦ goes_close-inside x new c list n a ne hf e hc p (inside p) hg hx hi
        | inr q ↦
            (let kept : set x.groups.items n (Some (a, x.place)) ≡ x.groups.items = set_past x.groups.items n (Some (a, x.place)) q in
            goes_to s ts (Next.Leave list) (Next.Leave c.next) x new 1 x.place hf hx (hg ∙ kept) (outside q) hi
            (ap (λ (k : On). k x.place x.groups.items) (leave-cell x.cells.items c list ne hf.cells hf.list e)
            ∙ ap (λ it. on_item s ts it (list_at s ts x.cells.items c.next) x.place x.groups.items) hc
            ∙ ap (λ h. tick (tick (list_at s ts x.cells.items c.next x.place h))) kept)
            (next-fits x.cells.items c list ne hf.cells hf.list e) hf.place)
      ]

  resume-enter : (old new : Search) (rest : List Frame) (n k j len : ℕ)
      → Fits s Next.Fail old → reverse old.frames.items ≡ Frame.Enter n k j len ∷ reverse rest
      → new.frames.items ≡ rest → new.place ≡ j → new.cells.items ≡ take len old.cells.items → new.groups.items ≡ old.groups.items
      → Goes s ts Next.Fail old (Next.Enter n k) new
  resume-enter old new rest n k j len hf hr hn hi hx hg =
      let xs : List Cell = old.cells.items in
      let g : Groups = old.groups.items in
      let fs : List Frame = reverse rest in
      let ff : FramesFit s (length xs) (Frame.Enter n k j len ∷ fs) = subst (FramesFit s (length xs)) hr hf.frames in
      let ln : length (take len xs) ≡ len = length-take-le len xs ff.1 in
      goes_by s ts Next.Fail (Next.Enter n k) old new 0 (take len xs) j g fs hx hi hg (ap reverse hn)
      (ap (λ rs. pending s ts xs g rs none) hr
      ∙ ap (pending s ts (take len xs) g fs) (both-none (tick (search s (tree_at s ts n) (list_at s ts (take len xs) k) j g)))
      ∙ pending-tick s ts (take len xs) g fs (search s (tree_at s ts n) (list_at s ts (take len xs) k) j g))
      (CellsFit-take s xs len hf.cells) (rw ln ff.3) (rw ln ff.0) ff.2 hf.groups

  resume-leave : (old new : Search) (rest : List Frame) (k j len : ℕ)
      → Fits s Next.Fail old → reverse old.frames.items ≡ Frame.Leave k j len ∷ reverse rest
      → new.frames.items ≡ rest → new.place ≡ j → new.cells.items ≡ take len old.cells.items → new.groups.items ≡ old.groups.items
      → Goes s ts Next.Fail old (Next.Leave k) new
  resume-leave old new rest k j len hf hr hn hi hx hg =
      let xs : List Cell = old.cells.items in
      let g : Groups = old.groups.items in
      let fs : List Frame = reverse rest in
      let ff : FramesFit s (length xs) (Frame.Leave k j len ∷ fs) = subst (FramesFit s (length xs)) hr hf.frames in
      let ln : length (take len xs) ≡ len = length-take-le len xs ff.1 in
      goes_by s ts Next.Fail (Next.Leave k) old new 0 (take len xs) j g fs hx hi hg (ap reverse hn)
      (ap (λ rs. pending s ts xs g rs none) hr
      ∙ ap (pending s ts (take len xs) g fs) (both-none (tick (list_at s ts (take len xs) k j g)))
      ∙ pending-tick s ts (take len xs) g fs (list_at s ts (take len xs) k j g))
      (CellsFit-take s xs len hf.cells) (rw ln ff.3) (rw ln ff.0) ff.2 hf.groups

  resume-restore : (old new : Search) (rest : List Frame) (n : ℕ) (was : Option Span)
      → Fits s Next.Fail old → reverse old.frames.items ≡ Frame.Restore n was ∷ reverse rest
      → new.frames.items ≡ rest → new.place ≡ old.place → new.cells.items ≡ old.cells.items → new.groups.items ≡ set old.groups.items n was
      → Goes s ts Next.Fail old Next.Fail new
  resume-restore old new rest n was hf hr hn hi hx hg =
      let xs : List Cell = old.cells.items in
      let fs : List Frame = reverse rest in
      let ff : SlotFits s was × FramesFit s (length xs) fs = (let P : List Frame → Type 0 = FramesFit s (length xs) in subst P hr hf.frames) in
      goes_by s ts Next.Fail Next.Fail old new 0 xs old.place (set old.groups.items n was) fs hx hi hg (ap reverse hn)
      (ap (λ rs. pending s ts xs old.groups.items rs none) hr ∙ pending-tick s ts xs (set old.groups.items n was) fs none)
      hf.cells ff.1 tt hf.place (GroupsFit-set s old.groups.items n was hf.groups ff.0)

  -- a stretch without places is over
  resume-no_place : (old new : Search) (rest : List Frame) (k j len : ℕ)
      → Fits s Next.Fail old → reverse old.frames.items ≡ Frame.Stretch k 0 j len ∷ reverse rest
      → new.frames.items ≡ rest → new.place ≡ old.place → new.cells.items ≡ take len old.cells.items → new.groups.items ≡ old.groups.items
      → Goes s ts Next.Fail old Next.Fail new
  resume-no_place old new rest k j len hf hr hn hi hx hg =
      let xs : List Cell = old.cells.items in
      let g : Groups = old.groups.items in
      let fs : List Frame = reverse rest in
      let ff : FramesFit s (length xs) (Frame.Stretch k 0 j len ∷ fs) = subst (FramesFit s (length xs)) hr hf.frames in
      let ln : length (take len xs) ≡ len = length-take-le len xs ff.1 in
      goes_by s ts Next.Fail Next.Fail old new 0 (take len xs) old.place g fs hx hi hg (ap reverse hn)
      (ap (λ rs. pending s ts xs g rs none) hr
      ∙ ap (pending s ts (take len xs) g fs) (both-none (tick none))
      ∙ pending-tick s ts (take len xs) g fs none)
      (CellsFit-take s xs len hf.cells) (rw ln ff.3) tt hf.place hf.groups

  -- the last place of a stretch is tried
  resume-last : (old new : Search) (rest : List Frame) (k n j len : ℕ)
      → Fits s Next.Fail old → reverse old.frames.items ≡ Frame.Stretch k (suc n) j len ∷ reverse rest
      → new.frames.items ≡ rest ++ Frame.Stretch k n (j - 1) len ∷ [] → new.place ≡ j → new.cells.items ≡ take len old.cells.items → new.groups.items ≡ old.groups.items
      → Goes s ts Next.Fail old (Next.Leave k) new
  resume-last old new rest k n j len hf hr hn hi hx hg =
      let xs : List Cell = old.cells.items in
      let g : Groups = old.groups.items in
      let fs : List Frame = reverse rest in
      let ff : FramesFit s (length xs) (Frame.Stretch k (suc n) j len ∷ fs) = subst (FramesFit s (length xs)) hr hf.frames in
      let ln : length (take len xs) ≡ len = length-take-le len xs ff.1 in
      let twice : take len (take len xs) ≡ take len xs = ap (λ (m : ℕ). take m (take len xs)) (sym ln) ∙ take-length (take len xs) in
      let K : Work = list_at s ts (take len xs) k j g in
      let P : Work = at_places (list_at s ts (take len xs) k) n (j - 1) g in
      goes_by s ts Next.Fail (Next.Leave k) old new 0 (take len xs) j g (Frame.Stretch k n (j - 1) len ∷ fs) hx hi hg
      (ap reverse hn ∙ reverse-append rest (Frame.Stretch k n (j - 1) len ∷ []))
      (ap (λ rs. pending s ts xs g rs none) hr
      ∙ ap (pending s ts (take len xs) g fs) (both-none (tick (both (tick K) P)))
      ∙ pending-tick s ts (take len xs) g fs (both (tick K) P)
      ∙ ap (λ (w : Work). tick (pending s ts (take len xs) g fs w)) (both-tick K P ∙ sym (both-tick_right K P))
      ∙ ap (λ (zs : List Cell). tick (pending s ts zs g fs (both K (tick (at_places (list_at s ts zs k) n (j - 1) g))))) (sym twice))
      (CellsFit-take s xs len hf.cells)
      (rw ln (ff.0, omega arith, (λ m p. subst (IsCharBoundary s) (let e : j - suc m ≡ j - 1 - m = omega arith in e) (ff.2 (suc m) (omega arith))), ff.3))
      (rw ln ff.0)
      (subst (IsCharBoundary s) (let e : j - 0 ≡ j = omega arith in e) (ff.2 0 (omega arith)))
      hf.groups

  -- no start is left
  resume-no_start : (old new : Search) (rest : List Frame) (a k j len : ℕ)
      → Fits s Next.Fail old → reverse old.frames.items ≡ Frame.Starts a k 0 j len ∷ reverse rest
      → new.frames.items ≡ rest → new.place ≡ old.place → new.cells.items ≡ take len old.cells.items → new.groups.items ≡ old.groups.items
      → Goes s ts Next.Fail old Next.Fail new
  resume-no_start old new rest a k j len hf hr hn hi hx hg =
      let xs : List Cell = old.cells.items in
      let g : Groups = old.groups.items in
      let fs : List Frame = reverse rest in
      let ff : FramesFit s (length xs) (Frame.Starts a k 0 j len ∷ fs) = subst (FramesFit s (length xs)) hr hf.frames in
      let ln : length (take len xs) ≡ len = length-take-le len xs ff.1 in
      goes_by s ts Next.Fail Next.Fail old new 0 (take len xs) old.place g fs hx hi hg (ap reverse hn)
      (ap (λ rs. pending s ts xs g rs none) hr
      ∙ ap (pending s ts (take len xs) g fs) (both-none (tick none))
      ∙ pending-tick s ts (take len xs) g fs none)
      (CellsFit-take s xs len hf.cells) (rw ln ff.2) tt hf.place hf.groups

  -- a frame of starts, without its last one
  starts-left : (old : Search) (fs : List Frame) (a k n j len : ℕ) → reverse old.frames.items ≡ Frame.Starts a k (suc n) j len ∷ fs → length (take len old.cells.items) ≡ len → (w : Work)
      → at_start s (search s (tree_at s ts a)) (list_at s ts (take len old.cells.items) k) j old.groups.items ≡ w
      → pending s ts old.cells.items old.groups.items (reverse old.frames.items) none
      ≡ tick (pending s ts (take len old.cells.items) old.groups.items (Frame.Starts a k n (j - 1) len ∷ fs) w)
  starts-left old fs a k n j len hr ln w hw =
      let xs : List Cell = old.cells.items in
      let g : Groups = old.groups.items in
      let S : On = at_start s (search s (tree_at s ts a)) (list_at s ts (take len xs) k) in
      let P : Work = at_places S n (j - 1) g in
      let twice : take len (take len xs) ≡ take len xs = ap (λ (m : ℕ). take m (take len xs)) (sym ln) ∙ take-length (take len xs) in
      ap (λ rs. pending s ts xs g rs none) hr
      ∙ ap (pending s ts (take len xs) g fs) (both-none (tick (both (tick (S j g)) P)))
      ∙ pending-tick s ts (take len xs) g fs (both (tick (S j g)) P)
      ∙ ap (λ (v : Work). tick (pending s ts (take len xs) g fs v)) (both-tick (S j g) P ∙ sym (both-tick_right (S j g) P))
      ∙ ap (λ (v : Work). tick (pending s ts (take len xs) g fs (both v (tick P)))) hw
      ∙ ap (λ (zs : List Cell). tick (pending s ts zs g fs (both w (tick (at_places (at_start s (search s (tree_at s ts a)) (list_at s ts zs k)) n (j - 1) g))))) (sym twice)

  -- the node is tried at the last start
  resume-start : (old new : Search) (rest : List Frame) (a k n j len : ℕ)
      → Fits s Next.Fail old → reverse old.frames.items ≡ Frame.Starts a k (suc n) j len ∷ reverse rest → is_start s j ≡ true → IsCharBoundary s j
      → new.frames.items ≡ rest ++ Frame.Starts a k n (j - 1) len ∷ [] → new.place ≡ j → new.cells.items ≡ take len old.cells.items → new.groups.items ≡ old.groups.items
      → Goes s ts Next.Fail old (Next.Enter a k) new
  resume-start old new rest a k n j len hf hr hs hb hn hi hx hg =
      let xs : List Cell = old.cells.items in
      let g : Groups = old.groups.items in
      let fs : List Frame = reverse rest in
      let ff : FramesFit s (length xs) (Frame.Starts a k (suc n) j len ∷ fs) = subst (FramesFit s (length xs)) hr hf.frames in
      let ln : length (take len xs) ≡ len = length-take-le len xs ff.1 in
      goes_by s ts Next.Fail (Next.Enter a k) old new 0 (take len xs) j g (Frame.Starts a k n (j - 1) len ∷ fs) hx hi hg
      (ap reverse hn ∙ reverse-append rest (Frame.Starts a k n (j - 1) len ∷ []))
      (starts-left old fs a k n j len hr ln (search s (tree_at s ts a) (list_at s ts (take len xs) k) j g)
      (ap (λ b. work_if b (search s (tree_at s ts a) (list_at s ts (take len xs) k) j g)) hs))
      (CellsFit-take s xs len hf.cells) (rw ln (ff.0, omega arith, ff.2)) (rw ln ff.0) hb hf.groups

  -- no match begins between the bytes of a character
  resume-between : (old new : Search) (rest : List Frame) (a k n j len : ℕ)
      → Fits s Next.Fail old → reverse old.frames.items ≡ Frame.Starts a k (suc n) j len ∷ reverse rest → is_start s j ≡ false
      → new.frames.items ≡ rest ++ Frame.Starts a k n (j - 1) len ∷ [] → new.place ≡ old.place → new.cells.items ≡ take len old.cells.items → new.groups.items ≡ old.groups.items
      → Goes s ts Next.Fail old Next.Fail new
  resume-between old new rest a k n j len hf hr hs hn hi hx hg =
      let xs : List Cell = old.cells.items in
      let g : Groups = old.groups.items in
      let fs : List Frame = reverse rest in
      let ff : FramesFit s (length xs) (Frame.Starts a k (suc n) j len ∷ fs) = subst (FramesFit s (length xs)) hr hf.frames in
      let ln : length (take len xs) ≡ len = length-take-le len xs ff.1 in
      goes_by s ts Next.Fail Next.Fail old new 0 (take len xs) old.place g (Frame.Starts a k n (j - 1) len ∷ fs) hx hi hg
      (ap reverse hn ∙ reverse-append rest (Frame.Starts a k n (j - 1) len ∷ []))
      (starts-left old fs a k n j len hr ln none
      (ap (λ b. work_if b (search s (tree_at s ts a) (list_at s ts (take len xs) k) j g)) hs))
      (CellsFit-take s xs len hf.cells) (rw ln (ff.0, omega arith, ff.2)) tt hf.place hf.groups

  -- a part that was to match has no match
  resume-unmatched : (old new : Search) (rest : List Frame) (b : Bound) (k j len : ℕ)
      → Fits s Next.Fail old → reverse old.frames.items ≡ Frame.Within b k j len ∷ reverse rest → ((K : On) (i : ℕ) (g : Groups) → outcome b None K i g ≡ none)
      → new.frames.items ≡ rest → new.place ≡ old.place → new.cells.items ≡ take len old.cells.items → new.groups.items ≡ old.groups.items
      → Goes s ts Next.Fail old Next.Fail new
  resume-unmatched old new rest b k j len hf hr ho hn hi hx hg =
      let xs : List Cell = old.cells.items in
      let g : Groups = old.groups.items in
      let fs : List Frame = reverse rest in
      let ff : FramesFit s (length xs) (Frame.Within b k j len ∷ fs) = subst (FramesFit s (length xs)) hr hf.frames in
      let ln : length (take len xs) ≡ len = length-take-le len xs ff.1 in
      let K : On = list_at s ts (take len xs) k in
      goes_by s ts Next.Fail Next.Fail old new 0 (take len xs) old.place g fs hx hi hg (ap reverse hn)
      (ap (λ rs. pending s ts xs g rs none) hr
      ∙ ap (λ w. pending s ts (take len xs) g fs (tick w)) (bounded-none b K j g ∙ ho K j g)
      ∙ pending-tick s ts (take len xs) g fs none)
      (CellsFit-take s xs len hf.cells) (rw ln ff.3) tt hf.place hf.groups

  -- a part that was to have no match has none
  resume-fails : (old new : Search) (rest : List Frame) (k j len : ℕ)
      → Fits s Next.Fail old → reverse old.frames.items ≡ Frame.Within Bound.Fails k j len ∷ reverse rest
      → new.frames.items ≡ rest → new.place ≡ j → new.cells.items ≡ take len old.cells.items → new.groups.items ≡ old.groups.items
      → Goes s ts Next.Fail old (Next.Leave k) new
  resume-fails old new rest k j len hf hr hn hi hx hg =
      let xs : List Cell = old.cells.items in
      let g : Groups = old.groups.items in
      let fs : List Frame = reverse rest in
      let ff : FramesFit s (length xs) (Frame.Within Bound.Fails k j len ∷ fs) = subst (FramesFit s (length xs)) hr hf.frames in
      let ln : length (take len xs) ≡ len = length-take-le len xs ff.1 in
      let K : On = list_at s ts (take len xs) k in
      goes_by s ts Next.Fail (Next.Leave k) old new 0 (take len xs) j g fs hx hi hg (ap reverse hn)
      (ap (λ rs. pending s ts xs g rs none) hr
      ∙ ap (λ w. pending s ts (take len xs) g fs (tick w)) (bounded-none Bound.Fails K j g)
      ∙ pending-tick s ts (take len xs) g fs (K j g))
      (CellsFit-take s xs len hf.cells) (rw ln ff.3) (rw ln ff.0) ff.2 hf.groups

  -- a frame of starts is taken off
  resume-starts : (old new : Search) (rest : List Frame) (mid : Search) (next : Next) (a k n j len : ℕ)
      → Fits s Next.Fail old → reverse old.frames.items ≡ Frame.Starts a k (suc n) j len ∷ reverse rest
      → mid.cells.items ≡ old.cells.items → mid.groups.items ≡ old.groups.items → mid.place ≡ old.place → mid.frames.items ≡ rest
      → (is_start s j ≡ true → IsCharBoundary s j) → Restarts s a k (suc n) j len mid next new → (b : Bool) → is_start s j ≡ b
      → Goes s ts Next.Fail old next new
  resume-starts old new rest mid next a k n j len hf hr mc mg mi mr hb h true e =
      let next_is : next ≡ Next.Enter a k = h.next_is ∙ ap (λ b. if b then Next.Enter a k else Next.Fail) e in
      rw next_is (resume-start old new rest a k n j len hf hr e (hb e)
      (h.frames ∙ ap (λ (fs : List Frame). fs ++ Frame.Starts a k n (j - 1) len ∷ []) mr)
      (h.place ∙ ap (λ b. if b then j else mid.place) e) (h.cells ∙ ap (take len) mc) (h.groups ∙ mg))
  resume-starts old new rest mid next a k n j len hf hr mc mg mi mr hb h false e =
      let next_is : next ≡ Next.Fail = h.next_is ∙ ap (λ b. if b then Next.Enter a k else Next.Fail) e in
      rw next_is (resume-between old new rest a k n j len hf hr e
      (h.frames ∙ ap (λ (fs : List Frame). fs ++ Frame.Starts a k n (j - 1) len ∷ []) mr)
      (h.place ∙ ap (λ b. if b then j else mid.place) e ∙ mi) (h.cells ∙ ap (take len) mc) (h.groups ∙ mg))

  -- the last frame is taken off
  pub goes_resume : (old new : Search) (rest : List Frame) (mid : Search) (next : Next) (f : Frame)
      → Fits s Next.Fail old → reverse old.frames.items ≡ f ∷ reverse rest
      → mid.cells.items ≡ old.cells.items → mid.groups.items ≡ old.groups.items → mid.place ≡ old.place → mid.frames.items ≡ rest
      → ((node list place cells : ℕ) → f ≡ Frame.Enter node list place cells → (next ≡ Next.Enter node list) × ReturnsTo place cells mid new)
      → ((list place cells : ℕ) → f ≡ Frame.Leave list place cells → (next ≡ Next.Leave list) × ReturnsTo place cells mid new)
      → ((list count place cells : ℕ) → f ≡ Frame.Stretch list count place cells → Retreats list count place cells mid next new)
      → ((i : ℕ) → is_start s i ≡ true → IsCharBoundary s i)
      → ((node list count place cells : ℕ) → f ≡ Frame.Starts node list count place cells → Restarts s node list count place cells mid next new)
      → ((bound : Bound) (list place cells : ℕ) → f ≡ Frame.Within bound list place cells → ComesOut bound list place cells mid next new)
      → ((group : ℕ) (was : Option Span) → f ≡ Frame.Restore group was → (next ≡ Next.Fail) × RestoresGroup group was mid new)
      → Goes s ts Next.Fail old next new
  goes_resume old new rest mid next (Frame.Enter n k j len) hf hr mc mg mi mr he hl ht hb hp hw hs =
      let h = he n k j len refl in
      rw h.0 (resume-enter old new rest n k j len hf hr (h.1.frames ∙ mr) h.1.place (h.1.cells ∙ ap (take len) mc) (h.1.groups ∙ mg))
  goes_resume old new rest mid next (Frame.Leave k j len) hf hr mc mg mi mr he hl ht hb hp hw hs =
      let h = hl k j len refl in
      rw h.0 (resume-leave old new rest k j len hf hr (h.1.frames ∙ mr) h.1.place (h.1.cells ∙ ap (take len) mc) (h.1.groups ∙ mg))
  goes_resume old new rest mid next (Frame.Stretch k zero j len) hf hr mc mg mi mr he hl ht hb hp hw hs =
      let h = ht k 0 j len refl in
      rw h.0 (resume-no_place old new rest k j len hf hr (h.1.frames ∙ mr) (h.1.place ∙ mi) (h.1.cells ∙ ap (take len) mc) (h.1.groups ∙ mg))
  goes_resume old new rest mid next (Frame.Stretch k (suc n) j len) hf hr mc mg mi mr he hl ht hb hp hw hs =
      let h = ht k (suc n) j len refl in
      rw h.next_is (resume-last old new rest k n j len hf hr (h.frames ∙ ap (λ (fs : List Frame). fs ++ Frame.Stretch k n (j - 1) len ∷ []) mr) h.place (h.cells ∙ ap (take len) mc) (h.groups ∙ mg))
  goes_resume old new rest mid next (Frame.Starts a k zero j len) hf hr mc mg mi mr he hl ht hb hp hw hs =
      let h = hp a k 0 j len refl in
      rw h.0 (resume-no_start old new rest a k j len hf hr (h.1.frames ∙ mr) (h.1.place ∙ mi) (h.1.cells ∙ ap (take len) mc) (h.1.groups ∙ mg))
  goes_resume old new rest mid next (Frame.Starts a k (suc n) j len) hf hr mc mg mi mr he hl ht hb hp hw hs =
      resume-starts old new rest mid next a k n j len hf hr mc mg mi mr (hb j) (hp a k (suc n) j len refl) (is_start s j) refl
  goes_resume old new rest mid next (Frame.Within Bound.Whole k j len) hf hr mc mg mi mr he hl ht hb hp hw hs =
      let h = hw Bound.Whole k j len refl in
      rw h.0 (resume-unmatched old new rest Bound.Whole k j len hf hr (λ K i g. refl) (h.1.frames ∙ mr) (h.1.place ∙ mi) (h.1.cells ∙ ap (take len) mc) (h.1.groups ∙ mg))
  goes_resume old new rest mid next (Frame.Within Bound.Holds k j len) hf hr mc mg mi mr he hl ht hb hp hw hs =
      let h = hw Bound.Holds k j len refl in
      rw h.0 (resume-unmatched old new rest Bound.Holds k j len hf hr (λ K i g. refl) (h.1.frames ∙ mr) (h.1.place ∙ mi) (h.1.cells ∙ ap (take len) mc) (h.1.groups ∙ mg))
  goes_resume old new rest mid next (Frame.Within Bound.Fails k j len) hf hr mc mg mi mr he hl ht hb hp hw hs =
      let h = hw Bound.Fails k j len refl in
      rw h.0 (resume-fails old new rest k j len hf hr (h.1.frames ∙ mr) h.1.place (h.1.cells ∙ ap (take len) mc) (h.1.groups ∙ mg))
  goes_resume old new rest mid next (Frame.Restore n was) hf hr mc mg mi mr he hl ht hb hp hw hs =
      let h = hs n was refl in
      rw h.0 (resume-restore old new rest n was hf hr (h.1.frames ∙ mr) (h.1.place ∙ mi) (h.1.cells ∙ mc) (h.1.groups ∙ ap (λ (g : Groups). set g n was) mg))
