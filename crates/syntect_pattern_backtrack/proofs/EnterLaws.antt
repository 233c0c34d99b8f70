-- A node is matched.
use Rattle.std.proofs.Common.{◌≡◌, ℕ, suc, ◌+◌, ◌-◌, ◌<◌, ◌≤◌, Bool, true, false, refl, arith, length-append, reverse, List, [], ◌∷◌, ◌++◌, length, set, sym, ◌∙◌, ap, Option, Some, None}
use Rattle.std.specs.Prelude.{IsCharBoundary, IfSome, IfNone, slice_get, Result, Ok, Err, IfOk, OnOk}
use Rattle.std.proofs.Math.Seq.{take-append_seam, take-length}
use Rattle.std.proofs.lemmas.List.{reverse-append}
use Rattle.syntect_pattern_backtrack.specs.syntect_pattern.Matches.{Groups, Member, anchor_holds, same_text}
use Rattle.syntect_pattern_backtrack.specs.syntect_pattern.Text.{char_at}
use Rattle.syntect_pattern_backtrack.specs.syntect_pattern.Sets.{Set, holds}
use Rattle.syntect_pattern_backtrack.specs.syntect_pattern.Trees.{Tree, nothing, one_of, anchor, same, seq, alt, repeat, group, atomic, ahead, behind}
use Rattle.syntect_pattern_backtrack.specs.syntect_pattern.declared.anchor.Anchor.{Anchor}
use Rattle.syntect_pattern_backtrack.specs.declared.state.Continuation.TheVariants.{Run, Close, EndsAt}
use Rattle.syntect_pattern_backtrack.specs.declared.state.Bound.{Bound}
use Rattle.syntect_pattern_backtrack.specs.declared.state.Cell.{Cell}
use Rattle.syntect_pattern_backtrack.specs.declared.state.Frame.{Frame}
use Rattle.syntect_pattern_backtrack.specs.declared.state.Next.{Next}
use Rattle.syntect_pattern_backtrack.specs.declared.state.Search.{Search}
use Rattle.syntect_pattern_backtrack.specs.Machine.{Work, On, none, done, tick, both, work_if, at_each, ends_at, at_places, at_start, bounded, outcome, look_bound, list_at, search, tree_at, go_on, turns_of, pending, now, total, steps_of, Fits, Goes}
use Rattle.syntect_pattern_steps.specs.Steps.{at_end, after_char}
use Rattle.syntect_pattern_backtrack.proofs.StepLaws.{goes_by, goes_to, goes_on, goes_cons, goes_choice, pending-ticks}
use Rattle.syntect_pattern_backtrack.proofs.MachineLaws.{list_at-nil, list_at-seam, pending-less, CellsFit-push}
use Rattle.syntect_pattern_backtrack.proofs.LookbehindLaws.{Few}
use Rattle.syntect_pattern_backtrack.proofs.WorkLaws.{both-none, both-none_right}

module _ (s : List ℕ) (ts : List Tree) (node k : ℕ) where
  -- what is entered, for a node of this tree
  entered : (x : Search) (t : Tree) → tree_at s ts node ≡ t → now s ts (Next.Enter node k) x.cells.items x.place x.groups.items ≡ search s t (list_at s ts x.cells.items k) x.place x.groups.items
  entered x t is = ap (λ (t : Tree). search s t (list_at s ts x.cells.items k) x.place x.groups.items) is

  pub goes_nothing : (x : Search) → tree_at s ts node ≡ nothing → Fits s (Next.Enter node k) x → Goes s ts (Next.Enter node k) x (Next.Leave k) x
  goes_nothing x is hf = goes_on s ts (Next.Enter node k) (Next.Leave k) x 0 hf (entered x nothing is) hf.list

  -- a character is read, or there is none that fits
  pub goes_past : (old new : Search) (set : Set) (next : Next) (place : Option ℕ)
      → tree_at s ts node ≡ one_of set → Fits s (Next.Enter node k) old
      → place ≡ after_char (holds set) (char_at s old.place) old.place → IfSome place (λ j. IsCharBoundary s j)
      → IfSome place (λ j. (next ≡ Next.Leave k) × (new ≡ record old { place = j })) → IfNone place ((next ≡ Next.Fail) × (new ≡ old))
      → Goes s ts (Next.Enter node k) old next new
  goes_past old new set next None is hf e b some none =
      rw none.0 (goes_to s ts (Next.Enter node k) Next.Fail old new 0 old.place hf
      (ap (λ (x : Search). x.cells.items) none.1) (ap (λ (x : Search). x.groups.items) none.1) (ap (λ (x : Search). x.frames.items) none.1) (ap (λ (x : Search). x.place) none.1)
      (entered old (one_of set) is ∙ ap (λ p. tick (go_on p (list_at s ts old.cells.items k) old.groups.items)) (sym e))
      tt hf.place)
  goes_past old new set next (Some j) is hf e b some none =
      rw some.0 (goes_to s ts (Next.Enter node k) (Next.Leave k) old new 0 j hf
      (ap (λ (x : Search). x.cells.items) some.1) (ap (λ (x : Search). x.groups.items) some.1) (ap (λ (x : Search). x.frames.items) some.1) (ap (λ (x : Search). x.place) some.1)
      (entered old (one_of set) is ∙ ap (λ p. tick (go_on p (list_at s ts old.cells.items k) old.groups.items)) (sym e))
      hf.list b)

  first_read : (old : Search) (a b : ℕ) (set : Set) → tree_at s ts node ≡ seq (tree_at s ts a) (tree_at s ts b) → tree_at s ts a ≡ one_of set
      → now s ts (Next.Enter node k) old.cells.items old.place old.groups.items
      ≡ tick (tick (go_on (after_char (holds set) (char_at s old.place) old.place) (λ j h. tick (search s (tree_at s ts b) (list_at s ts old.cells.items k) j h)) old.groups.items))
  first_read old a b set is one =
      entered old (seq (tree_at s ts a) (tree_at s ts b)) is ∙ ap (λ (t : Tree). tick (search s t (λ j h. tick (search s (tree_at s ts b) (list_at s ts old.cells.items k) j h)) old.place old.groups.items)) one

  pub goes_seq : (old new : Search) (a b : ℕ) → tree_at s ts node ≡ seq (tree_at s ts a) (tree_at s ts b) → Fits s (Next.Enter node k) old
      → new.cells.items ≡ old.cells.items ++ record { item = Run b; next = k } ∷ [] → new ≡ record old { cells = new.cells }
      → Goes s ts (Next.Enter node k) old (Next.Enter a (length old.cells.items + 1)) new
  goes_seq old new a b is hf hc ho =
      goes_cons s ts (Next.Enter node k) old new 0 a (record { item = Run b; next = k }) hf hc ho (entered old (seq (tree_at s ts a) (tree_at s ts b)) is) hf.list tt

  -- the first part is one character: it is read, or there is none that fits
  pub goes_seq_past : (old new : Search) (a b : ℕ) (set : Set) (next : Next) (place : Option ℕ)
      → tree_at s ts node ≡ seq (tree_at s ts a) (tree_at s ts b) → tree_at s ts a ≡ one_of set → Fits s (Next.Enter node k) old
      → place ≡ after_char (holds set) (char_at s old.place) old.place → IfSome place (λ j. IsCharBoundary s j)
      → IfSome place (λ j. (next ≡ Next.Enter b k) × (new ≡ record old { place = j })) → IfNone place ((next ≡ Next.Fail) × (new ≡ old))
      → Goes s ts (Next.Enter node k) old next new
  goes_seq_past old new a b set next None is one hf e t some none =
      rw none.0 (goes_to s ts (Next.Enter node k) Next.Fail old new 1 old.place hf
      (ap (λ (x : Search). x.cells.items) none.1) (ap (λ (x : Search). x.groups.items) none.1) (ap (λ (x : Search). x.frames.items) none.1) (ap (λ (x : Search). x.place) none.1)
      (first_read old a b set is one ∙ ap (λ p. tick (tick (go_on p (λ j h. tick (search s (tree_at s ts b) (list_at s ts old.cells.items k) j h)) old.groups.items))) (sym e))
      tt hf.place)
  goes_seq_past old new a b set next (Some j) is one hf e t some none =
      rw some.0 (goes_to s ts (Next.Enter node k) (Next.Enter b k) old new 2 j hf
      (ap (λ (x : Search). x.cells.items) some.1) (ap (λ (x : Search). x.groups.items) some.1) (ap (λ (x : Search). x.frames.items) some.1) (ap (λ (x : Search). x.place) some.1)
      (first_read old a b set is one ∙ ap (λ p. tick (tick (go_on p (λ j h. tick (search s (tree_at s ts b) (list_at s ts old.cells.items k) j h)) old.groups.items))) (sym e))
      hf.list t)

  -- the first part is an anchor
  pub goes_seq_anchor : (old : Search) (a b : ℕ) (c : Anchor) (holds : Bool) → tree_at s ts node ≡ seq (tree_at s ts a) (tree_at s ts b) → tree_at s ts a ≡ anchor c
      → Fits s (Next.Enter node k) old → holds ≡ anchor_holds s c old.place
      → (holds ≡ true → Goes s ts (Next.Enter node k) old (Next.Enter b k) old) × (holds ≡ false → Goes s ts (Next.Enter node k) old Next.Fail old)
  goes_seq_anchor old a b c holds is one hf e = (
    λ t. goes_on s ts (Next.Enter node k) (Next.Enter b k) old 2 hf (looked ∙ ap (λ x. tick (tick (work_if x then))) (sym e ∙ t)) hf.list,
    λ f. goes_on s ts (Next.Enter node k) Next.Fail old 1 hf (looked ∙ ap (λ x. tick (tick (work_if x then))) (sym e ∙ f)) tt,
  )
    where
      then : Work
      then = tick (search s (tree_at s ts b) (list_at s ts old.cells.items k) old.place old.groups.items)

      looked : now s ts (Next.Enter node k) old.cells.items old.place old.groups.items ≡ tick (tick (work_if (anchor_holds s c old.place) then))
      looked = entered old (seq (tree_at s ts a) (tree_at s ts b)) is ∙ ap (λ (t : Tree). tick (search s t (λ j h. tick (search s (tree_at s ts b) (list_at s ts old.cells.items k) j h)) old.place old.groups.items)) one

  pub goes_group : (old new : Search) (n a : ℕ) → tree_at s ts node ≡ group n (tree_at s ts a) → Fits s (Next.Enter node k) old
      → new.cells.items ≡ old.cells.items ++ record { item = Close n old.place; next = k } ∷ [] → new ≡ record old { cells = new.cells }
      → Goes s ts (Next.Enter node k) old (Next.Enter a (length old.cells.items + 1)) new
  goes_group old new n a is hf hc ho =
      goes_cons s ts (Next.Enter node k) old new 0 a (record { item = Close n old.place; next = k }) hf hc ho (entered old (group n (tree_at s ts a)) is) hf.list hf.place

  pub goes_alt : (old new : Search) (a b : ℕ) → tree_at s ts node ≡ alt (tree_at s ts a) (tree_at s ts b) → Fits s (Next.Enter node k) old
      → new.frames.items ≡ old.frames.items ++ Frame.Enter b k old.place (length old.cells.items) ∷ [] → new ≡ record old { frames = new.frames }
      → Goes s ts (Next.Enter node k) old (Next.Enter a k) new
  goes_alt old new a b is hf hr ho =
      goes_choice s ts (Next.Enter node k) old new 0 a b k hf hf.list hr ho (entered old (alt (tree_at s ts a) (tree_at s ts b)) is)

  -- nothing is read where the anchor holds
  pub goes_anchor : (x : Search) (a : Anchor) → tree_at s ts node ≡ anchor a → Fits s (Next.Enter node k) x → anchor_holds s a x.place ≡ true → Goes s ts (Next.Enter node k) x (Next.Leave k) x
  goes_anchor x a is hf h =
      goes_on s ts (Next.Enter node k) (Next.Leave k) x 0 hf
      (entered x (anchor a) is ∙ ap (λ b. tick (work_if b (list_at s ts x.cells.items k x.place x.groups.items))) h) hf.list

  pub goes_no_anchor : (x : Search) (a : Anchor) → tree_at s ts node ≡ anchor a → Fits s (Next.Enter node k) x → anchor_holds s a x.place ≡ false → Goes s ts (Next.Enter node k) x Next.Fail x
  goes_no_anchor x a is hf h =
      goes_on s ts (Next.Enter node k) Next.Fail x 0 hf
      (entered x (anchor a) is ∙ ap (λ b. tick (work_if b (list_at s ts x.cells.items k x.place x.groups.items))) h) tt

  -- the text of a group stands again at the place, or it doesn't
  pub goes_same : (old new : Search) (fold : Bool) (n : ℕ) (next : Next) (place : Option ℕ)
      → tree_at s ts node ≡ same fold n → Fits s (Next.Enter node k) old
      → ((g : Groups) → same_text s fold (slice_get old.groups.items n) old.place g ≡ at_end place g) → IfSome place (λ j. IsCharBoundary s j)
      → IfSome place (λ j. (next ≡ Next.Leave k) × (new ≡ record old { place = j })) → IfNone place ((next ≡ Next.Fail) × (new ≡ old))
      → Goes s ts (Next.Enter node k) old next new
  goes_same old new fold n next None is hf e b some none =
      rw none.0 (goes_to s ts (Next.Enter node k) Next.Fail old new 0 old.place hf
      (ap (λ (x : Search). x.cells.items) none.1) (ap (λ (x : Search). x.groups.items) none.1) (ap (λ (x : Search). x.frames.items) none.1) (ap (λ (x : Search). x.place) none.1)
      (entered old (same fold n) is ∙ ap (λ ms. tick (at_each (list_at s ts old.cells.items k) ms)) (e old.groups.items))
      tt hf.place)
  goes_same old new fold n next (Some j) is hf e b some none =
      rw some.0 (goes_to s ts (Next.Enter node k) (Next.Leave k) old new 0 j hf
      (ap (λ (x : Search). x.cells.items) some.1) (ap (λ (x : Search). x.groups.items) some.1) (ap (λ (x : Search). x.frames.items) some.1) (ap (λ (x : Search). x.place) some.1)
      (entered old (same fold n) is ∙ ap (λ ms. tick (at_each (list_at s ts old.cells.items k) ms)) (e old.groups.items)
      ∙ ap tick (both-none_right (list_at s ts old.cells.items k j old.groups.items)))
      hf.list b)

  -- a part begins of which the first match counts alone
  goes_part : (old new : Search) (b : Bound) (a : ℕ) (t : Tree)
      → tree_at s ts node ≡ t → ((K : On) (i : ℕ) (g : Groups) → search s t K i g ≡ tick (tick (bounded b (search s (tree_at s ts a) done i g) K i g))) → Fits s (Next.Enter node k) old
      → new.frames.items ≡ old.frames.items ++ Frame.Within b k old.place (length old.cells.items) ∷ [] → new ≡ record old { frames = new.frames }
      → Goes s ts (Next.Enter node k) old (Next.Enter a 0) new
  goes_part old new b a t is e hf hr ho =
      let xs : List Cell = old.cells.items in
      let g : Groups = old.groups.items in
      let i : ℕ = old.place in
      let fs : List Frame = reverse old.frames.items in
      let W : Work = search s (tree_at s ts a) done i g in
      goes_by s ts (Next.Enter node k) (Next.Enter a 0) old new 0 xs i g (Frame.Within b k i (length xs) ∷ fs)
      (ap (λ (x : Search). x.cells.items) ho) (ap (λ (x : Search). x.place) ho) (ap (λ (x : Search). x.groups.items) ho)
      (ap reverse hr ∙ reverse-append old.frames.items (Frame.Within b k i (length xs) ∷ []))
      (ap (pending s ts xs g fs) (entered old t is ∙ e (list_at s ts xs k) i g)
      ∙ pending-ticks s ts 1 xs g fs (tick (bounded b W (list_at s ts xs k) i g))
      ∙ ap (λ (zs : List Cell). tick (pending s ts zs g fs (tick (bounded b W (list_at s ts zs k) i g)))) (sym (take-length xs))
      ∙ ap (λ (l : On). tick (pending s ts xs g (Frame.Within b k i (length xs) ∷ fs) (search s (tree_at s ts a) l i g))) (sym (list_at-nil s ts xs)))
      hf.cells (hf.list, omega arith, hf.place, hf.frames) (omega arith) hf.place hf.groups

  pub goes_atomic : (old new : Search) (a : ℕ) → tree_at s ts node ≡ atomic (tree_at s ts a) → Fits s (Next.Enter node k) old
      → new.frames.items ≡ old.frames.items ++ Frame.Within Bound.Whole k old.place (length old.cells.items) ∷ [] → new ≡ record old { frames = new.frames }
      → Goes s ts (Next.Enter node k) old (Next.Enter a 0) new
  goes_atomic old new a is hf hr ho = goes_part old new Bound.Whole a (atomic (tree_at s ts a)) is (λ K i g. refl) hf hr ho

  pub goes_ahead : (old new : Search) (negated : Bool) (a : ℕ) → tree_at s ts node ≡ ahead negated (tree_at s ts a) → Fits s (Next.Enter node k) old
      → new.frames.items ≡ old.frames.items ++ Frame.Within (look_bound negated) k old.place (length old.cells.items) ∷ [] → new ≡ record old { frames = new.frames }
      → Goes s ts (Next.Enter node k) old (Next.Enter a 0) new
  goes_ahead old new negated a is hf hr ho = goes_part old new (look_bound negated) a (ahead negated (tree_at s ts a)) is (λ K i g. refl) hf hr ho

  -- fewer steps within a part
  bounded-few : (b : Bound) (w x : Work) (K : On) (i : ℕ) (g : Groups) → Few w x
      → ((tick (bounded b (tick w) K i g)).found ≡ (tick (tick (bounded b (tick x) K i g))).found) × ((tick (bounded b (tick w) K i g)).count < (tick (tick (bounded b (tick x) K i g))).count)
  unfolding bounded tick
  bounded-few b w x K i g few =
      let same : outcome b w.found K i g ≡ outcome b x.found K i g = ap (λ (f : Option Member). outcome b f K i g) few.found in
      let count : w.count ≤ x.count = few.count in
      (ap (λ (v : Work). v.found) same, omega (arith, ap (λ (v : Work). v.count) same))

  -- a part begins that is to end at the place; so many starts are enough
  pub goes_behind : (old new : Search) (negated : Bool) (a n from : ℕ) → tree_at s ts node ≡ behind negated (tree_at s ts a) → Fits s (Next.Enter node k) old
      → Few (at_places (at_start s (search s (tree_at s ts a)) (ends_at old.place done)) n from old.groups.items) (at_places (at_start s (search s (tree_at s ts a)) (ends_at old.place done)) (suc old.place) old.place old.groups.items)
      → new.frames.items ≡ old.frames.items ++ Frame.Within (look_bound negated) k old.place (length old.cells.items) ∷ Frame.Starts a (length new.cells.items) n from (length new.cells.items) ∷ []
      → new.cells.items ≡ old.cells.items ++ record { item = EndsAt old.place; next = 0 } ∷ [] → new.place ≡ old.place → new.groups.items ≡ old.groups.items
      → Goes s ts (Next.Enter node k) old Next.Fail new
  goes_behind old new negated a n from is hf few hr hc hi hg =
      let xs : List Cell = old.cells.items in
      let g : Groups = old.groups.items in
      let i : ℕ = old.place in
      let fs : List Frame = reverse old.frames.items in
      let c : Cell = record { item = EndsAt i; next = 0 } in
      let ys : List Cell = xs ++ c ∷ [] in
      let B : Bound = look_bound negated in
      let K : On = list_at s ts xs k in
      let S : On → On = at_start s (search s (tree_at s ts a)) in
      let F : Work = at_places (S (ends_at i done)) n from g in
      let W : Work = at_places (S (ends_at i done)) (suc i) i g in
      let long : length ys ≡ suc (length xs) = omega (arith, length-append xs (c ∷ [])) in
      let ends : list_at s ts ys (length ys) ≡ ends_at i done =
      ap (list_at s ts ys) long ∙ list_at-seam s ts xs c [] ∙ ap (ends_at i) (list_at-nil s ts xs) in
      let frames : reverse new.frames.items ≡ Frame.Starts a (length ys) n from (length ys) ∷ Frame.Within B k i (length xs) ∷ fs =
      ap reverse hr ∙ reverse-append old.frames.items (Frame.Within B k i (length xs) ∷ Frame.Starts a (length new.cells.items) n from (length new.cells.items) ∷ [])
      ∙ ap (λ (zs : List Cell). Frame.Starts a (length zs) n from (length zs) ∷ Frame.Within B k i (length xs) ∷ fs) hc in
      let before : total s ts (Next.Enter node k) old ≡ pending s ts xs g fs (tick (tick (bounded B (tick W) K i g))) =
      ap (pending s ts xs g fs) (entered old (behind negated (tree_at s ts a)) is) in
      let after : total s ts Next.Fail new ≡ pending s ts xs g fs (tick (bounded B (tick F) K i g)) =
      ap (λ (zs : List Cell). pending s ts zs new.groups.items (reverse new.frames.items) none) hc
      ∙ ap (λ (q : Groups). pending s ts ys q (reverse new.frames.items) none) hg
      ∙ ap (λ (rs : List Frame). pending s ts ys g rs none) frames
      ∙ ap (λ (zs : List Cell). pending s ts zs g (Frame.Within B k i (length xs) ∷ fs) (both none (tick (at_places (S (list_at s ts zs (length ys))) n from g)))) (take-length ys)
      ∙ ap (λ (l : On). pending s ts ys g (Frame.Within B k i (length xs) ∷ fs) (both none (tick (at_places (S l) n from g)))) ends
      ∙ ap (λ (w : Work). pending s ts ys g (Frame.Within B k i (length xs) ∷ fs) w) (both-none (tick F))
      ∙ ap (λ (zs : List Cell). pending s ts zs g fs (tick (bounded B (tick F) (list_at s ts zs k) i g))) (take-append_seam xs (c ∷ [])) in
      let step = bounded-few B F W K i g few in
      let less = pending-less s ts xs g fs (tick (bounded B (tick F) K i g)) (tick (tick (bounded B (tick W) K i g))) step.0 step.1 in
      let fewer : (pending s ts xs g fs (tick (bounded B (tick F) K i g))).count < (pending s ts xs g fs (tick (tick (bounded B (tick W) K i g)))).count = less.1 in
      let steps : steps_of s ts Next.Fail new < steps_of s ts (Next.Enter node k) old = omega (arith, ap (λ (v : Work). v.count) after, ap (λ (v : Work). v.count) before) in
      record {
        found = ap (λ (v : Work). v.found) after ∙ less.0 ∙ sym (ap (λ (v : Work). v.found) before);
        fewer = steps;
        fits = record {
          cells = rw hc (CellsFit-push s xs c hf.cells (omega arith) tt);
          frames = rw (hc, frames) (omega arith, omega arith, (hf.list, omega arith, hf.place, hf.frames));
          list = tt;
          place = rw hi hf.place;
          groups = rw hg hf.groups;
        };
      }

  -- the same of what the calls answer
  pub atomic-ok : {E : Type 0} (r : Result Next E) (old new : Search) (a : ℕ) → tree_at s ts node ≡ atomic (tree_at s ts a) → Fits s (Next.Enter node k) old
      → OnOk r (new.frames.items ≡ old.frames.items ++ Frame.Within Bound.Whole k old.place (length old.cells.items) ∷ []) → new ≡ record old { frames = new.frames }
      → IfOk r (λ next. next ≡ Next.Enter a 0) → IfOk r (λ next. Goes s ts (Next.Enter node k) old next new)
  atomic-ok (Ok next) old new a is hf hr ho hn = rw hn (goes_atomic old new a is hf hr ho)
  atomic-ok (Err e) old new a is hf hr ho hn = tt

  pub ahead-ok : {E : Type 0} (r : Result Next E) (old new : Search) (negated : Bool) (b : Bound) (a : ℕ) → tree_at s ts node ≡ ahead negated (tree_at s ts a) → Fits s (Next.Enter node k) old → b ≡ look_bound negated
      → OnOk r (new.frames.items ≡ old.frames.items ++ Frame.Within b k old.place (length old.cells.items) ∷ []) → new ≡ record old { frames = new.frames }
      → IfOk r (λ next. next ≡ Next.Enter a 0) → IfOk r (λ next. Goes s ts (Next.Enter node k) old next new)
  ahead-ok (Ok next) old new negated b a is hf hb hr ho hn =
      rw hn (goes_ahead old new negated a is hf (hr ∙ ap (λ (c : Bound). old.frames.items ++ Frame.Within c k old.place (length old.cells.items) ∷ []) hb) ho)
  ahead-ok (Err e) old new negated b a is hf hb hr ho hn = tt

  pub behind-ok : {E : Type 0} (r : Result Next E) (old new : Search) (negated : Bool) (b : Bound) (a n from : ℕ) → tree_at s ts node ≡ behind negated (tree_at s ts a) → Fits s (Next.Enter node k) old → b ≡ look_bound negated
      → Few (at_places (at_start s (search s (tree_at s ts a)) (ends_at old.place done)) n from old.groups.items) (at_places (at_start s (search s (tree_at s ts a)) (ends_at old.place done)) (suc old.place) old.place old.groups.items)
      → OnOk r (new.frames.items ≡ old.frames.items ++ Frame.Within b k old.place (length old.cells.items) ∷ Frame.Starts a (length new.cells.items) n from (length new.cells.items) ∷ [])
      → OnOk r (new.cells.items ≡ old.cells.items ++ record { item = EndsAt old.place; next = 0 } ∷ []) → new.place ≡ old.place → new.groups.items ≡ old.groups.items
      → IfOk r (λ next. next ≡ Next.Fail) → IfOk r (λ next. Goes s ts (Next.Enter node k) old next new)
  behind-ok (Ok next) old new negated b a n from is hf hb few hr hc hi hg hn =
      rw hn (goes_behind old new negated a n from is hf few
      (hr ∙ ap (λ (c : Bound). old.frames.items ++ Frame.Within c k old.place (length old.cells.items) ∷ Frame.Starts a (length new.cells.items) n from (length new.cells.items) ∷ []) hb)
      hc hi hg)
  behind-ok (Err e) old new negated b a n from is hf hb few hr hc hi hg hn = tt

  -- a loop takes its first turn
  pub goes_repeat : (x : Search) (greedy : Bool) (least left : ℕ) (most : Option ℕ) (a : ℕ) → tree_at s ts node ≡ repeat greedy least most (tree_at s ts a) → Fits s (Next.Enter node k) x
      → left ≡ suc (length s - x.place)
      → Goes s ts (Next.Enter node k) x (Next.Turn (record { node = node; left = left; least = least; most = most }) k) x
  goes_repeat x greedy least left most a is hf hl =
      let K : On = list_at s ts x.cells.items k in
      goes_on s ts (Next.Enter node k) (Next.Turn (record { node = node; left = left; least = least; most = most }) k) x 0 hf
      (entered x (repeat greedy least most (tree_at s ts a)) is
      ∙ ap (λ (n : ℕ). tick (turns_of s ts (repeat greedy least most (tree_at s ts a)) (record { node = node; left = n; least = least; most = most }) K x.place x.groups.items)) (sym hl)
      ∙ ap (λ (t : Tree). tick (turns_of s ts t (record { node = node; left = left; least = least; most = most }) K x.place x.groups.items)) (sym is))
      hf.list
