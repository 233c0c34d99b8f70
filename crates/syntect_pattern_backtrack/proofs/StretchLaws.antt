-- A greedy loop over one character, where it reads a stretch of ASCII characters.
use Rattle.std.proofs.Common.{◌≡◌, ℕ, zero, suc, ◌+◌, ◌-◌, ◌<◌, ◌≤◌, ◌==◌, if◌then◌else◌, Bool, true, false, List, [], ◌∷◌, ◌++◌, length, get_or, refl, sym, ◌∙◌, ap, subst, arith, Option, Some, None, ne_eqb, reverse, inl, inr}
use Rattle.std.specs.Prelude.{IsCharBoundary}
use Rattle.std.specs.Char.{len_utf8}
use Rattle.std.specs.Option.{option_or}
use Rattle.std.proofs.Math.Seq.{take-length}
use Rattle.std.proofs.lemmas.Bool.{cases_lt}
use Rattle.std.proofs.lemmas.List.{reverse-append}
use Rattle.std.proofs.lemmas.Str.{len_utf8_ascii, IsCharBoundary-before_ascii, IsCharBoundary-end}
use Rattle.syntect_pattern_backtrack.specs.syntect_pattern.Text.{char_at}
use Rattle.syntect_pattern_backtrack.specs.syntect_pattern.Sets.{Set, holds}
use Rattle.syntect_pattern_backtrack.specs.syntect_pattern.Trees.{Tree, one_of, repeat}
use Rattle.syntect_pattern_backtrack.specs.syntect_pattern.Matches.{Groups, Member}
use Rattle.syntect_pattern_backtrack.proofs.syntect_pattern_table_proofs.StartLaws.{char_at-past, char_at-ascii}
use Rattle.syntect_pattern_backtrack.specs.declared.state.Cell.{Cell}
use Rattle.syntect_pattern_backtrack.specs.declared.state.Next.{Next}
use Rattle.syntect_pattern_backtrack.specs.declared.state.Search.{Search}
use Rattle.syntect_pattern_backtrack.specs.declared.state.Frame.{Frame}
use Rattle.syntect_pattern_backtrack.specs.Machine.{Work, On, none, tick, both, search, search_turns, after_turn, go_on, work_if, list_at, tree_at, at_places, pending, total, Fits, Goes, found_by, steps_of}
use Rattle.syntect_pattern_steps.specs.Steps.{after_char}
use Rattle.syntect_pattern_backtrack.specs.Stretches.{IsStretch}
use Rattle.syntect_pattern_backtrack.proofs.MachineLaws.{pending-less}

or_none : (a : Option Member) → option_or a None ≡ a
or_none None = refl
or_none (Some m) = refl

or_assoc : (a b c : Option Member) → option_or (option_or a b) c ≡ option_or a (option_or b c)
or_assoc None b c = refl
or_assoc (Some m) b c = refl

suc_is : (n : ℕ) → (suc n == 0) ≡ false
suc_is n = ne_eqb (suc n) 0 (λ e. omega arith)

module _ (s : List ℕ) (ts : List Tree) where
  -- the first place of a stretch comes last
  pub at_places-first : (k : On) (m e : ℕ) (g : Groups)
      → ((at_places k (suc m) e g).found ≡ option_or (at_places k m e g).found (k (e - m) g).found)
      × ((at_places k (suc m) e g).count ≡ (at_places k m e g).count + (k (e - m) g).count + 1)
  unfolding both tick none
  at_places-first k zero e g =
      let same : e ≡ e - 0 = omega arith in
      (or_none (k e g).found ∙ ap (λ j. (k j g).found) same, (let h : (k e g).count ≡ (k (e - 0) g).count = ap (λ j. (k j g).count) same in omega arith))
  at_places-first k (suc m) e g =
      let h = at_places-first k m (e - 1) g in
      let same : e - 1 - m ≡ e - suc m = omega arith in
      let count : (at_places k (suc m) (e - 1) g).count ≡ (at_places k m (e - 1) g).count + (k (e - 1 - m) g).count + 1 = h.1 in
      let last : (k (e - 1 - m) g).count ≡ (k (e - suc m) g).count = ap (λ j. (k j g).count) same in (
        ap (λ r. option_or (k e g).found r) (h.0 ∙ ap (λ j. option_or (at_places k m (e - 1) g).found (k j g).found) same)
            ∙ sym (or_assoc (k e g).found (at_places k m (e - 1) g).found (k (e - suc m) g).found),
        omega arith,
      )

  module _ (a : Set) (k : On) where
    -- the turns of the loop
    abbrev loop : ℕ → ℕ → ℕ → Groups → Work
    loop fuel least i g = search_turns (search s (one_of a)) true fuel least None k i g

    -- a turn reads a character
    loop-reads : (fuel least i j : ℕ) (g : Groups) → after_char (holds a) (char_at s i) i ≡ Some j → (j == i) ≡ false
        → loop (suc fuel) least i g ≡ tick (both (tick (tick (tick (loop fuel (least - 1) j g)))) (work_if (least == 0) (tick (k i g))))
    loop-reads fuel least i j g e n =
        ap (λ (o : Option ℕ). tick (both (tick (tick (go_on o (λ j h. tick (after_turn (j == i) k (search_turns (search s (one_of a)) true fuel (least - 1) None k) j h)) g))) (work_if (least == 0) (tick (k i g))))) e
        ∙ ap (λ b. tick (both (tick (tick (tick (after_turn b k (search_turns (search s (one_of a)) true fuel (least - 1) None k) j g)))) (work_if (least == 0) (tick (k i g))))) n

    -- there is no character to read
    loop-stops : (fuel least i : ℕ) (g : Groups) → after_char (holds a) (char_at s i) i ≡ None
        → loop (suc fuel) least i g ≡ tick (both (tick (tick none)) (work_if (least == 0) (tick (k i g))))
    loop-stops fuel least i g e =
        ap (λ (o : Option ℕ). tick (both (tick (tick (go_on o (λ j h. tick (after_turn (j == i) k (search_turns (search s (one_of a)) true fuel (least - 1) None k) j h)) g))) (work_if (least == 0) (tick (k i g))))) e

    -- what the places find, and how many steps they take, against the loop
    pub record Agrees (w x : Work) : Type 0 where
      pub found : w.found ≡ x.found
      pub fewer : w.count < x.count

    pub less-work : (w x : Work) → Agrees w x → ((both none (tick w)).found ≡ (tick x).found) × ((both none (tick w)).count < (tick x).count)
    unfolding both tick none
    less-work w x h = (h.found, (let l : w.count < x.count = h.fewer in omega arith))

    agrees-none : (least i : ℕ) (g : Groups) → Agrees (at_places k (suc 0 - least) (i + 0) g) (tick (both (tick (tick none)) (work_if (least == 0) (tick (k i g)))))
    unfolding both tick none
    agrees-none zero i g =
        let same : i + 0 ≡ i = omega arith in
        record {
          found = or_none (k (i + 0) g).found ∙ ap (λ j. (k j g).found) same;
          fewer = (let h : (k (i + 0) g).count ≡ (k i g).count = ap (λ j. (k j g).count) same in omega arith);
        }
    agrees-none (suc l) i g =
        let over : suc 0 - suc l ≡ 0 = omega arith in
        let P : Work → Type 0 = λ w. Agrees w (tick (both (tick (tick none)) (work_if (suc l == 0) (tick (k i g))))) in
        subst P (ap (λ n. at_places k n (i + 0) g) (sym over))
        (subst (λ (b : Bool). Agrees none (tick (both (tick (tick none)) (work_if b (tick (k i g)))))) (sym (suc_is l)) (record { found = refl; fewer = omega arith }))

    agrees-more : (n least i : ℕ) (g : Groups) (w : Work) → Agrees (at_places k (suc n - (least - 1)) ((i + 1) + n) g) w
        → Agrees (at_places k (suc (suc n) - least) (i + suc n) g) (tick (both (tick (tick (tick w))) (work_if (least == 0) (tick (k i g)))))
    unfolding both tick none
    agrees-more n zero i g w h =
        let last = at_places-first k (suc n) (i + suc n) g in
        let two : suc (suc n) - 0 ≡ suc (suc n) = omega arith in
        let one : suc n - (0 - 1) ≡ suc n = omega arith in
        let place : (i + 1) + n ≡ i + suc n = omega arith in
        let start : i + suc n - suc n ≡ i = omega arith in
        let same : at_places k (suc n - (0 - 1)) ((i + 1) + n) g ≡ at_places k (suc n) (i + suc n) g =
        ap (λ m. at_places k m ((i + 1) + n) g) one ∙ ap (λ e. at_places k (suc n) e g) place in
        let found : (at_places k (suc n) (i + suc n) g).found ≡ w.found = sym (ap (λ (x : Work). x.found) same) ∙ h.found in
        let count : (at_places k (suc n) (i + suc n) g).count < w.count = omega (arith, ap (λ (x : Work). x.count) same, h.fewer) in
        let begin : (k (i + suc n - suc n) g).count ≡ (k i g).count = ap (λ j. (k j g).count) start in
        let all : (at_places k (suc (suc n)) (i + suc n) g).count ≡ (at_places k (suc n) (i + suc n) g).count + (k (i + suc n - suc n) g).count + 1 = last.1 in
        let P : Work → Type 0 = λ v. Agrees v (tick (both (tick (tick (tick w))) (tick (k i g)))) in
        subst P (ap (λ m. at_places k m (i + suc n) g) (sym two)) (record {
          found = last.0 ∙ ap (λ j. option_or (at_places k (suc n) (i + suc n) g).found (k j g).found) start ∙ ap (λ f. option_or f (k i g).found) found;
          fewer = omega arith;
        })
    agrees-more n (suc l) i g w h =
        let count : suc n - (suc l - 1) ≡ suc (suc n) - suc l = omega arith in
        let place : (i + 1) + n ≡ i + suc n = omega arith in
        let same : at_places k (suc n - (suc l - 1)) ((i + 1) + n) g ≡ at_places k (suc (suc n) - suc l) (i + suc n) g =
        ap (λ m. at_places k m ((i + 1) + n) g) count ∙ ap (λ e. at_places k (suc (suc n) - suc l) e g) place in
        let less : (at_places k (suc (suc n) - suc l) (i + suc n) g).count < w.count = omega (arith, ap (λ (x : Work). x.count) same, h.fewer) in
        subst (λ (b : Bool). Agrees (at_places k (suc (suc n) - suc l) (i + suc n) g) (tick (both (tick (tick (tick w))) (work_if b (tick (k i g)))))) (sym (suc_is l)) (record {
          found = sym (ap (λ (x : Work). x.found) same) ∙ h.found ∙ sym (or_none w.found);
          fewer = omega arith;
        })

    -- the stretch without its first character
    stretch-rest : (i n : ℕ) → IsStretch s a i (i + suc n) → IsStretch s a (i + 1) ((i + 1) + n)
    stretch-rest i n h =
        let place : i + suc n ≡ (i + 1) + n = omega arith in
        subst (IsStretch s a (i + 1)) place (record {
          rises = omega arith;
          within = h.within;
          ascii = λ j p q. h.ascii j (omega arith) q;
          held = λ j p q. h.held j (omega arith) q;
          stops = h.stops;
        })

    char-behind : (i : ℕ) → IsStretch s a i (i + 0) → after_char (holds a) (char_at s i) i ≡ None
    char-behind i h = elim (cases_lt i (length s)) [
      | inl p ↦
          (let zero_more : i + 0 ≡ i = omega arith in
          let stops = subst (λ (j : ℕ). j < length s → (get_or s j 0 < 128) × (holds a (get_or s j 0) ≡ false)) zero_more h.stops p in
          ap (λ (c : Option ℕ). after_char (holds a) c i) (char_at-ascii s i p stops.0)
          ∙ ap (λ b. if b then Some (i + len_utf8 (get_or s i 0)) else None) stops.1)
      | inr p ↦ ap (λ (c : Option ℕ). after_char (holds a) c i) (char_at-past s i p)
    ]

    char-held : (i n : ℕ) → IsStretch s a i (i + suc n) → after_char (holds a) (char_at s i) i ≡ Some (i + 1)
    char-held i n h =
        let inside : i < length s = (let w : i + suc n ≤ length s = h.within in omega arith) in
        let ascii : get_or s i 0 < 128 = h.ascii i (omega arith) (omega arith) in
        ap (λ (c : Option ℕ). after_char (holds a) c i) (char_at-ascii s i inside ascii)
        ∙ ap (λ b. if b then Some (i + len_utf8 (get_or s i 0)) else None) (h.held i (omega arith) (omega arith))
        ∙ ap (λ l. Some (i + l)) (len_utf8_ascii (get_or s i 0) ascii)

    -- the places of a stretch are what the loop tries
    pub loop-places : (n fuel least i : ℕ) (g : Groups) → IsStretch s a i (i + n) → n < fuel → Agrees (at_places k (suc n - least) (i + n) g) (loop fuel least i g)
    loop-places n zero least i g h f = absurd (omega arith)
    loop-places zero (suc fuel) least i g h f =
        subst (Agrees (at_places k (suc 0 - least) (i + 0) g)) (sym (loop-stops fuel least i g (char-behind i h))) (agrees-none least i g)
    loop-places (suc n) (suc fuel) least i g h f =
        subst (Agrees (at_places k (suc (suc n) - least) (i + suc n) g)) (sym (loop-reads fuel least i (i + 1) g (char-held i n h) (ne_eqb (i + 1) i (λ e. omega arith))))
        (agrees-more n least i g (loop fuel (least - 1) (i + 1) g) (loop-places n fuel (least - 1) (i + 1) g (stretch-rest i n h) (omega arith)))

  -- a place within a stretch is on a boundary
  stretch-boundary : (a : Set) (i e p : ℕ) → IsStretch s a i e → i ≤ p → p ≤ e → IsCharBoundary s p
  stretch-boundary a i e p h l m =
      let w : e ≤ length s = h.within in
      elim (cases_lt p e) [
        | inl q ↦ IsCharBoundary-before_ascii s p (omega arith) (h.ascii p l q)
        | inr q ↦
            (let same : p ≡ e = omega arith in
            elim (cases_lt p (length s)) [
              | inl r ↦ IsCharBoundary-before_ascii s p r (subst (λ (j : ℕ). j < length s → (get_or s j 0 < 128) × (holds a (get_or s j 0) ≡ false)) (sym same) h.stops r).0
              | inr r ↦ subst (IsCharBoundary s) (let all : length s ≡ p = omega arith in all) (IsCharBoundary-end s)
            ])
      ]

  -- a loop over one character is entered at a stretch
  pub goes_stretch : (old new : Search) (node k least count end : ℕ) (a : Set)
      → Fits s (Next.Enter node k) old → tree_at s ts node ≡ repeat true least None (one_of a) → IsStretch s a old.place end
      → count ≡ suc (end - old.place) - least
      → new.frames.items ≡ old.frames.items ++ Frame.Stretch k count end (length old.cells.items) ∷ [] → new ≡ record old { frames = new.frames }
      → Goes s ts (Next.Enter node k) old Next.Fail new
  goes_stretch old new node k least count end a hf is h hc hr ho =
      let xs : List Cell = old.cells.items in
      let g : Groups = old.groups.items in
      let i : ℕ = old.place in
      let fs : List Frame = reverse old.frames.items in
      let K : On = list_at s ts xs k in
      let L : Work = search_turns (search s (one_of a)) true (suc (length s - i)) least None K i g in
      let P : Work = at_places K count end g in
      let rises : i ≤ end = h.rises in
      let within : end ≤ length s = h.within in
      let to : i + (end - i) ≡ end = omega arith in
      let from_start : Agrees a K (at_places K (suc (end - i) - least) (i + (end - i)) g) L =
      loop-places a K (end - i) (suc (length s - i)) least i g (subst (IsStretch s a i) (sym to) h) (omega arith) in
      let at_end : Agrees a K (at_places K (suc (end - i) - least) end g) L = subst (λ (j : ℕ). Agrees a K (at_places K (suc (end - i) - least) j g) L) to from_start in
      let agrees : Agrees a K P L = subst (λ (m : ℕ). Agrees a K (at_places K m end g) L) (sym hc) at_end in
      let cells : new.cells.items ≡ xs = ap (λ (x : Search). x.cells.items) ho in
      let groups : new.groups.items ≡ g = ap (λ (x : Search). x.groups.items) ho in
      let frames : reverse new.frames.items ≡ Frame.Stretch k count end (length xs) ∷ fs = ap reverse hr ∙ reverse-append old.frames.items (Frame.Stretch k count end (length xs) ∷ []) in
      let before : total s ts (Next.Enter node k) old ≡ pending s ts xs g fs (tick L) = ap (λ (t : Tree). pending s ts xs g fs (search s t K i g)) is in
      let after : total s ts Next.Fail new ≡ pending s ts xs g fs (both none (tick P)) =
      ap (λ (zs : List Cell). pending s ts zs new.groups.items (reverse new.frames.items) none) cells
      ∙ ap (λ (q : Groups). pending s ts xs q (reverse new.frames.items) none) groups
      ∙ ap (λ (rs : List Frame). pending s ts xs g rs none) frames
      ∙ ap (λ (zs : List Cell). pending s ts zs g fs (both none (tick (at_places (list_at s ts zs k) count end g)))) (take-length xs) in
      let w = less-work a K P L agrees in
      let less = pending-less s ts xs g fs (both none (tick P)) (tick L) w.0 w.1 in
      let fewer : (pending s ts xs g fs (both none (tick P))).count < (pending s ts xs g fs (tick L)).count = less.1 in
      let finds : found_by s ts Next.Fail new ≡ found_by s ts (Next.Enter node k) old =
      ap (λ (w : Work). w.found) after ∙ less.0 ∙ sym (ap (λ (w : Work). w.found) before) in
      let steps : steps_of s ts Next.Fail new < steps_of s ts (Next.Enter node k) old = omega (arith, ap (λ (w : Work). w.count) after, ap (λ (w : Work). w.count) before, fewer) in
      let boundaries : (m : ℕ) → m < count → IsCharBoundary s (end - m) = λ m p. stretch-boundary a i end (end - m) h (omega arith) (omega arith) in
      record {
        found = finds;
        fewer = steps;
        fits = record {
          cells = rw cells hf.cells;
          frames = rw (cells, frames) (hf.list, omega arith, boundaries, hf.frames);
          list = tt;
          place = rw (ap (λ (x : Search). x.place) ho) hf.place;
          groups = rw groups hf.groups;
        };
      }
