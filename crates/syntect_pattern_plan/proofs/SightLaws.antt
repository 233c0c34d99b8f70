-- Where matches end that begin in given places.
use Rattle.std.proofs.Common.{◌≡◌, ◌⊎◌, inl, inr, ℕ, zero, suc, ◌+◌, ◌<◌, ◌≤◌, List, [], ◌∷◌, ◌++◌, length, set, get_or, Bool, true, false, Option, Some, None, refl, sym, ap, subst, ◌∙◌, arith}
use Rattle.std.specs.Prelude.{if◌then◌else◌, ◌==◌, ◌&&◌, ◌||◌, is_some, nat_le, nat_lt, slice_index, replicate, option_and_then, IsUtf8, IsCharBoundary}
use Rattle.std.specs.Option.{option_or}
use Rattle.std.proofs.lemmas.Bool.{cases_lt}
use Rattle.std.proofs.lemmas.List.{get_or_append_left}
use Rattle.std.proofs.Math.Seq.{get_or-append_seam}
use Rattle.std.proofs.lemmas.Bool.Decides.{nat_tests}
use Rattle.syntect_pattern_plan.specs.syntect_pattern.Text.{is_boundary, char_at}
use Rattle.syntect_pattern_plan.specs.syntect_pattern.Sets.{Set, holds}
use Rattle.syntect_pattern_plan.specs.syntect_pattern.Trees.{Tree, nothing, one_of, anchor, same, seq, alt, repeat, group, atomic, ahead, behind}
use Rattle.syntect_pattern_plan.specs.syntect_pattern.declared.anchor.Anchor.{Anchor}
use Rattle.syntect_pattern_plan.specs.syntect_pattern.Matches.{Member, ending_at, or_else, anchor_holds, matches, ending_here}
use Rattle.syntect_pattern_plan.proofs.syntect_pattern_proofs.TurnLaws.{matches-forward}
use Rattle.std.proofs.lemmas.Str.{IsCharBoundary-start}
use Rattle.syntect_pattern_steps.specs.Steps.{after_char}
use Rattle.syntect_pattern_steps.proofs.BoundaryLaws.{boundary-true, true-boundary}
use Rattle.syntect_pattern_plan.specs.Onward.{Onward, reaches, chosen, onward, end_if, is_free, plain}
use Rattle.syntect_pattern_plan.specs.Sights.{only_at, leads_to, flag_of, row_flag, IsImage, AreBounds, with_place, is_single, single_end, ends_here}
use Rattle.syntect_pattern_plan.proofs.ReachLaws.{chosen-some}
use Rattle.syntect_pattern_plan.proofs.TreeLaws.{and_right, plain-free}
use Rattle.syntect_pattern_plan.proofs.OnwardLaws.{onward-nothing, onward-one_of, onward-anchor, onward-alt, onward-group, onward-then, first-ends}
use Rattle.syntect_pattern_plan.proofs.ChosenLaws.{chosen-each, chosen-leads, if-some}

-- -- Trees without parts

module _ (s : List ℕ) where
  then-end : (o : Option ℕ) (F : Onward) → option_and_then F o ≡ option_and_then F (option_and_then Some o)
  then-end None F = refl
  then-end (Some j) F = refl

  if-end : (b : Bool) (F : Onward) (q : ℕ) → end_if b (F q) ≡ option_and_then F (end_if b (Some q))
  if-end true F q = refl
  if-end false F q = refl

  pub single-onward : (t : Tree) → is_single t ≡ true → (F : Onward) (q : ℕ) → onward s t F q ≡ option_and_then F (single_end s t q)
  unfolding single_end
  single-onward nothing e F q = onward-nothing s F q ∙ sym (ap (option_and_then F) (onward-nothing s Some q))
  single-onward (one_of a) e F q = onward-one_of s a F q ∙ then-end (after_char (holds a) (char_at s q) q) F ∙ sym (ap (option_and_then F) (onward-one_of s a Some q))
  single-onward (anchor a) e F q = onward-anchor s a F q ∙ if-end (anchor_holds s a q) F q ∙ sym (ap (option_and_then F) (onward-anchor s a Some q))
  single-onward (same fold n) e F q = absurd cc
  single-onward (seq a b) e F q = absurd cc
  single-onward (alt a b) e F q = absurd cc
  single-onward (repeat greedy least most a) e F q = absurd cc
  single-onward (group n a) e F q = absurd cc
  single-onward (atomic a) e F q = absurd cc
  single-onward (ahead negated a) e F q = absurd cc
  single-onward (behind negated a) e F q = absurd cc

  some-only : (o : Option ℕ) (j : ℕ) → is_some (option_and_then (only_at j) o) ≡ true → o ≡ Some j
  some-only None j e = absurd cc
  some-only (Some i) j e = let z = if-some (i == j) (Some i) e in let q : (i == j) ≡ true = z.0 in ap (λ (n : ℕ). Some n) (let same : i ≡ j = grind arith in same)

  only-some : (j : ℕ) → is_some (only_at j j) ≡ true
  only-some j = let q : (j == j) ≡ true = grind arith in rw q refl

  pub single-leads : (t : Tree) → is_single t ≡ true → (q j : ℕ) → leads_to s t q j ≡ true → single_end s t q ≡ Some j
  unfolding leads_to
  single-leads t e q j h = some-only (single_end s t q) j (ap is_some (sym (single-onward t e (only_at j) q)) ∙ h)

  pub single-led : (t : Tree) → is_single t ≡ true → (q j : ℕ) → single_end s t q ≡ Some j → leads_to s t q j ≡ true
  unfolding leads_to
  single-led t e q j h = ap is_some (single-onward t e (only_at j) q ∙ ap (option_and_then (only_at j)) h) ∙ only-some j

  -- the row of the places up to this one
  pub record Spreads (t : Tree) (before : List Bool) (i : ℕ) (row : List Bool) : Type 0 where
    pub long : length row ≡ length s + 1
    pub sound : (j : ℕ) → flag_of row j ≡ true → (q : ℕ) × (flag_of before q ≡ true) × (single_end s t q ≡ Some j)
    pub complete : (q j : ℕ) → q < i → flag_of before q ≡ true → single_end s t q ≡ Some j → flag_of row j ≡ true

  flag-set : (row : List Bool) (p j : ℕ) → flag_of (set row p true) j ≡ true → (flag_of row j ≡ true) ⊎ (j ≡ p)
  flag-set [] p j e = inl e
  flag-set (b ∷ row) zero zero e = inr refl
  flag-set (b ∷ row) zero (suc j) e = inl e
  flag-set (b ∷ row) (suc p) zero e = inl e
  flag-set (b ∷ row) (suc p) (suc j) e = elim (flag-set row p j e) [ inl z ↦ inl z | inr z ↦ inr (ap suc z) ]

  flag-kept : (row : List Bool) (p j : ℕ) → flag_of row j ≡ true → flag_of (set row p true) j ≡ true
  flag-kept [] p j e = e
  flag-kept (b ∷ row) zero zero e = refl
  flag-kept (b ∷ row) zero (suc j) e = e
  flag-kept (b ∷ row) (suc p) zero e = e
  flag-kept (b ∷ row) (suc p) (suc j) e = flag-kept row p j e

  flag-here : (row : List Bool) (p : ℕ) → p < length row → flag_of (set row p true) p ≡ true
  flag-here [] p l = absurd (omega arith)
  flag-here (b ∷ row) zero l = refl
  flag-here (b ∷ row) (suc p) l = flag-here row p (omega arith)

  long-set : (row : List Bool) (p : ℕ) → length (set row p true) ≡ length row
  long-set [] p = refl
  long-set (b ∷ row) zero = refl
  long-set (b ∷ row) (suc p) = ap suc (long-set row p)

  mark-spreads : (u : IsUtf8 s) (t : Tree) (before row : List Bool) (i : ℕ) (o : Option ℕ) → single_end s t i ≡ o → flag_of before i ≡ true → (IsCharBoundary s i)
      → Spreads t before i row → Spreads t before (i + 1) (with_place row o)
  unfolding single_end
  mark-spreads u t before row i None e f c h = record {
    long = h.long;
    sound = h.sound;
    complete = λ q j l b d. elim (at-most q i l) [
      | inl a ↦ h.complete q j a b d
      | inr z ↦ absurd (let w : Some j ≡ None = sym d ∙ ap (single_end s t) z ∙ e in cc)
    ];
  }
    where
      at-most : (q i : ℕ) → q < i + 1 → (q < i) ⊎ (q ≡ i)
      at-most q i l = grind arith
  mark-spreads u t before row i (Some p) e f c h = record {
    long = long-set row p ∙ h.long;
    sound = λ j d. elim (flag-set row p j d) [
      | inl z ↦ h.sound j z
      | inr z ↦ (i, f, e ∙ ap (λ (n : ℕ). Some n) (sym z))
    ];
    complete = λ q j l b d. elim (at-most q i l) [
      | inl a ↦ flag-kept row p j (h.complete q j a b d)
      | inr z ↦
          let w : Some j ≡ Some p = sym d ∙ ap (single_end s t) z ∙ e in
          let same : j ≡ p = cc in
          let inside = (first-ends s u t i p c e).1.0 in
          let P : ℕ → Type 0 = λ n. flag_of (set row p true) n ≡ true in
          subst P (sym same) (flag-here row p (let k = h.long in omega arith))
    ];
  }
    where
      at-most : (q i : ℕ) → q < i + 1 → (q < i) ⊎ (q ≡ i)
      at-most q i l = grind arith

  pub spreads-more : (u : IsUtf8 s) (t : Tree) (before row new : List Bool) (i : ℕ) → AreBounds s before
      → new ≡ (if flag_of before i then with_place row (single_end s t i) else row) → Spreads t before i row → Spreads t before (i + 1) new
  spreads-more u t before row new i bounds e h = by (flag_of before i) refl e
    where
      at-most : (q i : ℕ) → q < i + 1 → (q < i) ⊎ (q ≡ i)
      at-most q i l = grind arith

      by : (b : Bool) → flag_of before i ≡ b → new ≡ (if b then with_place row (single_end s t i) else row) → Spreads t before (i + 1) new
      by true f e = subst (λ (r : List Bool). Spreads t before (i + 1) r) (sym e) (mark-spreads u t before row i (single_end s t i) refl f (bounds i f) h)
      by false f e = subst (λ (r : List Bool). Spreads t before (i + 1) r) (sym e) (record {
        long = h.long;
        sound = h.sound;
        complete = λ q j l b d. elim (at-most q i l) [
          | inl a ↦ h.complete q j a b d
          | inr z ↦ absurd (let w : true ≡ false = sym b ∙ ap (flag_of before) z ∙ f in cc)
        ];
      })

  flag-past : (row : List Bool) (j : ℕ) → flag_of row j ≡ true → j < length row
  flag-past [] zero e = absurd cc
  flag-past [] (suc j) e = absurd cc
  flag-past (b ∷ row) zero e = omega arith
  flag-past (b ∷ row) (suc j) e = let l = flag-past row j e in omega arith

  pub spreads-image : (t : Tree) (before row : List Bool) → is_single t ≡ true → Spreads t before (length before) row → IsImage s t before row
  spreads-image t before row e h = record {
    sound = λ j f. let z = h.sound j f in (z.0, z.1, single-led t e z.0 j z.2);
    complete = λ q j f l. h.complete q j (flag-past before q f) f (single-leads t e q j l);
  }

-- -- Parts

is-place : (i j : ℕ) → is_some (only_at j i) ≡ true → i ≡ j
is-place i j e = let z = if-some (i == j) (Some i) e in let q : (i == j) ≡ true = z.0 in grind arith

at-place : (i j : ℕ) → i ≡ j → is_some (only_at j i) ≡ true
at-place i j e = let q : (i == j) ≡ true = grind arith in rw q refl

member-reached : (F : Onward) (ms : List Member) (m : Member) → chosen F ms ≡ Some m → is_some (reaches (only_at m.0) ms) ≡ true
member-reached F [] m e = cc
member-reached F (y ∷ ms) m e = by (member-reached F ms m) (is_some (F y.0)) e
  where
    some-left : (o p : Option ℕ) → is_some o ≡ true → is_some (option_or o p) ≡ true
    some-left None p e = absurd cc
    some-left (Some v) p e = refl

    some-right : (o p : Option ℕ) → is_some p ≡ true → is_some (option_or o p) ≡ true
    some-right None p e = e
    some-right (Some v) p e = refl

    by : (chosen F ms ≡ Some m → is_some (reaches (only_at m.0) ms) ≡ true) → (b : Bool) → (if b then Some y else chosen F ms) ≡ Some m
        → is_some (option_or (only_at m.0 y.0) (reaches (only_at m.0) ms)) ≡ true
    by more true e = let same : y ≡ m = cc in some-left (only_at m.0 y.0) _ (at-place y.0 m.0 (ap (λ (x : Member). x.0) same))
    by more false e = some-right (only_at m.0 y.0) _ (more e)

place-reached : (G : Onward) (ms : List Member) (j : ℕ) → is_some (reaches (only_at j) ms) ≡ true → is_some (G j) ≡ true → is_some (reaches G ms) ≡ true
place-reached G [] j e h = absurd cc
place-reached G (y ∷ ms) j e h = by (only_at j y.0) refl e (place-reached G ms j)
  where
    some-left : (o p : Option ℕ) → is_some o ≡ true → is_some (option_or o p) ≡ true
    some-left None p e = absurd cc
    some-left (Some v) p e = refl

    some-right : (o p : Option ℕ) → is_some p ≡ true → is_some (option_or o p) ≡ true
    some-right None p e = e
    some-right (Some v) p e = refl

    by : (o : Option ℕ) → only_at j y.0 ≡ o → is_some (option_or o (reaches (only_at j) ms)) ≡ true
        → (is_some (reaches (only_at j) ms) ≡ true → is_some (G j) ≡ true → is_some (reaches G ms) ≡ true) → is_some (option_or (G y.0) (reaches G ms)) ≡ true
    by None q e more = some-right (G y.0) _ (more e h)
    by (Some v) q e more = some-left (G y.0) _ (ap (λ (i : ℕ). is_some (G i)) (is-place y.0 j (ap is_some q)) ∙ h)

module _ (s : List ℕ) (u : IsUtf8 s) where
  leads-forward : (t : Tree) (q j : ℕ) → IsCharBoundary s q → leads_to s t q j ≡ true → (q ≤ j) × IsCharBoundary s j
  unfolding leads_to onward
  leads-forward t q j c e =
      let m = chosen-some (only_at j) (matches s t q []) e in
      let at = is-place m.0.0 j (chosen-leads (only_at j) (matches s t q []) m.0 m.1) in
      let P : ℕ → Type 0 = λ i. (q ≤ i) × IsCharBoundary s i in
      subst P at (chosen-each (λ y. (q ≤ y.0) × IsCharBoundary s y.0) (only_at j) (matches s t q []) m.0 (matches-forward s u t q [] c) m.1)

  pub image-bounds : (t : Tree) (before row : List Bool) → AreBounds s before → IsImage s t before row → AreBounds s row
  image-bounds t before row b h j e = let z = h.sound j e in (leads-forward t z.0 j (b z.0 z.1) z.2).1

  seq-leads : (a b : Tree) → is_free b ≡ true → (q j : ℕ) → IsCharBoundary s q → leads_to s (seq a b) q j ≡ true → (m : ℕ) × (leads_to s a q m ≡ true) × (leads_to s b m j ≡ true)
  unfolding leads_to onward
  seq-leads a b f q j c e =
      let r : is_some (reaches (onward s b (only_at j)) (matches s a q [])) ≡ true = ap is_some (sym (onward-then s u a b f (only_at j) q c)) ∙ e in
      let m = chosen-some (onward s b (only_at j)) (matches s a q []) r in
      (m.0.0, member-reached (onward s b (only_at j)) (matches s a q []) m.0 m.1, chosen-leads (onward s b (only_at j)) (matches s a q []) m.0 m.1)

  seq-led : (a b : Tree) → is_free b ≡ true → (q m j : ℕ) → IsCharBoundary s q → leads_to s a q m ≡ true → leads_to s b m j ≡ true → leads_to s (seq a b) q j ≡ true
  unfolding leads_to onward
  seq-led a b f q m j c e h =
      ap is_some (onward-then s u a b f (only_at j) q c) ∙ place-reached (onward s b (only_at j)) (matches s a q []) m e h

  pub image-seq : (a b : Tree) (before mid row : List Bool) → plain (seq a b) ≡ true → AreBounds s before → IsImage s a before mid → IsImage s b mid row → IsImage s (seq a b) before row
  image-seq a b before mid row p c h k =
      let f : is_free b ≡ true = plain-free s b (and_right (plain a) (plain b) p) in
      record {
        sound = λ j e. let z = k.sound j e in let w = h.sound z.0 z.1 in (w.0, w.1, seq-led a b f w.0 z.0 j (c w.0 w.1) w.2 z.2);
        complete = λ q j e l. let z = seq-leads a b f q j (c q e) l in k.complete z.0 j (h.complete q z.0 e z.1) z.2;
      }

  or-is : (o p : Option ℕ) → is_some (option_or o p) ≡ (is_some o || is_some p)
  or-is None p = refl
  or-is (Some v) p = refl

  alt-leads : (a b : Tree) (q j : ℕ) → leads_to s (alt a b) q j ≡ (leads_to s a q j || leads_to s b q j)
  unfolding leads_to
  alt-leads a b q j = ap is_some (onward-alt s a b (only_at j) q) ∙ or-is (onward s a (only_at j) q) (onward s b (only_at j) q)

  either-true : (a b : Bool) → (a || b) ≡ true → (a ≡ true) ⊎ (b ≡ true)
  either-true true b e = inl refl
  either-true false b e = inr e

  left-true : (a b : Bool) → a ≡ true → (a || b) ≡ true
  left-true true b e = refl
  left-true false b e = cc

  right-true : (a b : Bool) → b ≡ true → (a || b) ≡ true
  right-true true b e = refl
  right-true false b e = e

  pub image-alt : (a b : Tree) (before one other row : List Bool) → IsImage s a before one → IsImage s b before other
      → ((j : ℕ) → flag_of row j ≡ (flag_of one j || flag_of other j)) → IsImage s (alt a b) before row
  image-alt a b before one other row h k e = record {
    sound = λ j f. elim (either-true (flag_of one j) (flag_of other j) (sym (e j) ∙ f)) [
      | inl z ↦ let w = h.sound j z in (w.0, w.1, alt-leads a b w.0 j ∙ left-true _ _ w.2)
      | inr z ↦ let w = k.sound j z in (w.0, w.1, alt-leads a b w.0 j ∙ right-true _ _ w.2)
    ];
    complete = λ q j f l. e j ∙ (elim (either-true (leads_to s a q j) (leads_to s b q j) (sym (alt-leads a b q j) ∙ l)) [
      | inl z ↦ left-true _ _ (h.complete q j f z)
      | inr z ↦ right-true _ _ (k.complete q j f z)
    ]);
  }

  group-leads : (n : ℕ) (a : Tree) (q j : ℕ) → leads_to s (group n a) q j ≡ leads_to s a q j
  unfolding leads_to
  group-leads n a q j = ap is_some (onward-group s n a (only_at j) q)

  -- a group ends where its body does
  pub image-group : (n : ℕ) (a : Tree) (before row : List Bool) → IsImage s a before row → IsImage s (group n a) before row
  image-group n a before row h = record {
    sound = λ j f. let w = h.sound j f in (w.0, w.1, group-leads n a w.0 j ∙ w.2);
    complete = λ q j f l. h.complete q j f (sym (group-leads n a q j) ∙ l);
  }

  -- -- What a lookbehind looks for

  ending-is : (i : ℕ) (ms : List Member) → is_some (reaches Some (ending_at i ms)) ≡ is_some (reaches (only_at i) ms)
  ending-is i [] = refl
  ending-is i (m ∷ ms) = by (ending-is i ms) (m.0 == i)
    where
      by : is_some (reaches Some (ending_at i ms)) ≡ is_some (reaches (only_at i) ms) → (b : Bool)
          → is_some (reaches Some (if b then m ∷ ending_at i ms else ending_at i ms)) ≡ is_some (option_or (end_if b (Some m.0)) (reaches (only_at i) ms))
      by more true = refl
      by more false = more

  or_else-is : (a b : List Member) → is_some (reaches Some (or_else a b)) ≡ (is_some (reaches Some a) || is_some (reaches Some b))
  or_else-is [] b = refl
  or_else-is (m ∷ a) b = refl

  -- a match that ends at the place begins at one of the first places
  ending-sound : (t : Tree) (k i : ℕ) → is_some (reaches Some (ending_here s (matches s t) k i [])) ≡ true → (q : ℕ) × (is_boundary s q ≡ true) × (leads_to s t q i ≡ true)
  unfolding leads_to onward
  ending-sound t zero i e = (0, true-boundary s 0 (IsCharBoundary-start s u), sym (ending-is i (matches s t 0 [])) ∙ e)
  ending-sound t (suc k) i e = by (is_boundary s (suc k)) refl (ending-sound t k i) (sym (or_else-is _ (ending_here s (matches s t) k i [])) ∙ e)
    where
      by : (b : Bool) → is_boundary s (suc k) ≡ b
          → (is_some (reaches Some (ending_here s (matches s t) k i [])) ≡ true → (q : ℕ) × (is_boundary s q ≡ true) × (leads_to s t q i ≡ true))
          → (is_some (reaches Some (if b then ending_at i (matches s t (suc k) []) else [])) || is_some (reaches Some (ending_here s (matches s t) k i []))) ≡ true
          → (q : ℕ) × (is_boundary s q ≡ true) × (leads_to s t q i ≡ true)
      by true c more e = elim (either-true _ _ e) [
        | inl z ↦ (suc k, c, sym (ending-is i (matches s t (suc k) [])) ∙ z)
        | inr z ↦ more z
      ]
      by false c more e = more e

  ending-complete : (t : Tree) (k i q : ℕ) → q ≤ k → is_boundary s q ≡ true → leads_to s t q i ≡ true → is_some (reaches Some (ending_here s (matches s t) k i [])) ≡ true
  unfolding leads_to onward
  ending-complete t zero i zero l c e = ending-is i (matches s t 0 []) ∙ e
  ending-complete t zero i (suc q) l c e = absurd (omega arith)
  ending-complete t (suc k) i q l c e =
      or_else-is _ (ending_here s (matches s t) k i [])
      ∙ (elim (at-most q k l) [
        | inl a ↦ right-true _ _ (ending-complete t k i q a c e)
        | inr z ↦
            left-true _ _
            (ap (λ (b : Bool). is_some (reaches Some (if b then ending_at i (matches s t (suc k) []) else []))) (ap (is_boundary s) (sym z) ∙ c)
            ∙ ending-is i (matches s t (suc k) []) ∙ ap (λ (p : ℕ). is_some (reaches (only_at i) (matches s t p []))) (sym z) ∙ e)
      ])
    where
      at-most : (q k : ℕ) → q ≤ suc k → (q ≤ k) ⊎ (q ≡ suc k)
      at-most q k l = grind arith

  same-truth : (a b : Bool) → (a ≡ true → b ≡ true) → (b ≡ true → a ≡ true) → a ≡ b
  same-truth true b f g = sym (f refl)
  same-truth false true f g = g refl
  same-truth false false f g = refl

  -- the row of what begins anywhere tells where a lookbehind holds
  pub sight-is : (t : Tree) (starts row : List Bool) → ((q : ℕ) → flag_of starts q ≡ is_boundary s q) → IsImage s t starts row → (p : ℕ) → flag_of row p ≡ ends_here s t p
  unfolding ends_here
  sight-is t starts row b h p =
      same-truth (flag_of row p) _
      (λ e.
      let z = h.sound p e in
      let c = sym (b z.0) ∙ z.1 in
      ending-complete t p p z.0 (leads-forward t z.0 p (boundary-true s z.0 c) z.2).0 c z.2)
      (λ e. let z = ending-sound t p p e in h.complete z.0 p (b z.0 ∙ z.1) z.2)

-- -- Single trees

module _ (s : List ℕ) where
  pub single-nothing : (q : ℕ) → Some q ≡ single_end s nothing q
  unfolding single_end
  single-nothing q = sym (onward-nothing s Some q)

  some-then : (o : Option ℕ) → o ≡ option_and_then Some o
  some-then None = refl
  some-then (Some j) = refl

  pub single-char : (a : Set) (q : ℕ) (o : Option ℕ) → o ≡ after_char (holds a) (char_at s q) q → o ≡ single_end s (one_of a) q
  unfolding single_end
  single-char a q o e = e ∙ some-then (after_char (holds a) (char_at s q) q) ∙ sym (onward-one_of s a Some q)

  pub single-anchor : (a : Anchor) (q : ℕ) (b : Bool) → anchor_holds s a q ≡ b → end_if b (Some q) ≡ single_end s (anchor a) q
  unfolding single_end
  single-anchor a q b e = ap (λ (c : Bool). end_if c (Some q)) (sym e) ∙ sym (onward-anchor s a Some q)

  pub spreads-none : (t : Tree) (before row : List Bool) → row ≡ replicate (length s + 1) false → Spreads s t before 0 row
  spreads-none t before row e = subst (λ (r : List Bool). Spreads s t before 0 r) (sym e) (record {
    long = long (length s + 1);
    sound = λ j f. absurd (none (length s + 1) j f);
    complete = λ q j l f d. absurd (omega arith);
  })
    where
      long : (n : ℕ) → length (replicate n false) ≡ n
      long zero = refl
      long (suc n) = ap suc (long n)

      none : (n j : ℕ) → flag_of (replicate n false) j ≡ true → ⊥
      none zero zero f = cc
      none zero (suc j) f = cc
      none (suc n) zero f = cc
      none (suc n) (suc j) f = none n j f

  row-past : (row : List Bool) (j : ℕ) → length row ≤ j → flag_of row j ≡ false
  row-past [] zero l = refl
  row-past [] (suc j) l = refl
  row-past (b ∷ row) zero l = absurd (omega arith)
  row-past (b ∷ row) (suc j) l = row-past row j (omega arith)

  pub false-bound : (j : ℕ) → length s < j → is_boundary s j ≡ false
  unfolding is_boundary
  false-bound j l = let e : nat_le j (length s) ≡ false = grind (arith, nat_tests) in ap (λ (b : Bool). b && ((nat_le (length s) j || nat_lt (slice_index s j) 128) || nat_le 192 (slice_index s j))) e

  pub bounds-all : (row : List Bool) → length row ≡ length s + 1 → ((j : ℕ) → j < length s + 1 → flag_of row j ≡ is_boundary s j) → (j : ℕ) → flag_of row j ≡ is_boundary s j
  bounds-all row l h j = elim (cases_lt j (length s + 1)) [
    | inl a ↦ h j a
    | inr a ↦ row-past row j (omega (arith, a, l)) ∙ sym (false-bound j (omega (arith, a)))
  ]

-- the image of a node by its tree
pub image-of : (s : List ℕ) (t v : Tree) (before row : List Bool) → t ≡ v → IsImage s v before row → IsImage s t before row
image-of s t v before row e h = subst (λ (x : Tree). IsImage s x before row) (sym e) h

-- one more row
pub sights-more : (s : List ℕ) (ts : List Tree) (behinds : List ℕ) (sights new : List (List Bool)) (row : List Bool) (i : ℕ) → new ≡ sights ++ row ∷ [] → length sights ≡ i
    → ((b p : ℕ) → b < i → plain (get_or ts (get_or behinds b 0) nothing) ≡ true → IsCharBoundary s p → row_flag sights b p ≡ ends_here s (get_or ts (get_or behinds b 0) nothing) p)
    → (plain (get_or ts (get_or behinds i 0) nothing) ≡ true → (p : ℕ) → flag_of row p ≡ ends_here s (get_or ts (get_or behinds i 0) nothing) p)
    → (b p : ℕ) → b < i + 1 → plain (get_or ts (get_or behinds b 0) nothing) ≡ true → IsCharBoundary s p → row_flag new b p ≡ ends_here s (get_or ts (get_or behinds b 0) nothing) p
sights-more s ts behinds sights new row i e l h here b p k f c =
    ap (λ (x : List (List Bool)). row_flag x b p) e
    ∙ elim (cases_lt b i) [
      | inl a ↦ ap (λ (x : List Bool). flag_of x p) (get_or_append_left sights (row ∷ []) [] b (omega (arith, a, l))) ∙ h b p a f c
      | inr a ↦
          let same : b ≡ length sights = omega (arith, a, k, l) in
          let is : i ≡ b = omega (arith, same, l) in
          let P : ℕ → Type 0 = λ j. plain (get_or ts (get_or behinds j 0) nothing) ≡ true → (p : ℕ) → flag_of row p ≡ ends_here s (get_or ts (get_or behinds j 0) nothing) p in
          ap (λ (x : ℕ). row_flag (sights ++ row ∷ []) x p) same
          ∙ ap (λ (x : List Bool). flag_of x p) (get_or-append_seam sights row [] [])
          ∙ subst P is here f p
    ]
