-- Tables of sets.
use Rattle.std.proofs.Common.{◌≡◌, ℕ, zero, suc, ◌+◌, ◌<◌, ◌≤◌, ◌||◌, ◌&&◌, nat_lt, Bool, true, false, List, [], ◌∷◌, ◌++◌, length, get_or, refl, sym, ◌∙◌, ap, arith, length-append, zero-add, add-zero, ◌⊎◌, inl, inr, ⊎_elim}
use Rattle.std.proofs.Math.ListN.{get_or-append}
use Rattle.std.proofs.Math.Seq.{get_or-append_seam}
use Rattle.std.proofs.lemmas.Bool.{ltb-true, lt-ltb, and_parts}
use Rattle.std.proofs.lemmas.Bool.Decides.{nat_tests}
use Rattle.syntect_pattern.specs.Sets.{Set, none, negated, either, both, holds}
use Rattle.syntect_pattern_table.specs.SetTable.{is_wide, part_set, sets_from, sets, set_in, made_before, AreOrdered, SetsGrow, HasSet}
use Rattle.syntect_pattern_table.specs.declared.sets.Part.{Part}

get_or-sets_from : (ts : List Set) (ps : List Part) (n : ℕ) → n < length ts → get_or (sets_from ts ps) n none ≡ get_or ts n none
get_or-sets_from ts [] n h = refl
get_or-sets_from ts (x ∷ ps) n h =
    get_or-sets_from (ts ++ part_set ts x ∷ []) ps n (omega (arith, length-append ts (part_set ts x ∷ [])))
    ∙ get_or-append ts (part_set ts x ∷ []) none n h

-- a part's set depends on those before it alone
part_set-before : (ts us : List Set) (k : ℕ) (p : Part) → ((j : ℕ) → j < k → get_or ts j none ≡ get_or us j none) → made_before k p ≡ true → part_set ts p ≡ part_set us p
part_set-before ts us k Part.Nothing h b = refl
part_set-before ts us k (Part.Range low high) h b = refl
part_set-before ts us k (Part.Alike low high) h b = refl
part_set-before ts us k (Part.Named n) h b = refl
part_set-before ts us k (Part.Negated x) h b = ap negated (h x (grind (arith, nat_tests)))
part_set-before ts us k (Part.Either x y) h b = ap (λ t. either t (get_or ts y none)) (h x (grind (arith, nat_tests))) ∙ ap (either (get_or us x none)) (h y (grind (arith, nat_tests)))
part_set-before ts us k (Part.Both x y) h b = ap (λ t. both t (get_or ts y none)) (h x (grind (arith, nat_tests))) ∙ ap (both (get_or us x none)) (h y (grind (arith, nat_tests)))

sets-from : (ts : List Set) (ps : List Part) → ((j : ℕ) → j < length ps → made_before (length ts + j) (get_or ps j Part.Nothing) ≡ true)
    → (j : ℕ) → j < length ps → get_or (sets_from ts ps) (length ts + j) none ≡ part_set (sets_from ts ps) (get_or ps j Part.Nothing)
sets-from ts [] h j l = absurd (omega arith)
sets-from ts (x ∷ ps) h zero l =
    let new : Set = part_set ts x in
    let more : List Set = ts ++ new ∷ [] in
    get_or-sets_from more ps (length ts + 0) (omega (arith, length-append ts (new ∷ [])))
    ∙ ap (λ n. get_or more n none) (omega arith)
    ∙ get_or-append_seam ts new [] none
    ∙ part_set-before ts (sets_from more ps) (length ts) x
    (λ j p. sym (get_or-sets_from more ps j (omega (arith, length-append ts (new ∷ []))) ∙ get_or-append ts (new ∷ []) none j p))
    (ap (λ n. made_before n x) (sym (add-zero (length ts))) ∙ h 0 (omega arith))
sets-from ts (x ∷ ps) h (suc j) l =
    let new : Set = part_set ts x in
    let more : List Set = ts ++ new ∷ [] in
    ap (λ n. get_or (sets_from more ps) n none) (omega (arith, length-append ts (new ∷ [])))
    ∙ sets-from more ps (λ i p. ap (λ n. made_before n (get_or ps i Part.Nothing)) (omega (arith, length-append ts (new ∷ []))) ∙ h (suc i) (omega arith)) j (omega arith)

length-sets_from : (ts : List Set) (ps : List Part) → length (sets_from ts ps) ≡ length ts + length ps
length-sets_from ts [] = omega arith
length-sets_from ts (x ∷ ps) = length-sets_from (ts ++ part_set ts x ∷ []) ps ∙ omega (arith, length-append ts (part_set ts x ∷ []))

pub length-sets : (ps : List Part) → length (sets ps) ≡ length ps
unfolding sets
length-sets ps = length-sets_from [] ps ∙ omega arith

sets-append : (ts : List Set) (ps qs : List Part) → sets_from ts (ps ++ qs) ≡ sets_from (sets_from ts ps) qs
sets-append ts [] qs = refl
sets-append ts (x ∷ ps) qs = sets-append (ts ++ part_set ts x ∷ []) ps qs

pub sets-push : (ps : List Part) (p : Part) → sets (ps ++ p ∷ []) ≡ sets ps ++ part_set (sets ps) p ∷ []
unfolding sets
sets-push ps p = sets-append [] ps (p ∷ [])

pub get_or-past : (ts : List Set) (k : ℕ) → length ts ≤ k → get_or ts k none ≡ none
get_or-past [] zero h = refl
get_or-past [] (suc k) h = refl
get_or-past (t ∷ ts) zero h = absurd (omega arith)
get_or-past (t ∷ ts) (suc k) h = get_or-past ts k (omega arith)

part-past : (ps : List Part) (k : ℕ) → length ps ≤ k → get_or ps k Part.Nothing ≡ Part.Nothing
part-past [] zero h = refl
part-past [] (suc k) h = refl
part-past (t ∷ ts) zero h = absurd (omega arith)
part-past (t ∷ ts) (suc k) h = part-past ts k (omega arith)

-- what a part of an ordered table is, and that it is made of parts before it
pub record IsPart (ps : List Part) (k : ℕ) (p : Part) : Type 0 where
  pub is : set_in ps k ≡ part_set (sets ps) p
  pub before : made_before k p ≡ true

set-inside : (ps : List Part) → AreOrdered ps → (k : ℕ) → k < length ps → set_in ps k ≡ part_set (sets ps) (get_or ps k Part.Nothing)
unfolding sets
set-inside ps h k l =
    ap (λ n. get_or (sets_from [] ps) n none) (sym (zero-add k))
    ∙ sets-from [] ps (λ j l. ap (λ n. made_before n (get_or ps j Part.Nothing)) (zero-add j) ∙ h j l) k l

either_side : (a b : ℕ) → (a < b) ⊎ (b ≤ a)
either_side a b = by_test (nat_lt a b) refl
  where
    by_test : (t : Bool) → nat_lt a b ≡ t → (a < b) ⊎ (b ≤ a)
    by_test true e = inl (ltb-true a b e)
    by_test false e = inr (grind (arith, nat_tests))

pub set-at : (ps : List Part) → AreOrdered ps → (k : ℕ) (p : Part) → p ≡ get_or ps k Part.Nothing → IsPart ps k p
set-at ps h k p e =
    ⊎_elim
    (λ l. record { is = set-inside ps h k l ∙ ap (part_set (sets ps)) (sym e); before = ap (made_before k) e ∙ h k l })
    (λ l.
    let past : p ≡ Part.Nothing = e ∙ part-past ps k l in
    record { is = get_or-past (sets ps) k (omega (arith, length-sets ps)) ∙ ap (part_set (sets ps)) (sym past); before = ap (made_before k) past })
    (either_side k (length ps))

-- -- One step of the test

pub left_before : (a b k : ℕ) → (nat_lt a k && nat_lt b k) ≡ true → a < k
left_before a b k e = ltb-true a k ((and_parts (nat_lt a k) (nat_lt b k) e).0)

pub right_before : (a b k : ℕ) → (nat_lt a k && nat_lt b k) ≡ true → b < k
right_before a b k e = ltb-true b k ((and_parts (nat_lt a k) (nat_lt b k) e).1)

pub or_right : (a b : Bool) → b ≡ true → (a || b) ≡ true
or_right true b e = refl
or_right false b e = e

pub or_no : (a b : Bool) → b ≡ false → (a || b) ≡ a
or_no true b e = refl
or_no false b e = e

pub and_right : (a b : Bool) → b ≡ false → (a && b) ≡ false
and_right true b e = e
and_right false b e = refl

pub and_yes : (a b : Bool) → b ≡ true → (a && b) ≡ a
and_yes true b e = e
and_yes false b e = refl

-- what holds of the set at a place, from its part
pub holds-of : (ps : List Part) → AreOrdered ps → (k : ℕ) (p : Part) → p ≡ get_or ps k Part.Nothing → (c : ℕ) → holds (part_set (sets ps) p) c ≡ holds (set_in ps k) c
holds-of ps h k p e c = sym (ap (λ (s : Set). holds s c) ((set-at ps h k p e).is))

-- whether the set at a place can hold a character beyond ASCII, from its part
pub wide-of : (ps : List Part) → AreOrdered ps → (k : ℕ) (p : Part) → p ≡ get_or ps k Part.Nothing → is_wide (part_set (sets ps) p) ≡ is_wide (set_in ps k)
wide-of ps h k p e = sym (ap is_wide ((set-at ps h k p e).is))

-- -- A table grows

pub grows-push : (ps qs : List Part) (p : Part) → qs ≡ ps ++ p ∷ [] → SetsGrow ps qs
grows-push ps qs p e = record {
  longer = omega (arith, ap length e, length-append ps (p ∷ []));
  kept = λ k h.
      ap (λ (xs : List Part). set_in xs k) e
      ∙ ap (λ (xs : List Set). get_or xs k none) (sets-push ps p)
      ∙ get_or-append (sets ps) (part_set (sets ps) p ∷ []) none k (omega (arith, length-sets ps));
}

pub has-push : (ps qs : List Part) (p : Part) (k : ℕ) → qs ≡ ps ++ p ∷ [] → k ≡ length ps → HasSet qs k (part_set (sets ps) p)
has-push ps qs p k e h = record {
  inside = omega (arith, ap length e, length-append ps (p ∷ []));
  is =
      ap (λ (xs : List Part). set_in xs k) e
      ∙ ap (λ (xs : List Set). get_or xs k none) (sets-push ps p)
      ∙ ap (λ (j : ℕ). get_or (sets ps ++ part_set (sets ps) p ∷ []) j none) (h ∙ sym (length-sets ps))
      ∙ get_or-append_seam (sets ps) (part_set (sets ps) p) [] none;
}

pub grows-refl : (ps : List Part) → SetsGrow ps ps
grows-refl ps = record { longer = omega arith; kept = λ k h. refl }

pub grows-trans : (a b c : List Part) → SetsGrow a b → SetsGrow b c → SetsGrow a c
grows-trans a b c g h =
    let l = g.longer in
    let m = h.longer in
    record { longer = omega arith; kept = λ k lt. h.kept k (omega arith) ∙ g.kept k lt }

pub has-grown : (a b : List Part) (k : ℕ) (s : Set) → SetsGrow a b → HasSet a k s → HasSet b k s
has-grown a b k s g h =
    let l = g.longer in
    let i = h.inside in
    record { inside = omega arith; is = g.kept k i ∙ h.is }

pub both_before : (j k n : ℕ) → j < n → k < n → (nat_lt j n && nat_lt k n) ≡ true
both_before j k n h l = ap (λ (b : Bool). b && nat_lt k n) (lt-ltb j n h) ∙ lt-ltb k n l
