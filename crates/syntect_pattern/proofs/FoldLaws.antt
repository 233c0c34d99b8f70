-- The pairs of a character among all.
use Rattle.std.proofs.Common.{◌≡◌, ℕ, zero, suc, ◌+◌, ◌≤◌, ◌<◌, Bool, true, false, ◌||◌, ◌&&◌, ◌==◌, nat_lt, List, [], ◌∷◌, length, take, drop, slice_index_or, refl, sym, ap, ◌∙◌, arith}
use Rattle.std.specs.List.{list_any}
use Rattle.std.proofs.Common.{inl, inr}
use Rattle.std.proofs.lemmas.Bool.{and_parts, cases_lt}
use Rattle.std.proofs.lemmas.Bool.Decides.{nat_tests}
use Rattle.ucd_case.specs.CaseFolding.{fold_pairs}
use Rattle.ucd_case.proofs.BoundLemmas.{pairs_rise, pairs_rise-fold_pairs}
use Rattle.syntect_pattern.specs.Folds.{NoneFalls}

-- ---- no pair falls ----

first_rises : (last p : ℕ × ℕ) → (nat_lt last.0 p.0 || ((last.0 == p.0) && nat_lt last.1 p.1)) ≡ true → last.0 ≤ p.0
first_rises last p e = grind (arith, nat_tests)

all_above : (last : ℕ × ℕ) (ps : List (ℕ × ℕ)) → pairs_rise last ps ≡ true → (k : ℕ) → k < length ps → last.0 ≤ (slice_index_or ps k (0, 0)).0
unfolding pairs_rise
all_above last [] e k l = absurd (omega (arith, l))
all_above last (p ∷ ps) e zero l = first_rises last p (and_parts _ _ e).0
all_above last (p ∷ ps) e (suc k) l =
    let parts = and_parts _ _ e in
    let above = all_above p ps parts.1 k (omega (arith, l)) in
    let here = first_rises last p parts.0 in
    omega (arith, above, here)

none_falls : (last : ℕ × ℕ) (ps : List (ℕ × ℕ)) → pairs_rise last ps ≡ true → NoneFalls ps
unfolding pairs_rise
none_falls last [] e i j l m = absurd (omega (arith, m))
none_falls last (p ∷ ps) e zero zero l m = omega arith
none_falls last (p ∷ ps) e zero (suc j) l m = all_above p ps (and_parts _ _ e).1 j (omega (arith, m))
none_falls last (p ∷ ps) e (suc i) zero l m = absurd (omega (arith, l))
none_falls last (p ∷ ps) e (suc i) (suc j) l m = none_falls p ps (and_parts _ _ e).1 i j (omega (arith, l)) (omega (arith, m))

pub fold_pairs_fall : NoneFalls fold_pairs
fold_pairs_fall = none_falls (0, 0) fold_pairs pairs_rise-fold_pairs

-- ---- those of one ----

module _ (f : ℕ × ℕ → Bool) where
  -- what passes none of the others leaves them out
  any_before : (ps : List (ℕ × ℕ)) (n : ℕ) → ((k : ℕ) → n ≤ k → k < length ps → f (slice_index_or ps k (0, 0)) ≡ false) → list_any f (take n ps) ≡ list_any f ps
  any_before [] zero h = refl
  any_before [] (suc n) h = refl
  any_before (p ∷ ps) zero h = sym (ap (λ b. b || list_any f ps) (h zero (omega arith) (omega arith)) ∙ sym (any_before ps zero (λ k l m. h (suc k) (omega arith) (omega (arith, m)))))
  any_before (p ∷ ps) (suc n) h = ap (λ b. f p || b) (any_before ps n (λ k l m. h (suc k) (omega (arith, l)) (omega (arith, m))))

  any_after : (ps : List (ℕ × ℕ)) (n : ℕ) → ((k : ℕ) → k < n → f (slice_index_or ps k (0, 0)) ≡ false) → list_any f (drop n ps) ≡ list_any f ps
  any_after [] zero h = refl
  any_after [] (suc n) h = refl
  any_after (p ∷ ps) zero h = refl
  any_after (p ∷ ps) (suc n) h =
      any_after ps n (λ k l. h (suc k) (omega (arith, l))) ∙ sym (ap (λ b. b || list_any f ps) (h zero (omega arith)))

  take_index : (ps : List (ℕ × ℕ)) (n k : ℕ) → k < n → slice_index_or (take n ps) k (0, 0) ≡ slice_index_or ps k (0, 0)
  take_index ps zero k l = absurd (omega (arith, l))
  take_index [] (suc n) k l = refl
  take_index (p ∷ ps) (suc n) zero l = refl
  take_index (p ∷ ps) (suc n) (suc k) l = take_index ps n k (omega (arith, l))

other_first : (p : ℕ × ℕ) (c : ℕ) (b : Bool) → ((p.0 ≡ c) → ⊥) → ((p.0 == c) && b) ≡ false
other_first p c b h = grind (arith, nat_tests)

-- those from the first that isn't below a number to the first that isn't below the next one
pub any_of_one : (ps : List (ℕ × ℕ)) (c from to : ℕ) (f : ℕ × ℕ → Bool) → from ≤ to
    → ((k : ℕ) → k < from → (slice_index_or ps k (0, 0)).0 < c) → ((k : ℕ) → to ≤ k → k < length ps → c + 1 ≤ (slice_index_or ps k (0, 0)).0)
    → list_any (λ p. (p.0 == c) && f p) (drop from (take to ps)) ≡ list_any (λ p. (p.0 == c) && f p) ps
any_of_one ps c from to f l below above =
    any_after (λ p. (p.0 == c) && f p) (take to ps) from
    (λ k m. ap (λ (p : ℕ × ℕ). (p.0 == c) && f p) (take_index f ps to k (omega (arith, l, m)))
    ∙ other_first (slice_index_or ps k (0, 0)) c (f (slice_index_or ps k (0, 0))) (λ e. let b = below k m in absurd (omega (arith, b, e))))
    ∙ any_before (λ p. (p.0 == c) && f p) ps to
    (λ k m n. other_first (slice_index_or ps k (0, 0)) c (f (slice_index_or ps k (0, 0))) (λ e. let a = above k m n in absurd (omega (arith, a, e))))

-- the first of them stands before the next number's
pub ordered_ends : (ps : List (ℕ × ℕ)) (c from to : ℕ) → from ≤ length ps → ((k : ℕ) → k < from → (slice_index_or ps k (0, 0)).0 < c)
    → ((k : ℕ) → to ≤ k → k < length ps → c + 1 ≤ (slice_index_or ps k (0, 0)).0) → from ≤ to
ordered_ends ps c from to few below above = elim (cases_lt to from) [
  | inl l ↦ absurd (let b = below to l in let a = above to (omega arith) (omega (arith, l, few)) in omega (arith, a, b))
  | inr l ↦ omega (arith, l)
]
