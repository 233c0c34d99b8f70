-- Where characters begin.
use Rattle.std.proofs.Common.{◌≡◌, ℕ, ◌&&◌, ◌||◌, Bool, true, false, nat_le, nat_lt, List, length, refl, sym, ◌∙◌, ap, arith, inl, inr, ◌⊎◌}
use Rattle.std.proofs.lemmas.Bool.{cases_lt, le-leb, lt-ltb}
use Rattle.std.specs.Prelude.{IsCharBoundary, slice_index, IsTrue, ◌↔◌}
use Rattle.std.proofs.lemmas.Bool.Decides.{nat_tests}
use Rattle.syntect_pattern.specs.Text.{is_boundary}

is_either : (b : Bool) → (b ≡ true) ⊎ (b ≡ false)
is_either true = inl refl
is_either false = inr refl

pub boundary-true : (s : List ℕ) (i : ℕ) → is_boundary s i ≡ true → IsCharBoundary s i
unfolding is_boundary
boundary-true s i h = (grind (arith, nat_tests), λ a b. grind (arith, nat_tests))

or-true : (a : Bool) → (a || true) ≡ true
or-true true = refl
or-true false = refl

pub true-boundary : (s : List ℕ) (i : ℕ) → IsCharBoundary s i → is_boundary s i ≡ true
unfolding is_boundary
true-boundary s i h =
    let b : ℕ = slice_index s i in
    let inside : nat_le i (length s) ≡ true = le-leb i (length s) h.0 in
    let rest : ((nat_le (length s) i || nat_lt b 128) || nat_le 192 b) ≡ true =
    elim (cases_lt i (length s)) as (λ _. ((nat_le (length s) i || nat_lt b 128) || nat_le 192 b) ≡ true) [
      | inl p ↦ elim (cases_lt b 128) as (λ _. ((nat_le (length s) i || nat_lt b 128) || nat_le 192 b) ≡ true) [
        | inl q ↦ ap (λ (c : Bool). (nat_le (length s) i || c) || nat_le 192 b) (lt-ltb b 128 q) ∙ ap (λ (c : Bool). c || nat_le 192 b) (or-true (nat_le (length s) i))
        | inr q ↦ ap (λ (c : Bool). (nat_le (length s) i || nat_lt b 128) || c) (le-leb 192 b (h.1 p q)) ∙ or-true (nat_le (length s) i || nat_lt b 128)
      ]
      | inr p ↦ ap (λ (c : Bool). (c || nat_lt b 128) || nat_le 192 b) (le-leb (length s) i p)
    ] in
    ap (λ (c : Bool). c && ((nat_le (length s) i || nat_lt b 128) || nat_le 192 b)) inside ∙ rest

-- the test of std is that of the definition
pub boundary-test : (s : List ℕ) (i : ℕ) (b : Bool) → (IsTrue b ↔ IsCharBoundary s i) → b ≡ is_boundary s i
boundary-test s i true h = sym (true-boundary s i (h.0 refl))
boundary-test s i false h =
    elim (is_either (is_boundary s i)) [
      | inl e ↦ absurd (let f : false ≡ true = h.1 (boundary-true s i e) in cc)
      | inr e ↦ sym e
    ]
