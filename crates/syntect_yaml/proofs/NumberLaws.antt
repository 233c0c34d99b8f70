-- The numbers that plain scalars write.
use Rattle.std.proofs.Common.{◌≡◌, ℕ, zero, suc, ◌^◌, ◌<◌, ◌==◌, Bool, true, false, cond, ◌||◌, List, [], ◌∷◌, length, drop, ℤ, pos, neg_ℤ, Some, None, refl, sym, ap, ◌∙◌, inl, inr, arith, SFits, w64}
use Rattle.std.specs.Prelude.{nat_lt, nat_le, slice_index}
use Rattle.std.proofs.lemmas.Bool.{cases_Bool, and_parts, cases_lt}
use Rattle.std.proofs.lemmas.Bool.Decides.{nat_tests}
use Rattle.std.specs.List.{list_all}
use Rattle.std.specs.Char.{is_ascii_digit, digit_value}
use Rattle.std.specs.Str.Parse.{AllDigits, IsNumeral, digits_value, without_leading_sign, signed_digits_value, starts_with_minus}
use Rattle.syntect_yaml.specs.Scalars.{is_whole, unsigned, fitting, number_of}

digit_small : (c : ℕ) → is_ascii_digit c ≡ true → digit_value c < 10
digit_small c e = grind (arith, nat_tests)

small_digit : (c : ℕ) → digit_value c < 10 → is_ascii_digit c ≡ true
small_digit c h = grind (arith, nat_tests)

all_digits : (ds : List ℕ) → list_all is_ascii_digit ds ≡ true → AllDigits 10 ds
all_digits [] e = tt
all_digits (d ∷ ds) e = let parts = and_parts (is_ascii_digit d) (list_all is_ascii_digit ds) e in (digit_small d parts.0, all_digits ds parts.1)

digits_pass : (ds : List ℕ) → AllDigits 10 ds → list_all is_ascii_digit ds ≡ true
digits_pass [] h = refl
digits_pass (d ∷ ds) h = rw (small_digit d h.0, digits_pass ds h.1)

minus_first : (c : ℕ) (s : List ℕ) → (c == 45) ≡ true → cond (c == 43 || c == 45) (drop 1 s) s ≡ cond (c == 45) (drop 1 s) (drop (cond (c == 43) 1 0) s)
minus_first c s e = let other : (c == 43) ≡ false = grind (arith, nat_tests) in rw (e, other)

same_digits : (s : List ℕ) → unsigned s ≡ without_leading_sign s
same_digits s =
    elim (cases_Bool (slice_index s 0 == 45)) [
      | inl minus ↦ minus_first (slice_index s 0) s minus
      | inr other ↦ elim (cases_Bool (slice_index s 0 == 43)) [ inl plus ↦ rw (other, plus) | inr none ↦ rw (other, none) ]
    ]

fitting_some : (negative : Bool) (n : ℕ) → SFits w64 (cond negative (neg_ℤ (pos n)) (pos n)) → fitting negative n ≡ Some (cond negative (neg_ℤ (pos n)) (pos n))
fitting_some true zero h = refl
fitting_some true (suc n) h =
    let k : n < 2 ^ 63 = h.sfits in
    let test : nat_le (suc n) (2 ^ 63) ≡ true = grind (arith, nat_tests) in
    rw test
fitting_some false n h =
    let k : n < 2 ^ 63 = h.sfits in
    let test : nat_lt n (2 ^ 63) ≡ true = grind (arith, nat_tests) in
    rw test

fitting_none : (negative : Bool) (n : ℕ) → (SFits w64 (cond negative (neg_ℤ (pos n)) (pos n)) → ⊥) → fitting negative n ≡ None
fitting_none true zero h = absurd (h (record { sfits = omega arith }))
fitting_none true (suc n) h =
    elim (cases_lt n (2 ^ 63)) [
      | inl k ↦ absurd (h (record { sfits = k }))
      | inr k ↦ let test : nat_le (suc n) (2 ^ 63) ≡ false = grind (arith, nat_tests) in rw test
    ]
fitting_none false n h =
    elim (cases_lt n (2 ^ 63)) [
      | inl k ↦ absurd (h (record { sfits = k }))
      | inr k ↦ let test : nat_lt n (2 ^ 63) ≡ false = grind (arith, nat_tests) in rw test
    ]

whole : (ds : List ℕ) → IsNumeral 10 ds → is_whole ds ≡ true
whole ds h = let some = h.0 in rw (digits_pass ds h.1) (grind (arith, nat_tests))

numeral : (ds : List ℕ) → is_whole ds ≡ true → IsNumeral 10 ds
numeral ds e = let parts = and_parts (nat_lt 0 (length ds)) (list_all is_ascii_digit ds) e in let test = parts.0 in (grind (arith, nat_tests), all_digits ds parts.1)

pub number_some : (s : List ℕ) (z : ℤ) → IsNumeral 10 (without_leading_sign s) → SFits w64 (signed_digits_value 10 s) → z ≡ signed_digits_value 10 s → Some z ≡ number_of s
unfolding number_of
number_some s z digits fits e =
    let ds = without_leading_sign s in
    sym (rw (same_digits s, whole ds digits) (fitting_some (starts_with_minus s) (digits_value 10 ds) fits ∙ ap (λ (x : ℤ). Some x) (sym e)))

pub number_none : (s : List ℕ) → (IsNumeral 10 (without_leading_sign s) × SFits w64 (signed_digits_value 10 s) → ⊥) → None ≡ number_of s
unfolding number_of
number_none s h =
    let ds = without_leading_sign s in
    elim (cases_Bool (is_whole ds)) [
      | inl all ↦ sym (rw (same_digits s, all) (fitting_none (starts_with_minus s) (digits_value 10 ds) (λ fits. h (numeral ds all, fits))))
      | inr none ↦ sym (rw (same_digits s, none))
    ]
