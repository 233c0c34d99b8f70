-- Texts that stand as they are are read back.
use Rattle.std.proofs.Common.{◌≡◌, ℕ, suc, ◌==◌, Bool, true, false, not, ◌||◌, ◌&&◌, List, [], ◌∷◌, ◌++◌, length, Some, None, refl, sym, subst, ◌∙◌, inl, inr, arith, codes, bytes_eq}
use Rattle.std.specs.Prelude.{nat_lt}
use Rattle.std.specs.List.{list_all}
use Rattle.std.specs.Char.{is_ascii_alphabetic, is_ascii_digit}
use Rattle.std.specs.Str.{str_eq_ignore_ascii_case}
use Rattle.std.proofs.lemmas.Bool.{cases_Bool, and_parts}
use Rattle.std.proofs.lemmas.Bool.Decides.{nat_tests}
use Rattle.std.proofs.lemmas.Slice.Eq.{bytes_eq-Decides}
use Rattle.std.proofs.Math.Seq.{take-append_seam, drop-append_seam}
use Rattle.syntect_yaml.specs.Lines.{Rest, is_white}
use Rattle.syntect_yaml.specs.Scalars.{begins_plain, ends_plain, plain_len, kind, number_of, plain, scalar}
use Rattle.syntect_yaml.specs.declared.value.Scalar.TheVariants.{Text}
use Rattle.syntect_laws.specs.YamlTexts.{is_plain_byte, ends_in_space, is_reserved, is_plain}

-- ---- how long the text is

goes_on : (flow spaced : Bool) (c : ℕ) (t : Rest) → is_plain_byte c ≡ true → ends_plain flow spaced (c ∷ t) ≡ false
unfolding ends_plain
goes_on true true c t e = grind (arith, nat_tests)
goes_on true false c t e = grind (arith, nat_tests)
goes_on false true c t e = grind (arith, nat_tests)
goes_on false false c t e = grind (arith, nat_tests)

end_len : (flow : Bool) (t : Rest) → ends_plain flow false t ≡ true → plain_len flow false t ≡ 0
unfolding plain_len
end_len flow [] e = refl
end_len flow (c ∷ t) e = rw e

last_len : (flow spaced : Bool) (c : ℕ) (t : Rest) → is_plain_byte c ≡ true → (c == 32) ≡ false → ends_plain flow false t ≡ true → plain_len flow spaced (c ∷ t) ≡ 1
unfolding plain_len
last_len flow spaced c t h tight e =
    let dark : is_white c ≡ false = grind (arith, nat_tests) in
    rw (goes_on flow spaced c t h, dark, tight, end_len flow t e)

more_len : (flow spaced : Bool) (c n : ℕ) (t : Rest) → is_plain_byte c ≡ true → plain_len flow (c == 32) t ≡ suc n → plain_len flow spaced (c ∷ t) ≡ suc (suc n)
unfolding plain_len
more_len flow spaced c n t h e =
    let some : (suc n == 0) ≡ false = grind (arith, nat_tests) in
    elim (cases_Bool (is_white c)) [ inl white ↦ rw (goes_on flow spaced c t h, e, white, some) | inr dark ↦ rw (goes_on flow spaced c t h, dark, e) ]

text_len : (flow spaced : Bool) (c : ℕ) (s t : List ℕ) → list_all is_plain_byte (c ∷ s) ≡ true → ends_in_space (c ∷ s) ≡ false → ends_plain flow false t ≡ true
    → plain_len flow spaced (c ∷ (s ++ t)) ≡ suc (length s)
text_len flow spaced c [] t h tight e = last_len flow spaced c t (and_parts (is_plain_byte c) true h).0 tight e
text_len flow spaced c (d ∷ s) t h tight e =
    let parts = and_parts (is_plain_byte c) (list_all is_plain_byte (d ∷ s)) h in
    more_len flow spaced c (length s) (d ∷ (s ++ t)) parts.0 (text_len flow (c == 32) d s t parts.1 tight e)

-- ---- what it is

no_number : (c : ℕ) (s : List ℕ) → is_ascii_alphabetic c ≡ true → number_of (c ∷ s) ≡ None
unfolding number_of
no_number c s h =
    let plus : (c == 43) ≡ false = grind (arith, nat_tests) in
    let minus : (c == 45) ≡ false = grind (arith, nat_tests) in
    let digit : is_ascii_digit c ≡ false = grind (arith, nat_tests) in
    let some : nat_lt 0 (length (c ∷ s)) ≡ true = grind (arith, nat_tests) in
    rw (plus, minus, some, digit)

other_word : (s w : List ℕ) → str_eq_ignore_ascii_case w w ≡ true → str_eq_ignore_ascii_case s w ≡ false → bytes_eq s w ≡ false
other_word s w same other =
    elim (cases_Bool (bytes_eq s w)) [
      | inl equal ↦ let e : s ≡ w = (bytes_eq-Decides s w).0 equal in let f : true ≡ false = sym same ∙ subst (λ (x : List ℕ). str_eq_ignore_ascii_case x w ≡ false) e other in cc
      | inr different ↦ different
    ]

pub neither : (a b : Bool) → (a || b) ≡ false → (a ≡ false) × (b ≡ false)
neither false b e = (refl, e)
neither true b e = let f : true ≡ false = e in cc

no_word : (s : List ℕ) → is_reserved s ≡ false → (bytes_eq s (codes "true") ≡ false) × (bytes_eq s (codes "false") ≡ false) × (bytes_eq s (codes "null") ≡ false)
no_word s free =
    let a = neither (str_eq_ignore_ascii_case s (codes "true")) _ free in
    let b = neither (str_eq_ignore_ascii_case s (codes "false")) _ a.1 in
    let c = neither (str_eq_ignore_ascii_case s (codes "null")) _ b.1 in
    (other_word s (codes "true") refl a.0, other_word s (codes "false") refl b.0, other_word s (codes "null") refl c.0)

text_kind : (c : ℕ) (s : List ℕ) → is_ascii_alphabetic c ≡ true → is_reserved (c ∷ s) ≡ false → kind (c ∷ s) ≡ Text (c ∷ s)
unfolding kind
text_kind c s h free =
    let words = no_word (c ∷ s) free in
    let wave : (c == 126) ≡ false = grind (arith, nat_tests) in
    rw (words.0, words.1, words.2, wave, no_number c s h)

not_so : (b : Bool) → not b ≡ true → b ≡ false
not_so false e = refl
not_so true e = let f : false ≡ true = e in cc

letter_begins : (c : ℕ) (t : Rest) → is_ascii_alphabetic c ≡ true → begins_plain (c ∷ t) ≡ true
unfolding begins_plain
letter_begins c t h = grind (arith, nat_tests)

text_read : (flow : Bool) (c : ℕ) (s t : List ℕ) → is_ascii_alphabetic c ≡ true → list_all is_plain_byte (c ∷ s) ≡ true → ends_in_space (c ∷ s) ≡ false → is_reserved (c ∷ s) ≡ false
    → ends_plain flow false t ≡ true → scalar flow (c ∷ (s ++ t)) ≡ Some (Text (c ∷ s), t)
unfolding scalar plain
text_read flow c s t letter bytes tight free e =
    let single : (c == 39) ≡ false = grind (arith, nat_tests) in
    let double : (c == 34) ≡ false = grind (arith, nat_tests) in
    let some : nat_lt 0 (suc (length s)) ≡ true = grind (arith, nat_tests) in
    rw (single, double, text_len flow false c s t bytes tight e, letter_begins c (s ++ t) letter, some, take-append_seam (c ∷ s) t, drop-append_seam (c ∷ s) t, text_kind c s letter free)

pub plain_read : (flow : Bool) (s t : List ℕ) → is_plain s ≡ true → ends_plain flow false t ≡ true → scalar flow (s ++ t) ≡ Some (Text s, t)
plain_read flow [] t h e = absurd (grind (arith, nat_tests))
plain_read flow (c ∷ s) t h e =
    let parts = and_parts (is_ascii_alphabetic c && list_all is_plain_byte (c ∷ s)) (not (ends_in_space (c ∷ s)) && not (is_reserved (c ∷ s))) h in
    let letters = and_parts (is_ascii_alphabetic c) (list_all is_plain_byte (c ∷ s)) parts.0 in
    let ends = and_parts (not (ends_in_space (c ∷ s))) (not (is_reserved (c ∷ s))) parts.1 in
    text_read flow c s t letters.0 letters.1 (not_so _ ends.0) (not_so _ ends.1) e
