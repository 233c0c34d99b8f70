-- Plain words and numbers are read back.
use Rattle.std.proofs.Common.{◌≡◌, ℕ, suc, ◌^◌, ◌<◌, ◌≤◌, ◌==◌, Bool, true, false, ◌||◌, List, [], ◌∷◌, ◌++◌, length, Some, ℤ, pos, negsuc, decimal, refl, ap, ◌∙◌, arith, SFits, w64, codes}
use Rattle.std.specs.Prelude.{nat_lt, if◌then◌else◌}
use Rattle.std.specs.Fmt.{signed_decimal}
use Rattle.std.specs.Int.{is_in_range}
use Rattle.std.specs.List.{list_all}
use Rattle.std.specs.Char.{digit_value}
use Rattle.std.specs.Str.Parse.{AllDigits, IsNumeral, digits_value}
use Rattle.std.proofs.lemmas.Bool.{and_parts}
use Rattle.std.proofs.lemmas.Bool.Decides.{nat_tests}
use Rattle.std.proofs.lemmas.Fmt.{decimal_is_IsNumeral}
use Rattle.std.proofs.Math.Seq.{take-append_seam, drop-append_seam}
use Rattle.syntect_yaml.specs.Lines.{Rest, is_white}
use Rattle.syntect_yaml.specs.Scalars.{begins_plain, ends_plain, plain_len, kind, number_of, plain, scalar}
use Rattle.syntect_yaml.specs.declared.value.Scalar.{Scalar}
use Rattle.syntect_yaml.specs.declared.value.Scalar.TheVariants.{Number, Truth, Null}
use Rattle.syntect_yaml.proofs.NumberLaws.{number_some}

-- a byte of plain words and numbers
abbrev pub is_word : ℕ → Bool
is_word c = c == 45 || (is_in_range 48 57 c || is_in_range 97 122 c)

-- ---- a run of such bytes

goes_on : (flow : Bool) (c : ℕ) (t : Rest) → is_word c ≡ true → ends_plain flow false (c ∷ t) ≡ false
unfolding ends_plain
goes_on true c t e = grind (arith, nat_tests)
goes_on false c t e = grind (arith, nat_tests)

word_len : (flow : Bool) (c : ℕ) (t : Rest) → is_word c ≡ true → plain_len flow false (c ∷ t) ≡ suc (plain_len flow false t)
unfolding plain_len
word_len flow c t e =
    let dark : is_white c ≡ false = grind (arith, nat_tests) in
    let tight : (c == 32) ≡ false = grind (arith, nat_tests) in
    rw (goes_on flow c t e, dark, tight)

end_len : (flow : Bool) (t : Rest) → ends_plain flow false t ≡ true → plain_len flow false t ≡ 0
unfolding plain_len
end_len flow [] e = refl
end_len flow (c ∷ t) e = rw e

words_len : (flow : Bool) (w : List ℕ) (t : Rest) → list_all is_word w ≡ true → ends_plain flow false t ≡ true → plain_len flow false (w ++ t) ≡ length w
words_len flow [] t h e = end_len flow t e
words_len flow (c ∷ w) t h e =
    let parts = and_parts (is_word c) (list_all is_word w) h in
    word_len flow c (w ++ t) parts.0 ∙ ap suc (words_len flow w t parts.1 e)

-- a word that begins well is read as what it stands for
word_read : (flow : Bool) (c : ℕ) (w : List ℕ) (t : Rest) (s : Scalar) → list_all is_word (c ∷ w) ≡ true → ends_plain flow false t ≡ true
    → begins_plain (c ∷ (w ++ t)) ≡ true → kind (c ∷ w) ≡ s → scalar flow (c ∷ (w ++ t)) ≡ Some (s, t)
unfolding scalar plain
word_read flow c w t s h e b k =
    let word : is_word c ≡ true = (and_parts (is_word c) (list_all is_word w) h).0 in
    let single : (c == 39) ≡ false = grind (arith, nat_tests) in
    let double : (c == 34) ≡ false = grind (arith, nat_tests) in
    let some : nat_lt 0 (suc (length w)) ≡ true = grind (arith, nat_tests) in
    rw (single, double, words_len flow (c ∷ w) t h e, b, some, take-append_seam (c ∷ w) t, drop-append_seam (c ∷ w) t, k)

begins_bare : (c : ℕ) (t : Rest) → is_word c ≡ true → (c == 45) ≡ false → begins_plain (c ∷ t) ≡ true
unfolding begins_plain
begins_bare c t e f = grind (arith, nat_tests)

begins_signed : (d : ℕ) (t : Rest) → 48 ≤ d → d ≤ 57 → begins_plain (45 ∷ d ∷ t) ≡ true
unfolding begins_plain
begins_signed d t low high = grind (arith, nat_tests)

-- ---- numbers

pub digit_range : (c : ℕ) → digit_value c < 10 → (48 ≤ c) × (c ≤ 57)
digit_range c h = grind (arith, nat_tests)

digits_words : (ds : List ℕ) → AllDigits 10 ds → list_all is_word ds ≡ true
digits_words [] h = refl
digits_words (d ∷ ds) h =
    let range = digit_range d h.0 in
    let word : is_word d ≡ true = grind (arith, nat_tests) in
    rw (word, digits_words ds h.1)

number_kind : (c : ℕ) (w : List ℕ) (z : ℤ) → c < 58 → Some z ≡ number_of (c ∷ w) → kind (c ∷ w) ≡ Number z
unfolding kind
number_kind c w z small e =
    let t : (c == 116) ≡ false = grind (arith, nat_tests) in
    let f : (c == 102) ≡ false = grind (arith, nat_tests) in
    let n : (c == 110) ≡ false = grind (arith, nat_tests) in
    let wave : (c == 126) ≡ false = grind (arith, nat_tests) in
    rw (t, f, n, wave, ← e)

bare_value : (n d : ℕ) (ds : List ℕ) → IsNumeral 10 (d ∷ ds) → digits_value 10 (d ∷ ds) ≡ n → n < 2 ^ 63 → Some (pos n) ≡ number_of (d ∷ ds)
bare_value n d ds h is small =
    let range = digit_range d h.1.0 in
    let minus : (d == 45) ≡ false = grind (arith, nat_tests) in
    let plus : (d == 43) ≡ false = grind (arith, nat_tests) in
    number_some (d ∷ ds) (pos n) (rw (minus, plus) h) (rw (minus, plus, is) (record { sfits = small })) (rw (minus, plus, is))

bare_number : (flow : Bool) (n : ℕ) (ds : List ℕ) (t : Rest) → IsNumeral 10 ds → digits_value 10 ds ≡ n → n < 2 ^ 63 → ends_plain flow false t ≡ true → scalar flow (ds ++ t) ≡ Some (Number (pos n), t)
bare_number flow n [] t h is small e = absurd (omega (arith, h.0))
bare_number flow n (d ∷ ds) t h is small e =
    let range = digit_range d h.1.0 in
    let minus : (d == 45) ≡ false = grind (arith, nat_tests) in
    let words = digits_words (d ∷ ds) h.1 in
    let word : is_word d ≡ true = (and_parts (is_word d) (list_all is_word ds) words).0 in
    word_read flow d ds t (Number (pos n)) words e (begins_bare d (ds ++ t) word minus) (number_kind d ds (pos n) (omega arith) (bare_value n d ds h is small))

signed_number : (flow : Bool) (n : ℕ) (ds : List ℕ) (t : Rest) → IsNumeral 10 ds → digits_value 10 ds ≡ suc n → n < 2 ^ 63 → ends_plain flow false t ≡ true → scalar flow (45 ∷ (ds ++ t)) ≡ Some (Number (negsuc n), t)
signed_number flow n [] t h is small e = absurd (omega (arith, h.0))
signed_number flow n (d ∷ ds) t h is small e =
    let range = digit_range d h.1.0 in
    let value : Some (negsuc n) ≡ number_of (45 ∷ d ∷ ds) = number_some (45 ∷ d ∷ ds) (negsuc n) h (rw is (record { sfits = small })) (rw is) in
    word_read flow 45 (d ∷ ds) t (Number (negsuc n)) (digits_words (d ∷ ds) h.1) e (begins_signed d (ds ++ t) range.0 range.1) (number_kind 45 (d ∷ ds) (negsuc n) (omega arith) value)

pub number_read : (flow : Bool) (z : ℤ) (t : Rest) → SFits w64 z → ends_plain flow false t ≡ true → scalar flow (signed_decimal z ++ t) ≡ Some (Number z, t)
number_read flow (pos n) t fits e =
    let small : n < 2 ^ 63 = fits.sfits in
    let digits = decimal_is_IsNumeral n (omega arith) in
    bare_number flow n (decimal n) t digits.0 digits.1 small e
number_read flow (negsuc n) t fits e =
    let small : n < 2 ^ 63 = fits.sfits in
    let digits = decimal_is_IsNumeral (suc n) (omega arith) in
    signed_number flow n (decimal (suc n)) t digits.0 digits.1 small e

-- ---- words

kind_true : kind (codes "true") ≡ Truth true
unfolding kind
kind_true = refl

kind_false : kind (codes "false") ≡ Truth false
unfolding kind
kind_false = refl

kind_null : kind (codes "null") ≡ Null
unfolding kind
kind_null = refl

pub truth_read : (flow b : Bool) (t : Rest) → ends_plain flow false t ≡ true → scalar flow ((if b then codes "true" else codes "false") ++ t) ≡ Some (Truth b, t)
truth_read flow true t e = word_read flow 116 (codes "rue") t (Truth true) refl e (begins_bare 116 (codes "rue" ++ t) refl refl) kind_true
truth_read flow false t e = word_read flow 102 (codes "alse") t (Truth false) refl e (begins_bare 102 (codes "alse" ++ t) refl refl) kind_false

pub null_read : (flow : Bool) (t : Rest) → ends_plain flow false t ≡ true → scalar flow (codes "null" ++ t) ≡ Some (Null, t)
null_read flow t e = word_read flow 110 (codes "ull") t Null refl e (begins_bare 110 (codes "ull" ++ t) refl refl) kind_null
