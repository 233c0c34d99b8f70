-- Scalars are read back, and how their texts begin.
use Rattle.std.proofs.Common.{◌≡◌, ℕ, suc, ◌^◌, ◌<◌, ◌≤◌, ◌==◌, Bool, true, false, not, ◌||◌, ◌&&◌, List, [], ◌∷◌, ◌++◌, length, Some, ℤ, pos, negsuc, decimal, refl, ap, arith, inl, inr, SFits, w64, codes, flat_map, append_assoc, length-append}
use Rattle.std.specs.Prelude.{slice_index, if◌then◌else◌}
use Rattle.std.specs.Fmt.{signed_decimal}
use Rattle.std.specs.Char.{is_ascii_alphabetic}
use Rattle.std.specs.List.{list_all}
use Rattle.std.specs.Str.Parse.{IsNumeral}
use Rattle.std.proofs.lemmas.Bool.{cases_Bool, and_parts}
use Rattle.std.proofs.lemmas.Bool.Decides.{nat_tests}
use Rattle.std.proofs.lemmas.Fmt.{decimal_is_IsNumeral}
use Rattle.syntect_yaml.specs.Lines.{Rest, first}
use Rattle.syntect_yaml.specs.Scalars.{ends_plain, scalar}
use Rattle.syntect_yaml.specs.declared.value.Scalar.{Scalar}
use Rattle.syntect_yaml.specs.declared.value.Scalar.TheVariants.{Text, Number, Truth, Null}
use Rattle.syntect_laws.specs.YamlTexts.{Style, plain, single_quotes, double_quotes, literal, is_plain_byte, ends_in_space, is_reserved, is_plain, is_printable, single_byte_text, single_quoted_text, double_byte_text, double_quoted_text, styled_text}
use Rattle.syntect_laws.specs.Flow.{scalar_text}
use Rattle.syntect_laws.specs.YamlLaws.{ScalarFits}
use Rattle.syntect_laws.proofs.QuoteLaws.{double_read}
use Rattle.syntect_laws.proofs.SingleLaws.{single_read}
use Rattle.syntect_laws.proofs.PlainLaws.{plain_read}
use Rattle.syntect_laws.proofs.WordLaws.{is_word, digit_range, number_read, truth_read, null_read}

-- ---- reading

double_length : (c : ℕ) → 0 < length (double_byte_text c)
double_length c = grind (arith, nat_tests)

doubles_length : (s : List ℕ) → length s ≤ length (flat_map double_byte_text s)
doubles_length [] = omega arith
doubles_length (c ∷ s) = omega (arith, length-append (double_byte_text c) (flat_map double_byte_text s), double_length c, doubles_length s)

double_quoted_read : (flow : Bool) (s t : List ℕ) → scalar flow (double_quoted_text s ++ t) ≡ Some (Text s, t)
unfolding scalar
double_quoted_read flow s t =
    let bytes = flat_map double_byte_text s in
    let room : length s < suc (length (bytes ++ (34 ∷ t))) = omega (arith, length-append bytes (34 ∷ t), doubles_length s) in
    rw (append_assoc bytes (34 ∷ []) t, double_read s (suc (length (bytes ++ (34 ∷ t)))) t room)

single_length : (c : ℕ) → 0 < length (single_byte_text c)
single_length c = grind (arith, nat_tests)

singles_length : (s : List ℕ) → length s ≤ length (flat_map single_byte_text s)
singles_length [] = omega arith
singles_length (c ∷ s) = omega (arith, length-append (single_byte_text c) (flat_map single_byte_text s), single_length c, singles_length s)

-- a quote ends no scalar
no_quote : (flow : Bool) (t : Rest) → ends_plain flow false (39 ∷ t) ≡ false
unfolding ends_plain
no_quote true t = grind (arith, nat_tests)
no_quote false t = grind (arith, nat_tests)

other_behind : (flow : Bool) (t : Rest) → ends_plain flow false t ≡ true → (first t == 39) ≡ false
other_behind flow [] e = refl
other_behind flow (c ∷ t) e =
    elim (cases_Bool (c == 39)) [
      | inl quote ↦ let is : c ≡ 39 = grind (arith, nat_tests) in let f : ends_plain flow false (39 ∷ t) ≡ true = rw is at e in let g = no_quote flow t in absurd (grind arith)
      | inr other ↦ other
    ]

single_quoted_read : (flow : Bool) (s t : List ℕ) → is_printable s ≡ true → ends_plain flow false t ≡ true → scalar flow (single_quoted_text s ++ t) ≡ Some (Text s, t)
unfolding scalar
single_quoted_read flow s t h e =
    let bytes = flat_map single_byte_text s in
    let room : length s < suc (length (bytes ++ (39 ∷ t))) = omega (arith, length-append bytes (39 ∷ t), singles_length s) in
    rw (append_assoc bytes (39 ∷ []) t, single_read s (suc (length (bytes ++ (39 ∷ t)))) t h (other_behind flow t e) room)

text_read : (flow : Bool) (style : Style) (s t : List ℕ) → ends_plain flow false t ≡ true → scalar flow (styled_text style s ++ t) ≡ Some (Text s, t)
text_read flow plain s t e = elim (cases_Bool (is_plain s)) [ inl bare ↦ rw bare (plain_read flow s t bare e) | inr other ↦ rw other (double_quoted_read flow s t) ]
text_read flow single_quotes s t e =
    elim (cases_Bool (is_printable s)) [ inl printable ↦ rw printable (single_quoted_read flow s t printable e) | inr other ↦ rw other (double_quoted_read flow s t) ]
text_read flow double_quotes s t e = double_quoted_read flow s t
text_read flow literal s t e = double_quoted_read flow s t

-- ---- beginnings

-- the first byte passes a test, and a digit follows where it is a minus
pub record Begins (test : ℕ → Bool) (t : List ℕ) : Type 0 where
  pub byte : ℕ
  pub more : List ℕ
  pub is : t ≡ byte ∷ more
  pub passes : test byte ≡ true
  pub signed : byte ≡ 45 → 48 ≤ slice_index more 0

abbrev pub opens_scalar : ℕ → Bool
opens_scalar c = (c == 34 || c == 39) || (is_word c || is_ascii_alphabetic c)

first_more : (a : ℕ) (xs t : List ℕ) → 0 < a → a ≤ slice_index xs 0 → a ≤ slice_index (xs ++ t) 0
first_more a [] t some h = absurd (omega arith)
first_more a (x ∷ xs) t some h = h

pub begins_more : (test : ℕ → Bool) (s t : List ℕ) → Begins test s → Begins test (s ++ t)
begins_more test s t b = record {
  byte = b.byte;
  more = b.more ++ t;
  is = ap (λ xs. xs ++ t) b.is;
  passes = b.passes;
  signed = λ e. first_more 48 b.more t (omega arith) (b.signed e);
}

digits_begin : (ds : List ℕ) → IsNumeral 10 ds → Begins opens_scalar ds
digits_begin [] h = absurd (omega (arith, h.0))
digits_begin (d ∷ ds) h =
    let range = digit_range d h.1.0 in
    record { byte = d; more = ds; is = refl; passes = grind (arith, nat_tests); signed = λ e. absurd (omega arith) }

first_digit : (ds : List ℕ) → IsNumeral 10 ds → 48 ≤ slice_index ds 0
first_digit [] h = absurd (omega (arith, h.0))
first_digit (d ∷ ds) h = (digit_range d h.1.0).0

number_begins : (z : ℤ) → SFits w64 z → Begins opens_scalar (signed_decimal z)
number_begins (pos n) fits =
    let small : n < 2 ^ 63 = fits.sfits in
    digits_begin (decimal n) (decimal_is_IsNumeral n (omega arith)).0
number_begins (negsuc n) fits =
    let small : n < 2 ^ 63 = fits.sfits in
    record { byte = 45; more = decimal (suc n); is = refl; passes = refl; signed = λ e. first_digit (decimal (suc n)) (decimal_is_IsNumeral (suc n) (omega arith)).0 }

truth_begins : (b : Bool) → Begins opens_scalar (if b then codes "true" else codes "false")
truth_begins true = record { byte = 116; more = codes "rue"; is = refl; passes = refl; signed = λ e. absurd (omega arith) }
truth_begins false = record { byte = 102; more = codes "alse"; is = refl; passes = refl; signed = λ e. absurd (omega arith) }

double_begins : (s : List ℕ) → Begins opens_scalar (double_quoted_text s)
double_begins s = record { byte = 34; more = flat_map double_byte_text s ++ (34 ∷ []); is = refl; passes = refl; signed = λ e. absurd (omega arith) }

single_begins : (s : List ℕ) → Begins opens_scalar (single_quoted_text s)
single_begins s = record { byte = 39; more = flat_map single_byte_text s ++ (39 ∷ []); is = refl; passes = refl; signed = λ e. absurd (omega arith) }

letter_begins : (c : ℕ) (s : List ℕ) → is_ascii_alphabetic c ≡ true → Begins opens_scalar (c ∷ s)
letter_begins c s h = record { byte = c; more = s; is = refl; passes = grind (arith, nat_tests); signed = λ e. absurd (grind (arith, nat_tests)) }

plain_begins : (s : List ℕ) → is_plain s ≡ true → Begins opens_scalar s
plain_begins [] h = absurd (grind (arith, nat_tests))
plain_begins (c ∷ s) h =
    let parts = and_parts (is_ascii_alphabetic c && list_all is_plain_byte (c ∷ s)) (not (ends_in_space (c ∷ s)) && not (is_reserved (c ∷ s))) h in
    let letter : is_ascii_alphabetic c ≡ true = (and_parts (is_ascii_alphabetic c) (list_all is_plain_byte (c ∷ s)) parts.0).0 in
    letter_begins c s letter

text_begins : (style : Style) (s : List ℕ) → Begins opens_scalar (styled_text style s)
text_begins plain s = elim (cases_Bool (is_plain s)) [ inl bare ↦ rw bare (plain_begins s bare) | inr other ↦ rw other (double_begins s) ]
text_begins single_quotes s = elim (cases_Bool (is_printable s)) [ inl printable ↦ rw printable (single_begins s) | inr other ↦ rw other (double_begins s) ]
text_begins double_quotes s = double_begins s
text_begins literal s = double_begins s

-- ---- scalars

module _ (style : List ℕ → Style) where
  pub scalar_read : (flow : Bool) (s : Scalar) (t : Rest) → ScalarFits s → ends_plain flow false t ≡ true → scalar flow (scalar_text style s ++ t) ≡ Some (s, t)
  scalar_read flow (Text s) t fits e = text_read flow (style s) s t e
  scalar_read flow (Number z) t fits e = number_read flow z t fits e
  scalar_read flow (Truth b) t fits e = truth_read flow b t e
  scalar_read flow Null t fits e = null_read flow t e

  pub scalar_begins : (s : Scalar) → ScalarFits s → Begins opens_scalar (scalar_text style s)
  scalar_begins (Text s) fits = text_begins (style s) s
  scalar_begins (Number z) fits = number_begins z fits
  scalar_begins (Truth b) fits = truth_begins b
  scalar_begins Null fits = record { byte = 110; more = codes "ull"; is = refl; passes = refl; signed = λ e. absurd (omega arith) }
