-- Texts in quotes are read back.
use Rattle.std.proofs.Common.{◌≡◌, ℕ, zero, suc, ◌+◌, ◌*◌, ◌/◌, ◌%◌, ◌<◌, ◌==◌, true, false, ◌||◌, cond, List, [], ◌∷◌, ◌++◌, length, drop, Some, None, refl, sym, ◌∙◌, inl, inr, arith, one-add, append_assoc, flat_map}
use Rattle.std.specs.Prelude.{nat_lt, nat_le}
use Rattle.std.specs.Char.{encode_utf8, digit_value}
use Rattle.std.proofs.lemmas.Bool.{cases_Bool}
use Rattle.std.proofs.lemmas.Bool.Decides.{nat_tests}
use Rattle.std.specs.List.{prefix_len}
use Rattle.syntect_yaml.specs.Lines.{Rest, Read, ◌>>=◌, first, split_run}
use Rattle.syntect_yaml.specs.Scalars.{prepend, is_double, is_hex, double, escape, hex_character}
use Rattle.syntect_yaml.proofs.QuotedLaws.{prepend-prepend}
use Rattle.syntect_laws.specs.YamlTexts.{is_control, hex_digit, double_byte_text}

-- what a run of plain bytes and what follows it give
abbrev piece : ℕ → List ℕ → Rest → Read (List ℕ)
piece m front u =
    cond (first u == 34) (Some (front, drop 1 u)) (cond (first u == 92) (escape (drop 1 u) >>= (λ e. prepend (front ++ encode_utf8 e.0) (double m e.1))) None)

double_piece : (m : ℕ) (t : Rest) → double (suc m) t ≡ piece m (split_run is_double t).0 (split_run is_double t).1
unfolding double
double_piece m t = refl

escape_onto : (m c : ℕ) (front : List ℕ) (e : Read ℕ)
    → (e >>= (λ p. prepend ((c ∷ front) ++ encode_utf8 p.0) (double m p.1))) ≡ prepend (c ∷ []) (e >>= (λ p. prepend (front ++ encode_utf8 p.0) (double m p.1)))
escape_onto m c front None = refl
escape_onto m c front (Some p) = sym (prepend-prepend (c ∷ []) (front ++ encode_utf8 p.0) (double m p.1))

piece_onto : (m c : ℕ) (front : List ℕ) (u : Rest) → piece m (c ∷ front) u ≡ prepend (c ∷ []) (piece m front u)
piece_onto m c front u =
    elim (cases_Bool (first u == 34)) [
      | inl quote ↦ rw quote
      | inr other ↦ elim (cases_Bool (first u == 92)) [ inl slash ↦ rw (other, slash) (escape_onto m c front (escape (drop 1 u))) | inr none ↦ rw (other, none) ]
    ]

-- a byte that stands for itself
pass : (n c : ℕ) (t : Rest) → is_double c ≡ true → double n (c ∷ t) ≡ prepend (c ∷ []) (double n t)
unfolding double
pass zero c t e = refl
pass (suc m) c t e = rw (e, one-add) (piece_onto m c (split_run is_double t).0 (split_run is_double t).1)

-- a byte after a backslash, or by its number
slash : (m c : ℕ) (u t : Rest) → escape u ≡ Some (c, t) → double (suc m) (92 ∷ u) ≡ prepend (encode_utf8 c) (double m t)
unfolding double
slash m c u t e = rw e

one_byte : (c : ℕ) → c < 128 → encode_utf8 c ≡ c ∷ []
unfolding encode_utf8
one_byte c h = let small : nat_lt c 128 ≡ true = grind (arith, nat_tests) in rw small

-- ---- escapes

mark_escape : (c : ℕ) (t : Rest) → (c == 34 || c == 92) ≡ true → escape (c ∷ t) ≡ Some (c, t)
unfolding escape
mark_escape c t e =
    elim (cases_Bool (c == 34)) [
      | inl quote ↦ let is : c ≡ 34 = grind (arith, nat_tests) in rw is
      | inr other ↦ let is : c ≡ 92 = grind (arith, nat_tests) in rw is
    ]

hex_value : (n : ℕ) → n < 16 → digit_value (hex_digit n) ≡ n
hex_value n h = grind (arith, nat_tests)

hex_is : (n : ℕ) → n < 16 → is_hex (hex_digit n) ≡ true
hex_is n h = rw (hex_value n h) (grind (arith, nat_tests))

two_digits : (a b c : ℕ) (t : Rest) → a < 16 → b < 16 → a * 16 + b ≡ c → c < 128 → hex_character 2 (hex_digit a ∷ hex_digit b ∷ t) ≡ Some (c, t)
unfolding hex_character
two_digits a b c t ha hb is small =
    let value : (0 * 16 + digit_value (hex_digit a)) * 16 + digit_value (hex_digit b) ≡ c = rw (hex_value a ha, hex_value b hb) (omega arith) in
    let run : nat_le 2 (1 + (1 + prefix_len is_hex t)) ≡ true = grind (arith, nat_tests) in
    let low : nat_lt c 0xD800 ≡ true = grind (arith, nat_tests) in
    rw (value, hex_is a ha, hex_is b hb, run, low)

number_escape : (c : ℕ) (t : Rest) → c < 128 → escape (120 ∷ hex_digit (c / 16) ∷ hex_digit (c % 16) ∷ t) ≡ Some (c, t)
unfolding escape
number_escape c t h = two_digits (c / 16) (c % 16) c t (omega arith) (omega arith) (omega arith) h

-- ---- a whole text

mark_read : (m c : ℕ) (s u t : List ℕ) → (c == 34 || c == 92) ≡ true → double m u ≡ Some (s, t) → double (suc m) (double_byte_text c ++ u) ≡ Some (c ∷ s, t)
mark_read m c s u t e f =
    let small : c < 128 = grind (arith, nat_tests) in
    rw e (slash m c (c ∷ u) u (mark_escape c u e) ∙ rw (one_byte c small, f))

control_read : (m c : ℕ) (s u t : List ℕ) → (c == 34 || c == 92) ≡ false → is_control c ≡ true → double m u ≡ Some (s, t) → double (suc m) (double_byte_text c ++ u) ≡ Some (c ∷ s, t)
control_read m c s u t e low f =
    let small : c < 128 = grind (arith, nat_tests) in
    rw (e, low) (slash m c (120 ∷ hex_digit (c / 16) ∷ hex_digit (c % 16) ∷ u) u (number_escape c u small) ∙ rw (one_byte c small, f))

itself_read : (n c : ℕ) (s u t : List ℕ) → (c == 34 || c == 92) ≡ false → is_control c ≡ false → double n u ≡ Some (s, t) → double n (double_byte_text c ++ u) ≡ Some (c ∷ s, t)
itself_read n c s u t e low f =
    let itself : is_double c ≡ true = grind (arith, nat_tests) in
    rw (e, low) (pass n c u itself ∙ rw f)

byte_read : (m c : ℕ) (s u t : List ℕ) → double m u ≡ Some (s, t) → double (suc m) u ≡ Some (s, t) → double (suc m) (double_byte_text c ++ u) ≡ Some (c ∷ s, t)
byte_read m c s u t f g =
    elim (cases_Bool (c == 34 || c == 92)) [
      | inl mark ↦ mark_read m c s u t mark f
      | inr other ↦ elim (cases_Bool (is_control c)) [ inl low ↦ control_read m c s u t other low f | inr high ↦ itself_read (suc m) c s u t other high g ]
    ]

pub double_read : (s : List ℕ) (n : ℕ) (t : Rest) → length s < n → double n (flat_map double_byte_text s ++ (34 ∷ t)) ≡ Some (s, t)
unfolding double
double_read s zero t h = absurd (omega arith)
double_read [] (suc m) t h = refl
double_read (c ∷ s) (suc m) t h =
    rw (append_assoc (double_byte_text c) (flat_map double_byte_text s) (34 ∷ t))
    (byte_read m c s (flat_map double_byte_text s ++ (34 ∷ t)) t (double_read s m t (omega arith)) (double_read s (suc m) t (omega arith)))
