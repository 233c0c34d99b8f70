-- Characters that stand for themselves.
use Rattle.std.proofs.Common.{◌≡◌, ◌==◌, ◌<◌, ◌/◌, ◌^◌, ltb-true, ℕ, ◌&&◌, ◌||◌, Bool, true, false, ◌∷◌, drop, Option, Some, None, refl, sym, ap, ◌∙◌, arith, nat_eq}
use Rattle.std.specs.Prelude.{bit_and, nat_lt, is_some, slice_get, if◌then◌else◌}
use Rattle.std.specs.Char.{is_whitespace}
use Rattle.std.specs.Bool.{beq}
use Rattle.std.specs.Int.{bit_at}
use Rattle.std.specs.Option.{option_map_or}
use Rattle.std.proofs.lemmas.Bool.Decides.{nat_tests}
use Rattle.std.proofs.lemmas.Nat.Bits.{shr_and_one}
use Rattle.ucd_table.proofs.Computing.{tables}
use Rattle.ucd_table.proofs.Facts.{same_from_beq}
use Rattle.ucd_table.proofs.TrieCheck.{all_below-at}
use Rattle.syntect_pattern.specs.Reading.{Text, ◌∈◌, begins, first, Passing, between, note, comment, pass}
use Rattle.syntect_pattern.specs.Grammar.{quantifier, Next, bar, closer, opener, bracket, backslash, dot, caret, dollar, loops, plain, next_char, next_of}
use Rattle.syntect_pattern_words.specs.Plain.{BeginsPlainly, is_firm, is_plain}
use Rattle.syntect_pattern_words.specs.QuantifierViews.{goes_on}
use Rattle.syntect_pattern_words.proofs.PassLaws.{pass-stops, pass-between_end}
use Rattle.syntect_pattern_words.proofs.QuantifierLaws.{is-other, quantifier-none, quantifier-other}
use Rattle.syntect_pattern_words.proofs.TokenLaws.{next-some}

module _ (c : ℕ) (l : is_plain c ≡ true) where
  other : (d : ℕ) → is_plain d ≡ false → nat_eq c d ≡ false
  other d e = is-other c d (λ same. let clash : true ≡ false = sym l ∙ ap is_plain same ∙ e in cc)

  plain-firm : is_firm c ≡ true
  plain-firm = ap (λ b. b || c ∈ "|)[\\.^$") l

module _ (c : ℕ) (l : is_firm c ≡ true) where
  apart : (d : ℕ) → is_firm d ≡ false → nat_eq c d ≡ false
  apart d e = is-other c d (λ same. let clash : true ≡ false = sym l ∙ ap is_firm same ∙ e in cc)

  no-space : is_whitespace c ≡ false
  no-space = grind (arith, nat_tests)

module _ (t : Text) (c : ℕ) (e : first t ≡ Some c) (l : is_firm c ≡ true) where
  passed_by : Bool → Bool → Bool → Bool → Option Passing
  passed_by opens spaced space number =
      if opens then Some note else if spaced && space then Some between else if spaced && number then Some comment else None

  stays : (spaced : Bool) → passed_by false spaced false false ≡ None
  unfolding passed_by
  stays true = refl
  stays false = refl

  goes-none : (spaced : Bool) (u : Text) → goes_on spaced between c u ≡ None
  unfolding passed_by
  goes-none spaced u =
      ap (λ b. passed_by b spaced (is_whitespace c) (c ∈ "#")) opened
      ∙ ap (λ b. passed_by false spaced b (c ∈ "#")) (no-space c l)
      ∙ ap (passed_by false spaced false) (apart c l 35 refl)
      ∙ stays spaced
    where
      opened : begins "(?#" (c ∷ u) ≡ false
      opened = let h = apart c l 40 refl in grind (arith, nat_tests)

  pub pass-firm : (spaced : Bool) → pass spaced between t ≡ Some t
  pass-firm spaced = pass-stops spaced between t c e (goes-none spaced (drop 1 t))

  pub quantifier-firm : quantifier t ≡ None
  quantifier-firm = quantifier-other t c e (apart c l 42 refl) (apart c l 43 refl) (apart c l 63 refl) (apart c l 123 refl)

module _ (t : Text) (c : ℕ) (e : first t ≡ Some c) (l : is_plain c ≡ true) where
  chosen : Bool → Bool → Bool → Bool → Bool → Bool → Bool → Bool → Bool → Next
  chosen b1 b2 b3 b4 b5 b6 b7 b8 b9 =
      if b1 then bar
      else if b2 then closer
      else if b3 then opener
      else if b4 then bracket
      else if b5 then backslash
      else if b6 then dot
      else if b7 then caret
      else if b8 then dollar
      else if b9 then loops
      else plain c

  next-plain : next_char t c ≡ plain c
  unfolding next_char chosen
  next-plain =
      ap (λ b. chosen b (c ∈ ")") (c ∈ "(") (c ∈ "[") (c ∈ "\\") (c ∈ ".") (c ∈ "^") (c ∈ "$") (is_some (quantifier t))) (other c l 124 refl)
      ∙ ap (λ b. chosen false b (c ∈ "(") (c ∈ "[") (c ∈ "\\") (c ∈ ".") (c ∈ "^") (c ∈ "$") (is_some (quantifier t))) (other c l 41 refl)
      ∙ ap (λ b. chosen false false b (c ∈ "[") (c ∈ "\\") (c ∈ ".") (c ∈ "^") (c ∈ "$") (is_some (quantifier t))) (other c l 40 refl)
      ∙ ap (λ b. chosen false false false b (c ∈ "\\") (c ∈ ".") (c ∈ "^") (c ∈ "$") (is_some (quantifier t))) (other c l 91 refl)
      ∙ ap (λ b. chosen false false false false b (c ∈ ".") (c ∈ "^") (c ∈ "$") (is_some (quantifier t))) (other c l 92 refl)
      ∙ ap (λ b. chosen false false false false false b (c ∈ "^") (c ∈ "$") (is_some (quantifier t))) (other c l 46 refl)
      ∙ ap (λ b. chosen false false false false false false b (c ∈ "$") (is_some (quantifier t))) (other c l 94 refl)
      ∙ ap (λ b. chosen false false false false false false false b (is_some (quantifier t))) (other c l 36 refl)
      ∙ ap (λ o. chosen false false false false false false false false (is_some o)) (quantifier-firm t c e (plain-firm c l))

  pub next-plainly : next_of t ≡ plain c
  next-plainly = next-some t c e ∙ next-plain

first-of : (t rest : Text) (c : ℕ) → t ≡ c ∷ rest → first t ≡ Some c
unfolding first
first-of t rest c e = ap (λ (u : Text). slice_get u 0) e

-- a plain character before one that is no quantifier, and is not passed over, stands for itself
pub plain-stands : (t rest : Text) (c : ℕ) → t ≡ c ∷ rest → is_plain c ≡ true
    → (o : Option ℕ) → first rest ≡ o → option_map_or is_firm o true ≡ true → BeginsPlainly t c rest
plain-stands t rest c e l None f h = record {
  letters = e;
  before = pass-firm t c (first-of t rest c e) (plain-firm c l);
  next = next-plainly t c (first-of t rest c e) l;
  behind = λ spaced. pass-between_end spaced rest f;
  once = quantifier-none rest f;
}
plain-stands t rest c e l (Some d) f h = record {
  letters = e;
  before = pass-firm t c (first-of t rest c e) (plain-firm c l);
  next = next-plainly t c (first-of t rest c e) l;
  behind = pass-firm rest d f h;
  once = quantifier-firm rest d f h;
}

-- -- The bits of characters

pub is_bit : (n x : ℕ) → (bit_and (n / 2 ^ x) 1 == 1) ≡ (bit_at n x == 1)
is_bit n x = ap (λ m. m == 1) (shr_and_one n x)

below-or-not : (x : ℕ) (p : ℕ → Bool) (bits : ℕ) → ((k : ℕ) → k < 128 → (bit_at bits k == 1) ≡ p k) → (p x ≡ true → x < 128)
    → (nat_lt x 128 && (bit_at bits x == 1)) ≡ p x
below-or-not x p bits h l = by_test (nat_lt x 128) refl
  where
    beyond : (t : Bool) → p x ≡ t → nat_lt x 128 ≡ false → false ≡ p x
    beyond true e f = let k = l e in grind (arith, nat_tests)
    beyond false e f = sym e

    by_test : (t : Bool) → nat_lt x 128 ≡ t → (nat_lt x 128 && (bit_at bits x == 1)) ≡ p x
    by_test true e = let k : x < 128 = ltb-true x 128 e in ap (λ b. b && (bit_at bits x == 1)) e ∙ h x k
    by_test false e = ap (λ b. b && (bit_at bits x == 1)) e ∙ beyond (p x) refl e

pub plain_bits : (x : ℕ) → (nat_lt x 128 && (bit_at 0x47ff_fffe_87ff_ffff_7fff_b0e6_0000_0000 x == 1)) ≡ is_plain x
unfolding tables
plain_bits x =
    below-or-not x is_plain 0x47ff_fffe_87ff_ffff_7fff_b0e6_0000_0000
    (λ k l. same_from_beq _ _ (all_below-at (λ c. beq (bit_at 0x47ff_fffe_87ff_ffff_7fff_b0e6_0000_0000 c == 1) (is_plain c)) 128 k refl l))
    (λ e. grind (arith, nat_tests))

pub firm_bits : (x : ℕ) → (nat_lt x 128 && (bit_at 0x57ff_fffe_dfff_ffff_7fff_f2f6_0000_0000 x == 1)) ≡ is_firm x
unfolding tables
firm_bits x =
    below-or-not x is_firm 0x57ff_fffe_dfff_ffff_7fff_f2f6_0000_0000
    (λ k l. same_from_beq _ _ (all_below-at (λ c. beq (bit_at 0x57ff_fffe_dfff_ffff_7fff_f2f6_0000_0000 c == 1) (is_firm c)) 128 k refl l))
    (λ e. grind (arith, nat_tests))
