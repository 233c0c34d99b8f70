-- The ASCII characters of the sets that are met often, each shown by computing.
use Rattle.std.proofs.Common.{◌≡◌, ◌<◌, ◌==◌, ◌||◌, ◌∙◌, ◌⊎◌, inl, inr, ℕ, Bool, true, false, refl, sym, ap}
use Rattle.std.proofs.lemmas.Nat.Bits.{bit_at-zero}
use Rattle.ucd_category.specs.declared.GeneralCategory.{GeneralCategory}
use Rattle.std.specs.Bool.{beq}
use Rattle.std.specs.Int.{bit_at}
use Rattle.std.specs.Char.{is_whitespace}
use Rattle.ucd_table.proofs.Computing.{tables}
use Rattle.ucd_table.proofs.Facts.{Stepped-below, same_from_beq}
use Rattle.ucd_table.proofs.TrieCheck.{all_below-at}
use Rattle.ucd_category.specs.declared.GeneralCategoryGroup.TheVariants.{Letter, Number, Mark}
use Rattle.ucd_category.specs.declared.GeneralCategory.TheVariants.{UppercaseLetter, LowercaseLetter, DecimalNumber, MathSymbol, ConnectorPunctuation, TitlecaseLetter, ModifierLetter, OtherLetter, NonspacingMark, SpacingMark, LetterNumber, OtherSymbol}
use Rattle.ucd_category.proofs.GeneralCategoryLemmas.{general_category_stepped}
use Rattle.unicode.specs.GeneralCategory.{general_category, general_category_eq}
use Rattle.unicode.specs.GeneralCategoryGroup.{in_group}
use Rattle.syntect_pattern.specs.Sets.{is_word, is_word_category}

pub word_bits : (x : ℕ) → x < 128 → (bit_at 0x07ff_fffe_87ff_fffe_03ff_0000_0000_0000 x == 1) ≡ is_word x
unfolding tables general_category_stepped is_word
word_bits x l =
    same_from_beq _ _ (Stepped-below general_category general_category_stepped (λ c k. beq (bit_at 0x07ff_fffe_87ff_fffe_03ff_0000_0000_0000 c == 1) (is_word_category k)) 128 refl x l)

pub letter_bits : (x : ℕ) → x < 128 → (bit_at 0x07ff_fffe_07ff_fffe_0000_0000_0000_0000 x == 1) ≡ in_group Letter (general_category x)
unfolding tables general_category_stepped
letter_bits x l =
    same_from_beq _ _ (Stepped-below general_category general_category_stepped (λ c k. beq (bit_at 0x07ff_fffe_07ff_fffe_0000_0000_0000_0000 c == 1) (in_group Letter k)) 128 refl x l)

pub letter_number_bits : (x : ℕ) → x < 128 → (bit_at 0x07ff_fffe_07ff_fffe_03ff_0000_0000_0000 x == 1) ≡ (in_group Letter (general_category x) || in_group Number (general_category x))
unfolding tables general_category_stepped
letter_number_bits x l =
    same_from_beq _ _ (Stepped-below general_category general_category_stepped (λ c k. beq (bit_at 0x07ff_fffe_07ff_fffe_03ff_0000_0000_0000 c == 1) (in_group Letter k || in_group Number k)) 128 refl x l)

pub number_bits : (x : ℕ) → x < 128 → (bit_at 0x03ff_0000_0000_0000 x == 1) ≡ in_group Number (general_category x)
unfolding tables general_category_stepped
number_bits x l =
    same_from_beq _ _ (Stepped-below general_category general_category_stepped (λ c k. beq (bit_at 0x03ff_0000_0000_0000 c == 1) (in_group Number k)) 128 refl x l)

pub digit_bits : (x : ℕ) → x < 128 → (bit_at 0x03ff_0000_0000_0000 x == 1) ≡ general_category_eq DecimalNumber (general_category x)
unfolding tables general_category_stepped
digit_bits x l =
    same_from_beq _ _ (Stepped-below general_category general_category_stepped (λ c k. beq (bit_at 0x03ff_0000_0000_0000 c == 1) (general_category_eq DecimalNumber k)) 128 refl x l)

pub capital_bits : (x : ℕ) → x < 128 → (bit_at 0x07ff_fffe_0000_0000_0000_0000 x == 1) ≡ general_category_eq UppercaseLetter (general_category x)
unfolding tables general_category_stepped
capital_bits x l =
    same_from_beq _ _ (Stepped-below general_category general_category_stepped (λ c k. beq (bit_at 0x07ff_fffe_0000_0000_0000_0000 c == 1) (general_category_eq UppercaseLetter k)) 128 refl x l)

pub small_bits : (x : ℕ) → x < 128 → (bit_at 0x07ff_fffe_0000_0000_0000_0000_0000_0000 x == 1) ≡ general_category_eq LowercaseLetter (general_category x)
unfolding tables general_category_stepped
small_bits x l =
    same_from_beq _ _ (Stepped-below general_category general_category_stepped (λ c k. beq (bit_at 0x07ff_fffe_0000_0000_0000_0000_0000_0000 c == 1) (general_category_eq LowercaseLetter k)) 128 refl x l)

pub space_bits : (x : ℕ) → x < 128 → (bit_at 0x0001_0000_3e00 x == 1) ≡ is_whitespace x
unfolding tables
space_bits x l = same_from_beq _ _ (all_below-at (λ c. beq (bit_at 0x0001_0000_3e00 c == 1) (is_whitespace c)) 128 x refl l)

pub math_bits : (x : ℕ) → x < 128 → (bit_at 0x5000_0000_0000_0000_7000_0800_0000_0000 x == 1) ≡ general_category_eq MathSymbol (general_category x)
unfolding tables general_category_stepped
math_bits x l =
    same_from_beq _ _ (Stepped-below general_category general_category_stepped (λ c k. beq (bit_at 0x5000_0000_0000_0000_7000_0800_0000_0000 c == 1) (general_category_eq MathSymbol k)) 128 refl x l)

pub connector_bits : (x : ℕ) → x < 128 → (bit_at 0x8000_0000_0000_0000_0000_0000 x == 1) ≡ general_category_eq ConnectorPunctuation (general_category x)
unfolding tables general_category_stepped
connector_bits x l =
    same_from_beq _ _ (Stepped-below general_category general_category_stepped (λ c k. beq (bit_at 0x8000_0000_0000_0000_0000_0000 c == 1) (general_category_eq ConnectorPunctuation k)) 128 refl x l)

pub mark_bits : (x : ℕ) → x < 128 → (bit_at 0 x == 1) ≡ in_group Mark (general_category x)
unfolding tables general_category_stepped
mark_bits x l =
    same_from_beq _ _ (Stepped-below general_category general_category_stepped (λ c k. beq (bit_at 0 c == 1) (in_group Mark k)) 128 refl x l)

-- categories of which no ASCII character is
abbrev is_beyond : GeneralCategory → Bool
is_beyond k = general_category_eq TitlecaseLetter k || (general_category_eq ModifierLetter k || (general_category_eq OtherLetter k || (general_category_eq NonspacingMark k || (general_category_eq SpacingMark k || (general_category_eq LetterNumber k || general_category_eq OtherSymbol k)))))

none_beyond : (x : ℕ) → x < 128 → is_beyond (general_category x) ≡ false
unfolding tables general_category_stepped
none_beyond x l =
    same_from_beq _ _ (Stepped-below general_category general_category_stepped (λ c k. beq (is_beyond k) false) 128 refl x l)

neither : (a b : Bool) → (a || b) ≡ false → (a ≡ false) × (b ≡ false)
neither true b e = cc
neither false b e = (refl, e)

module _ (k g : GeneralCategory) where
  is_not : (m : GeneralCategory) → general_category_eq m g ≡ false → k ≡ m → general_category_eq k g ≡ false
  is_not m h e = ap (λ n. general_category_eq n g) e ∙ h

  either_not : (m : GeneralCategory) {P : Type 0} (rest : Bool) → (rest ≡ false → P → general_category_eq k g ≡ false) → (general_category_eq m g || rest) ≡ false → (k ≡ m) ⊎ P
      → general_category_eq k g ≡ false
  either_not m rest f h (inl e) = is_not m (neither (general_category_eq m g) rest h).0 e
  either_not m rest f h (inr p) = f (neither (general_category_eq m g) rest h).1 p

pub no_bits : (k : GeneralCategory) → (k ≡ TitlecaseLetter) ⊎ ((k ≡ ModifierLetter) ⊎ ((k ≡ OtherLetter) ⊎ ((k ≡ NonspacingMark) ⊎ ((k ≡ SpacingMark) ⊎ ((k ≡ LetterNumber) ⊎ (k ≡ OtherSymbol))))))
    → (x : ℕ) → x < 128 → (bit_at 0 x == 1) ≡ general_category_eq k (general_category x)
no_bits k is x l =
    let g : GeneralCategory = general_category x in
    ap (λ n. n == 1) (bit_at-zero x) ∙ sym (either_not k g TitlecaseLetter _ (either_not k g ModifierLetter _ (either_not k g OtherLetter _ (either_not k g NonspacingMark _ (either_not k g SpacingMark _ (either_not k g LetterNumber _ (is_not k g OtherSymbol)))))) (none_beyond x l) is)
