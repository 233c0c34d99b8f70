-- What the texts of colours, of flags and of ways of underlining mean.
use Rattle.std.specs.Prelude.{ℕ, ◌+◌, ◌-◌, ◌*◌, ◌==◌, nat_le, ◌&&◌, List, [], ◌∷◌, codes, if◌then◌else◌, Option, Some, None, is_some, bit_or, Result, Ok, Err}
use Rattle.std.specs.Str.{bytes_eq}
use Rattle.syntect_theme.specs.syntect_scope.Words.{words}
use Rattle.syntect_base.specs.declared.theme.ParseThemeError.{ParseThemeError}
use Rattle.syntect_base.specs.declared.theme.ParseThemeError.TheVariants as error
use Rattle.syntect_theme.specs.Flags.{flags}
use Rattle.syntect_theme.specs.declared.style.Color.{Color}
use Rattle.syntect_theme.specs.declared.style.FontStyle.{FontStyle}
use Rattle.syntect_theme.specs.declared.theme.UnderlineOption.{UnderlineOption}
use Rattle.syntect_theme.specs.declared.theme.UnderlineOption.TheVariants.{Underline, StippledUnderline, SquigglyUnderline}

-- ---- underlining ----

abbrev pub underline_of : List ℕ → Option UnderlineOption
underline_of text =
    if bytes_eq text (codes "underline") then Some Underline
    else if bytes_eq text (codes "stippled_underline") then Some StippledUnderline
    else if bytes_eq text (codes "squiggly_underline") then Some SquigglyUnderline
    else None

-- ---- colours ----

-- the value of a hexadecimal digit
abbrev pub hex_value : ℕ → Option ℕ
hex_value b =
    if nat_le 48 b && nat_le b 57 then Some (b - 48)
    else if nat_le 97 b && nat_le b 102 then Some (b - 87)
    else if nat_le 65 b && nat_le b 70 then Some (b - 55)
    else None

-- the number of two digits
abbrev pub pair_value : Option ℕ → Option ℕ → Option ℕ
pair_value (Some high) (Some low) = Some (high * 16 + low)
pair_value (Some high) None = None
pair_value None low = None

abbrev pub color_from : Option ℕ → Option ℕ → Option ℕ → Option ℕ → Option Color
color_from (Some r) (Some g) (Some b) (Some a) = Some (record { r = r; g = g; b = b; a = a })
color_from (Some r) (Some g) (Some b) None = None
color_from (Some r) (Some g) None a = None
color_from (Some r) None b a = None
color_from None g b a = None

-- the number of two digits' bytes
abbrev pub byte_value : ℕ → ℕ → Option ℕ
byte_value high low = pair_value (hex_value high) (hex_value low)

-- three digits, one for each part; six, two for each part; or eight, with two for how opaque it is
abbrev pub color_of_digits : List ℕ → Option Color
color_of_digits (r ∷ g ∷ b ∷ []) = color_from (hex_value r) (hex_value g) (hex_value b) (Some 255)
color_of_digits (r ∷ s ∷ g ∷ h ∷ b ∷ c ∷ []) =
    color_from (byte_value r s) (byte_value g h) (byte_value b c) (Some 255)
color_of_digits (r ∷ s ∷ g ∷ h ∷ b ∷ c ∷ a ∷ d ∷ []) =
    color_from (byte_value r s) (byte_value g h) (byte_value b c) (byte_value a d)
color_of_digits digits = None

-- a number sign, and then digits
abbrev pub color_of : List ℕ → Option Color
color_of [] = None
color_of (mark ∷ digits) = if mark == 35 then color_of_digits digits else None

-- ---- flags ----

-- the bits that a word stands for
abbrev pub word_bits : List ℕ → Option ℕ
word_bits word =
    if bytes_eq word (codes "bold") then Some 1
    else if bytes_eq word (codes "underline") then Some 2
    else if bytes_eq word (codes "italic") then Some 4
    else if bytes_eq word (codes "normal") then Some 0
    else if bytes_eq word (codes "regular") then Some 0
    else None

-- the first word that stands for nothing
abbrev pub wrong_word : List (List ℕ) → Option (List ℕ)
wrong_word [] = None
wrong_word (word ∷ ws) = if is_some (word_bits word) then wrong_word ws else Some word

-- the bits with those of the words
abbrev pub with_words : ℕ → List (List ℕ) → ℕ
with_words bits [] = bits
with_words bits (word ∷ ws) = with_words (with_word bits (word_bits word)) ws
  where
    with_word : ℕ → Option ℕ → ℕ
    with_word bits (Some more) = bit_or bits more
    with_word bits None = bits

-- the flags of a text, or the refusal of its first word that stands for nothing
abbrev pub flags_of_text : List ℕ → Result FontStyle ParseThemeError
flags_of_text text = unless_wrong (wrong_word (words text))
  where
    unless_wrong : Option (List ℕ) → Result FontStyle ParseThemeError
    unless_wrong (Some word) = Err (error.IncorrectFontStyle word)
    unless_wrong None = Ok (flags (with_words 0 (words text)))
