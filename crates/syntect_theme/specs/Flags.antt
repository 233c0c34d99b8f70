-- Calculations with flags, by their bits.
use Rattle.std.specs.Prelude.{◌≡◌, ℕ, ◌==◌, nat_le, Bool, true, false, List, [], ◌∷◌, ◌++◌, if◌then◌else◌, Option, Some, None, bit_and, bit_or, decimal, codes}
use Rattle.std.specs.Fmt.{digits}
use Rattle.std.specs.Int.{w8, bit_not}
use Rattle.syntect_theme.specs.declared.style.Color.{Color}
use Rattle.syntect_theme.specs.declared.style.FontStyle.{FontStyle}
use Rattle.syntect_theme.specs.Modifying.{bits_of}

-- the flags of these bits
abbrev pub flags : ℕ → FontStyle
flags bits = record { bits = bits }

-- bold, underline and italic
abbrev pub all_bits : ℕ
all_bits = 7

-- the first bits, but for those that the second have
abbrev pub bits_without : ℕ → ℕ → ℕ
bits_without a b = bit_and a (bit_not w8 b)

-- the flags of these bits, if each bit is a flag's
abbrev pub flags_of_bits : ℕ → Option FontStyle
flags_of_bits bits = if nat_le bits all_bits then Some (flags bits) else None

-- the bits with those of each of the flags
abbrev pub with_flags : ℕ → List FontStyle → ℕ
with_flags bits [] = bits
with_flags bits (f ∷ fs) = with_flags (bit_or bits (bits_of f)) fs

-- the first flags with each of the others are the last
abbrev pub Inserts : FontStyle → List FontStyle → FontStyle → Type 0
Inserts f fs g = bits_of g ≡ with_flags (bits_of f) fs

-- the debug text of a colour
abbrev pub color_text : Color → List ℕ
color_text c =
    codes "Color { r/g/b/a: "
    ++ (decimal c.r ++ (codes "/" ++ (decimal c.g
    ++ (codes "/" ++ (decimal c.b ++ (codes "/" ++ (decimal c.a ++ codes " }")))))))

-- ---- the debug text of flags ----

-- a text that is there, or none
abbrev pub given : Bool → List ℕ → List (List ℕ)
given is_there text = if is_there then text ∷ [] else []

-- these texts, each after a bar
abbrev pub behind_bars : List (List ℕ) → List ℕ
behind_bars [] = []
behind_bars (text ∷ texts) = codes " | " ++ (text ++ behind_bars texts)

-- texts with bars between them, and a word where there are none
abbrev pub between_bars : List (List ℕ) → List ℕ
between_bars [] = codes "(empty)"
between_bars (text ∷ texts) = text ++ behind_bars texts

-- whether each bit of the flag is there
abbrev pub has_flag : ℕ → ℕ → Bool
has_flag bits flag = bit_and bits flag == flag

-- the bits that are no flag's, as a hexadecimal number, if there are any
abbrev pub other_bits : ℕ → List (List ℕ)
other_bits bits =
    if bits_without bits all_bits == 0 then []
    else (codes "0x" ++ digits 16 false (bits_without bits all_bits)) ∷ []

-- the names of the flags, and the other bits
abbrev pub flags_text : FontStyle → List ℕ
flags_text f =
    let bits = bits_of f in
    between_bars (given (has_flag bits 1) (codes "BOLD")
    ++ (given (has_flag bits 2) (codes "UNDERLINE")
    ++ (given (has_flag bits 4) (codes "ITALIC") ++ other_bits bits)))

-- ---- For proofs and private functions alone ----

-- a text if it is there, after a bar unless it is the first
abbrev pub part_text : Bool → Bool → List ℕ → List ℕ
part_text is_first is_there text =
    if is_there then (if is_first then text else codes " | " ++ text) else []

-- the number of bits that are no flag's, after a bar unless it is the first, and a word where there
-- is nothing at all
abbrev pub rest_text : Bool → ℕ → List ℕ
rest_text is_first bits =
    if bits == 0 then (if is_first then codes "(empty)" else [])
    else part_text is_first true (codes "0x" ++ digits 16 false bits)
