-- Texts on one line, and the styles that YAML has for texts.
use Rattle.std.specs.Prelude.{ℕ, ◌+◌, ◌/◌, ◌%◌, Bool, false, not, ◌&&◌, ◌||◌, ◌==◌, nat_lt, nat_le, if◌then◌else◌}
use Rattle.std.specs.Prelude.{List, [], ◌∷◌, ◌++◌, flat_map, slice_index, codes}
use Rattle.std.specs.Char.{is_ascii_alphabetic}
use Rattle.std.specs.List.{list_all, list_any}
use Rattle.std.specs.Str.{str_eq_ignore_ascii_case}

-- a text as it is, in single quotes, in double ones, or over lines
pub data Style : Type 0 where
  plain single_quotes double_quotes literal : Style

-- a control character of ASCII
abbrev pub is_control : ℕ → Bool
is_control c = nat_lt c 32 || c == 127

-- ---- texts as they are

-- a byte that means nothing else inside of a text: printable ASCII, but no mark of keys, comments,
-- lists and maps
abbrev pub is_plain_byte : ℕ → Bool
is_plain_byte c = (nat_le 32 c && nat_lt c 127) && not (list_any (λ d. c == d) (codes ":?#,[]{}"))

-- the last byte is a space
abbrev pub ends_in_space : List ℕ → Bool
ends_in_space [] = false
ends_in_space (c ∷ []) = c == 32
ends_in_space (c ∷ d ∷ s) = ends_in_space (d ∷ s)

-- the text is a word that stands for another value, now or in older YAML, in small letters or
-- capitals
abbrev pub is_reserved : List ℕ → Bool
is_reserved s =
    list_any (λ w. str_eq_ignore_ascii_case s (codes w))
    ("true" ∷ "false" ∷ "null" ∷ "yes" ∷ "no" ∷ "on" ∷ "off" ∷ "y" ∷ "n" ∷ [])

-- the text can stand as it is: it begins with a letter, has such bytes alone, ends with no space
-- and is no such word
abbrev pub is_plain : List ℕ → Bool
is_plain s =
    (is_ascii_alphabetic (slice_index s 0) && list_all is_plain_byte s)
    && (not (ends_in_space s) && not (is_reserved s))

-- ---- texts in quotes

-- the text can stand in single quotes: it has no control character
abbrev pub is_printable : List ℕ → Bool
is_printable s = list_all (λ c. not (is_control c)) s

-- a byte in single quotes: such a quote twice, each other byte as it is
abbrev pub single_byte_text : ℕ → List ℕ
single_byte_text c = if c == 39 then 39 ∷ 39 ∷ [] else c ∷ []

-- the text between single quotes
abbrev pub single_quoted_text : List ℕ → List ℕ
single_quoted_text s = codes "'" ++ (flat_map single_byte_text s ++ codes "'")

-- the hexadecimal digit of a number below 16
abbrev pub hex_digit : ℕ → ℕ
hex_digit n = if nat_lt n 10 then 48 + n else 55 + n

-- a byte in double quotes: such a quote or a backslash after a backslash, a control character by
-- its number in two digits, each other byte as it is
abbrev pub double_byte_text : ℕ → List ℕ
double_byte_text c =
    if c == 34 || c == 92 then 92 ∷ c ∷ []
    else if is_control c then codes "\\x" ++ (hex_digit (c / 16) ∷ hex_digit (c % 16) ∷ [])
    else c ∷ []

-- the text between double quotes
abbrev pub double_quoted_text : List ℕ → List ℕ
double_quoted_text s = codes "\"" ++ (flat_map double_byte_text s ++ codes "\"")

-- a text on one line in a style, or in double quotes where the style can't hold it so
abbrev pub styled_text : Style → List ℕ → List ℕ
styled_text plain s = if is_plain s then s else double_quoted_text s
styled_text single_quotes s = if is_printable s then single_quoted_text s else double_quoted_text s
styled_text double_quotes s = double_quoted_text s
styled_text literal s = double_quoted_text s
