-- Back references in a pattern's text.
use Rattle.std.specs.Prelude.{ℕ, Bool, false, ◌&&◌, ◌||◌, if◌then◌else◌, List, [], ◌∷◌, ◌++◌, slice_index, flat_map, chars, codes}
use Rattle.std.specs.Char.{is_ascii_digit}
use Rattle.unicode.specs.GeneralCategory.{general_category, general_category_eq}
use Rattle.ucd_category.specs.declared.GeneralCategory.TheVariants.{DecimalNumber}
use Rattle.syntect_grammar_rewrite.specs.Cutting.{◌∈◌, first, signs}

-- the sign is a backslash with an ASCII digit
abbrev pub is_reference : List ℕ → Bool
is_reference s = first s ∈ "\\" && is_ascii_digit (slice_index s 1)

-- a reference to a group by a text that stands for what the group will match
abbrev pub tested_sign : List ℕ → List ℕ
tested_sign s = if is_reference s then codes "<placeholder_" ++ (slice_index s 1 ∷ codes ">") else s

-- the text that is tested as a pattern
unfoldable pub tested_text : List ℕ → List ℕ
tested_text t = flat_map tested_sign (signs t)

-- the character is of category Nd
unfoldable pub is_decimal : ℕ → Bool
is_decimal c = general_category_eq (general_category c) DecimalNumber

-- among the characters a backslash stands directly before one of category Nd
abbrev pub has_reference : List ℕ → Bool
has_reference [] = false
has_reference (c ∷ []) = false
has_reference (c ∷ d ∷ rest) = (c ∈ "\\" && is_decimal d) || has_reference (d ∷ rest)

-- the text uses back references
unfoldable pub refers_back : List ℕ → Bool
refers_back t = has_reference (chars t)
