-- Identifiers of CSS.
use Rattle.std.specs.Prelude.{ℕ, ◌==◌, Bool, true, false, not, ◌&&◌, ◌||◌, List, [], ◌∷◌, ◌++◌, chars, if◌then◌else◌}
use Rattle.std.specs.Char.{is_ascii_alphabetic, is_ascii_digit}
use Rattle.std.specs.Fmt.{digits}
use Rattle.std.specs.List.{flat_map}

-- a character stands in an identifier as it is: a letter, a hyphen, an underscore, or a digit that
-- isn't its first character
abbrev pub needs_no_escape : Bool → ℕ → Bool
needs_no_escape first c =
    is_ascii_alphabetic c || ((c == 45) || ((c == 95) || (not first && is_ascii_digit c)))

-- another one is written by its number in hexadecimal digits, after a backslash and before a space
abbrev pub identifier_char : Bool → ℕ → List ℕ
identifier_char first c = if needs_no_escape first c then c ∷ [] else 92 ∷ (digits 16 false c ++ 32 ∷ [])

-- characters one after another as an identifier has them, the first as one that begins it
abbrev pub identifier_chars : List ℕ → List ℕ
identifier_chars [] = []
identifier_chars (c ∷ cs) = identifier_char true c ++ flat_map (identifier_char false) cs

-- a text as an identifier
abbrev pub identifier : List ℕ → List ℕ
identifier text = identifier_chars (chars text)
