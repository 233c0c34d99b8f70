-- Patterns that refer to the groups of the match that opened their context.
use Rattle.std.specs.Prelude.{◌≡◌, ℕ, ◌-◌, Bool, true, false, List, [], ◌∷◌, ◌++◌, take, drop, chars, encode_utf8, Option, Some, if◌then◌else◌, ◌==◌, IsCharBoundary}
use Rattle.std.specs.Option.{option_map_or, option_flatten}
use Rattle.std.specs.List.{slice_get}
use Rattle.std.specs.Char.{is_ascii_digit}
use Rattle.syntect_regex.specs.Escape.{escaped}

-- where each group of a match stands, the whole match as group 0
abbrev pub Groups : Type 0
Groups = List (Option (ℕ × ℕ))

-- the match that opened a context: where its groups stand, and its line
pub record Opening : Type 0 where
  pub region : Groups
  pub line : List ℕ

-- each group begins and ends on a character boundary of the text
abbrev pub AreOnBoundaries : List ℕ → Groups → Type 0
AreOnBoundaries text groups = (n : ℕ) (at : ℕ × ℕ) → slice_get groups n ≡ Some (Some at)
    → IsCharBoundary text at.0 × IsCharBoundary text at.1

-- the text of a group, nothing if it was not set
abbrev pub group_text : Groups → List ℕ → ℕ → List ℕ
group_text groups line n =
    option_map_or (λ at. take (at.1 - at.0) (drop at.0 line))
    (option_flatten (slice_get groups n)) []

-- what stands for a backslash and this character: with a digit the escaped text of the group of
-- that number, else they stay
abbrev pub escape_replacement : Groups → List ℕ → ℕ → List ℕ
escape_replacement groups line c =
    if is_ascii_digit c then escaped (group_text groups line (c - 48)) else 92 ∷ encode_utf8 c

-- the characters of a pattern, replaced where a backslash stands before them that isn't itself
-- escaped; the flag says that one does
abbrev pub substituted_from : Groups → List ℕ → Bool → List ℕ → List ℕ
substituted_from groups line false [] = []
substituted_from groups line true [] = 92 ∷ []
substituted_from groups line false (c ∷ rest) =
    (if c == 92 then [] else encode_utf8 c) ++ substituted_from groups line (c == 92) rest
substituted_from groups line true (c ∷ rest) =
    escape_replacement groups line c ++ substituted_from groups line false rest

-- the text of a pattern with the groups of a match in this line for its references
abbrev pub substituted : List ℕ → Groups → List ℕ → List ℕ
substituted pattern groups line = substituted_from groups line false (chars pattern)
