-- What a search of a pattern's text finds.
use Rattle.std.specs.Prelude.{◌≡◌, ℕ, List, Some, IsUtf8}
use Rattle.syntect_pattern.specs.Trees.{Tree}
use Rattle.syntect_pattern.specs.Matches.{Groups}
use Rattle.syntect_pattern.specs.Nesting.{IsMatch}
use Rattle.syntect_pattern.specs.Pattern.{pattern_tree, pattern_found}

-- The groups lie as those of a match of the pattern that begins at the place or later: in the text
-- and on boundaries, and but for those of lookarounds in the match, nested or apart.
pub record GroupsLie (pattern s : List ℕ) (from : ℕ) (g : Groups) : Type 0 where
  pub tree : Tree
  pub reads : pattern_tree pattern ≡ Some tree
  pub is_match : IsMatch s tree from g

-- the law of every search of a pattern in a text
abbrev pub FindsPatternMatches : Type 0
FindsPatternMatches = (pattern s : List ℕ) (from : ℕ) (g : Groups) → IsUtf8 s → pattern_found pattern s from ≡ Some g → GroupsLie pattern s from g
