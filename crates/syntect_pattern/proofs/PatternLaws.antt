-- What a search of a pattern's text finds.
use Rattle.std.proofs.Common.{◌≡◌, ℕ, List, refl, Option, Some, None}
use Rattle.std.specs.Prelude.{IsUtf8, option_and_then}
use Rattle.syntect_pattern.specs.Trees.{Tree}
use Rattle.syntect_pattern.specs.Matches.{Groups, found}
use Rattle.syntect_pattern.specs.Pattern.{pattern_tree}
use Rattle.syntect_pattern.specs.Found.{GroupsLie, FindsPatternMatches}
use Rattle.syntect_pattern.proofs.FoundLaws.{finds_matches}

found-of : (pattern s : List ℕ) (from : ℕ) (g : Groups) (o : Option Tree) → IsUtf8 s → pattern_tree pattern ≡ o → option_and_then (λ tree. found s tree from) o ≡ Some g → GroupsLie pattern s from g
found-of pattern s from g None u r e = cc
found-of pattern s from g (Some tree) u r e = record { tree = tree; reads = r; is_match = finds_matches s tree from g u e }

pub finds_pattern_matches : FindsPatternMatches
finds_pattern_matches pattern s from g u e = found-of pattern s from g (pattern_tree pattern) u refl e
