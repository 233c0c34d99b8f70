-- What matches begin with.
use Rattle.std.specs.Prelude.{◌≡◌, ℕ, List, []}
use Rattle.syntect_pattern.specs.Trees.{Tree}
use Rattle.syntect_pattern.specs.Matches.{Groups, matches}

-- the tree has no match at the place, whatever the groups hold
abbrev pub IsDead : List ℕ → ℕ → Tree → Type 0
IsDead s place tree = (g : Groups) → matches s tree place g ≡ []

-- each match of the tree begins with one of the part: where the part has none, the tree has none
abbrev pub BeginsWith : Tree → Tree → Type 0
BeginsWith part tree = (s : List ℕ) (place : ℕ) → IsDead s place part → IsDead s place tree
