-- Trees whose matches begin where a line does.
use Rattle.std.specs.Prelude.{◌≡◌, ℕ, false, List, []}
use Rattle.syntect_pattern_backtrack.specs.syntect_pattern.Trees.{Tree}
use Rattle.syntect_pattern_backtrack.specs.syntect_pattern.declared.anchor.Anchor.{Anchor}
use Rattle.syntect_pattern_backtrack.specs.syntect_pattern.Matches.{Groups, matches, anchor_holds}

-- ---- For proofs and private functions alone ----

-- the tree has no match but where a line begins
abbrev pub IsAtLines : Tree → Type 0
IsAtLines tree = (s : List ℕ) (place : ℕ) (g : Groups) → anchor_holds s Anchor.LineStart place ≡ false
    → matches s tree place g ≡ []
