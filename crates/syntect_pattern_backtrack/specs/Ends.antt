-- How a search ends.
use Rattle.std.specs.Prelude.{Bool, true, false}
use Rattle.syntect_pattern_backtrack.specs.declared.state.Next.{Next}

-- ---- For proofs and private functions alone ----

-- the search has found a match
abbrev pub is_found : Next → Bool
is_found Next.Found = true
is_found _ = false
