-- Nodes of a table at new places, none of which holds letters in a row.
use Rattle.std.specs.Prelude.{◌<◌, ℕ, List, All, length, slice_index_or}
use Rattle.syntect_pattern_plan.specs.syntect_pattern.Trees.{Tree, nothing}
use Rattle.syntect_pattern_plan.specs.syntect_pattern_table.Builder.{Holds}
use Rattle.syntect_pattern_plan.specs.syntect_pattern_table.declared.node.Node.{Node}

-- ---- For proofs and private functions alone ----

-- the new place of the node with the number
abbrev pub place_at : List ℕ → ℕ → ℕ
place_at places n = slice_index_or places n 0

-- each of the places stands before the number
abbrev pub AllBelow : ℕ → List ℕ → Type 0
AllBelow n = All (λ k. k < n)

-- as many of the trees as there are places stand each at its place
abbrev pub ArePlaces : List Tree → List Node → List ℕ → Type 0
ArePlaces ts nodes places = (k : ℕ) → k < length places
    → Holds nodes (place_at places k) (slice_index_or ts k nothing)
