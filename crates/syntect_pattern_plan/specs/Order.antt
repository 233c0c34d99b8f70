-- The order in which the cells of a plan are gone through at a place: the lowest first.
use Rattle.std.specs.Prelude.{◌≡◌, ℕ, zero, suc, ◌-◌, ◌^◌, min, List, [], ◌∷◌, ◌++◌, slice_index_or}
use Rattle.syntect_pattern_plan.specs.syntect_pattern.Trees.{Tree, nothing}
use Rattle.syntect_pattern_plan.specs.Cells.{height, tree_size}
use Rattle.syntect_pattern_plan.specs.declared.cells.Cell.{Cell}

-- the number, as far as 64 bits hold it
unfoldable pub in_64_bits : ℕ → ℕ
in_64_bits n = min n (2 ^ 64 - 1)

-- the cells below the number, each after its height
abbrev pub levels : List Tree → List Cell → ℕ → List (ℕ × ℕ)
levels ts cells zero = []
levels ts cells (suc k) = levels ts cells k ++ (in_64_bits (height ts cells k), k) ∷ []

-- ---- For proofs and private functions alone ----

-- these are the sizes of the trees
abbrev pub AreSizes : List ℕ → List Tree → Type 0
AreSizes sizes ts = (n : ℕ)
    → slice_index_or sizes n 1 ≡ in_64_bits (tree_size (slice_index_or ts n nothing))

-- these are the numbers, as far as 64 bits hold them
abbrev pub AreCapped : List ℕ → List ℕ → Type 0
AreCapped numbers heights = (n : ℕ)
    → slice_index_or numbers n 0 ≡ in_64_bits (slice_index_or heights n 0)
