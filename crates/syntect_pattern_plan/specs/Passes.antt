-- How often a text is gone through for lookbehinds.
use Rattle.std.specs.Prelude.{◌≡◌, ℕ, ◌+◌, List, slice_index_or}
use Rattle.syntect_pattern_plan.specs.syntect_pattern.Trees.{Tree, nothing, seq, alt, repeat, group, atomic, ahead, behind}
use Rattle.syntect_pattern_plan.specs.Cells.{tree_size}
use Rattle.syntect_pattern_plan.specs.Order.{in_64_bits}

-- one pass for each node of what a lookbehind looks for: it goes from the places before the node to
-- those after it
abbrev pub passes : Tree → ℕ
passes (seq a b) = passes a + passes b
passes (alt a b) = passes a + passes b
passes (repeat greedy least most a) = passes a
passes (group n a) = passes a
passes (atomic a) = passes a
passes (ahead negated a) = passes a
passes (behind negated a) = tree_size a
passes _ = 0

-- ---- For proofs and private functions alone ----

-- these are the passes of the trees, as far as 64 bits hold them
abbrev pub ArePasses : List ℕ → List Tree → Type 0
ArePasses numbers ts = (n : ℕ)
    → slice_index_or numbers n 0 ≡ in_64_bits (passes (slice_index_or ts n nothing))
