-- The pairs of characters that simple folding makes equal.
use Rattle.std.specs.Prelude.{ℕ, ◌≤◌, ◌<◌, List, length, slice_index_or}

-- ---- For proofs and private functions alone ----

-- the first part of no pair is below that of one before it
abbrev pub NoneFalls : List (ℕ × ℕ) → Type 0
NoneFalls ps = (i j : ℕ) → i ≤ j → j < length ps
    → (slice_index_or ps i (0, 0)).0 ≤ (slice_index_or ps j (0, 0)).0
