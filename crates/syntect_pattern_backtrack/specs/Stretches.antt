-- Stretches of ASCII characters that a loop reads.
use Rattle.std.specs.Prelude.{◌≡◌, ℕ, ◌≤◌, ◌<◌, true, false, List, length, slice_index}
use Rattle.syntect_pattern_backtrack.specs.syntect_pattern.Sets.{Set, holds}
use Rattle.syntect_pattern_backtrack.specs.syntect_pattern.Trees.{Tree, one_of}

-- ---- For proofs and private functions alone ----

-- ASCII characters of the set stand from the one place to the other, and none of the set comes
-- after them
pub record IsStretch (s : List ℕ) (a : Set) (from to : ℕ) : Type 0 where
  pub rises : from ≤ to
  pub within : to ≤ length s
  pub ascii : (k : ℕ) → from ≤ k → k < to → slice_index s k < 128
  pub held : (k : ℕ) → from ≤ k → k < to → holds a (slice_index s k) ≡ true
  pub stops : to < length s → (slice_index s to < 128) × (holds a (slice_index s to) ≡ false)

-- the same of a tree that reads one character
pub record IsStretchOf (s : List ℕ) (tree : Tree) (from to : ℕ) : Type 0 where
  pub set : Set
  pub is : tree ≡ one_of set
  pub stretch : IsStretch s set from to
