-- Which patterns of a turn's chain are out, since the first match that they have
-- in it doesn't count.
use Rattle.std.specs.Prelude.{◌≡◌, ◌≢◌, ℕ, Bool, true, false, List, [], slice_index_or}

-- whether the pattern at an index is out, by the marks of its part
abbrev pub is_lost : List Bool → ℕ → Bool
is_lost marks index = slice_index_or marks index false

-- the marks of the part with this number
abbrev pub marks_of : List (List Bool) → ℕ → List Bool
marks_of losses part = slice_index_or losses part []

-- the pattern at the index is out, and each other one is if it was before
pub record LosesAt (index : ℕ) (old new : List Bool) : Type 0 where
  pub here : is_lost new index ≡ true
  pub others : (k : ℕ) → k ≢ index → is_lost new k ≡ is_lost old k

-- so it is in one part, and the marks of all others stay
pub record LosesOf (part index : ℕ) (old new : List (List Bool)) : Type 0 where
  pub here : LosesAt index (marks_of old part) (marks_of new part)
  pub others : (k : ℕ) → k ≢ part → marks_of new k ≡ marks_of old k

-- ---- For proofs and private functions alone ----

-- nothing changes but the marks of one part
abbrev pub LosesInPart : ℕ → List (List Bool) → List (List Bool) → Type 0
LosesInPart part old new = (k : ℕ) → k ≢ part → marks_of new k ≡ marks_of old k

-- nothing changes but whether the pattern at an index of one part is out
pub record LosesAtMost (part index : ℕ) (old new : List (List Bool)) : Type 0 where
  pub others : (k : ℕ) → k ≢ index → is_lost (marks_of new part) k ≡ is_lost (marks_of old part) k
  pub parts : LosesInPart part old new
