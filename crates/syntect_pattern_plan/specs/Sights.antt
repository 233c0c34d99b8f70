-- Where lookbehinds find what they look for.
use Rattle.std.specs.Prelude.{◌≡◌, ℕ, ◌<◌, ◌==◌, Bool, true, false, List, [], length, Option, Some, None, slice_index_or, slice_set, is_some, IsCharBoundary}
use Rattle.syntect_pattern_plan.specs.syntect_pattern.Trees.{Tree, nothing, one_of, anchor}
use Rattle.syntect_pattern_plan.specs.syntect_pattern.Matches.{matches, ending_here}
use Rattle.syntect_pattern_plan.specs.Onward.{Onward, reaches, plain, onward, end_if}

-- the flag that a row has for a place
abbrev pub row_flag : List (List Bool) → ℕ → ℕ → Bool
row_flag rows row place = slice_index_or (slice_index_or rows row []) place false

-- a match of the tree ends at the place
unfoldable pub ends_here : List ℕ → Tree → ℕ → Bool
ends_here s t i = is_some (reaches Some (ending_here s (matches s t) i i []))

module _ (s : List ℕ) (ts : List Tree) where
  -- each row has the places where what a lookbehind looks for ends
  abbrev pub AreSights : List ℕ → List (List Bool) → Type 0
  AreSights behinds sights = (b p : ℕ) → b < length behinds
      → plain (slice_index_or ts (slice_index_or behinds b 0) nothing) ≡ true → IsCharBoundary s p
      → row_flag sights b p ≡ ends_here s (slice_index_or ts (slice_index_or behinds b 0) nothing) p

-- ---- For proofs and private functions alone ----

-- the one place alone
abbrev pub only_at : ℕ → Onward
only_at j e = end_if (e == j) (Some e)

-- a match of the tree goes from the one place to the other
unfoldable pub leads_to : List ℕ → Tree → ℕ → ℕ → Bool
leads_to s t q j = is_some (onward s t (only_at j) q)

-- the flag of a place
abbrev pub flag_of : List Bool → ℕ → Bool
flag_of row place = slice_index_or row place false

-- the row has the places where matches end that begin in the other row
pub record IsImage (s : List ℕ) (t : Tree) (before row : List Bool) : Type 0 where
  pub sound : (j : ℕ) → flag_of row j ≡ true
      → (q : ℕ) × (flag_of before q ≡ true) × (leads_to s t q j ≡ true)
  pub complete : (q j : ℕ) → flag_of before q ≡ true → leads_to s t q j ≡ true
      → flag_of row j ≡ true

-- characters begin at all places of the row, or the text ends there
abbrev pub AreBounds : List ℕ → List Bool → Type 0
AreBounds s row = (q : ℕ) → flag_of row q ≡ true → IsCharBoundary s q

-- the row with one more place
abbrev pub with_place : List Bool → Option ℕ → List Bool
with_place row None = row
with_place row (Some p) = slice_set row p true

-- the tree has at most one match from each place, and no parts
abbrev pub is_single : Tree → Bool
is_single nothing = true
is_single (one_of a) = true
is_single (anchor a) = true
is_single _ = false

-- where such a tree's match ends
unfoldable pub single_end : List ℕ → Tree → ℕ → Option ℕ
single_end s t q = onward s t Some q
