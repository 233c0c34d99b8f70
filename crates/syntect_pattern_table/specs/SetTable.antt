-- The sets of a table of parts, each of which comes after those that it is made of.
use Rattle.std.specs.Prelude.{◌≡◌, ℕ, ◌<◌, ◌≤◌, Bool, true, false, ◌&&◌, ◌||◌, ◌==◌, nat_le, nat_lt, List, [], ◌∷◌, ◌++◌, length, slice_index_or}
use Rattle.std.specs.Int.{bit_at}
use Rattle.syntect_pattern.specs.Sets.{Set, none, range, alike, either, both, negated, is_within, holds}
use Rattle.syntect_pattern.specs.NamedSets.{set_of_named}
use Rattle.syntect_pattern_table.specs.declared.sets.Part.{Part}
use Rattle.syntect_pattern_table.specs.declared.sets.Parts.{Parts}

-- the set of a part, from those of the parts before it
abbrev pub part_set : List Set → Part → Set
part_set before Part.Nothing = none
part_set before (Part.Range low high) = range low high
part_set before (Part.Alike low high) = alike low high
part_set before (Part.Named n) = set_of_named n
part_set before (Part.Negated a) = negated (slice_index_or before a none)
part_set before (Part.Either a b) =
    either (slice_index_or before a none) (slice_index_or before b none)
part_set before (Part.Both a b) = both (slice_index_or before a none) (slice_index_or before b none)

-- the sets of the parts before, and then that of each part in turn
abbrev pub sets_from : List Set → List Part → List Set
sets_from before [] = before
sets_from before (p ∷ ps) = sets_from (before ++ part_set before p ∷ []) ps

-- the set of each part
unfoldable pub sets : List Part → List Set
sets = sets_from []

-- the set of the part at the place
abbrev pub set_in : List Part → ℕ → Set
set_in parts k = slice_index_or (sets parts) k none

-- the parts of a class
abbrev pub listed : Parts → List Part
listed (Parts.One part) = part ∷ []
listed (Parts.Several parts) = parts

-- what the part is made of stands before the place
abbrev pub made_before : ℕ → Part → Bool
made_before k Part.Nothing = true
made_before k (Part.Range low high) = true
made_before k (Part.Alike low high) = true
made_before k (Part.Named n) = true
made_before k (Part.Negated a) = nat_lt a k
made_before k (Part.Either a b) = nat_lt a k && nat_lt b k
made_before k (Part.Both a b) = nat_lt a k && nat_lt b k

-- each part comes after those that it is made of
abbrev pub AreOrdered : List Part → Type 0
AreOrdered parts = (k : ℕ) → k < length parts
    → made_before k (slice_index_or parts k Part.Nothing) ≡ true

-- a bit for each ASCII character, whether it is in the set
abbrev pub AreFlags : ℕ → Set → Type 0
AreFlags bits a = (x : ℕ) → x < 128 → (bit_at bits x == 1) ≡ holds a x

-- the range holds `K`, `S`, `k` or `s`: simple folding makes these alone of ASCII equal to a
-- character beyond it
abbrev pub folds_beyond : ℕ → ℕ → Bool
folds_beyond low high = is_within low high 0x4B
    || (is_within low high 0x53 || (is_within low high 0x6B || is_within low high 0x73))

-- whether the set can hold a character beyond ASCII, as far as its form tells
abbrev pub is_wide : Set → Bool
is_wide none = false
is_wide (range low high) = nat_le 128 high
is_wide (alike low high) = nat_le 128 high || folds_beyond low high
is_wide (either a b) = is_wide a || is_wide b
is_wide (both a b) = is_wide a && is_wide b
is_wide a = true

-- ---- For proofs and private functions alone ----

-- more parts, after those that were there
pub record SetsGrow (old new : List Part) : Type 0 where
  pub longer : length old ≤ length new
  pub kept : (k : ℕ) → k < length old → set_in new k ≡ set_in old k

-- the place has this set
pub record HasSet (parts : List Part) (k : ℕ) (a : Set) : Type 0 where
  pub inside : k < length parts
  pub is : set_in parts k ≡ a

-- of each set the bit of this character
abbrev pub AreBits : ℕ → List ℕ → List Set → Type 0
AreBits x bits ss = (k : ℕ) (d : ℕ) → k < length bits
    → (bit_at (slice_index_or bits k d) x == 1) ≡ holds (slice_index_or ss k none) x
