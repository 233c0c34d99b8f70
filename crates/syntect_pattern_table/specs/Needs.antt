-- What a tree has no match without.
use Rattle.std.specs.Prelude.{◌≡◌, ℕ, suc, Bool, false, ◌≤◌, ◌<◌, ◌==◌, ◌&&◌, List, [], IsUtf8, IsCharBoundary}
use Rattle.syntect_pattern.specs.Trees.{Tree}
use Rattle.syntect_pattern.specs.Matches.{Groups, matches}
use Rattle.syntect_pattern_table.specs.Starts.{is_in, start_at}
use Rattle.syntect_pattern_table.specs.declared.needs.Need.{Need}
use Rattle.syntect_pattern_table.specs.declared.needs.TwoNeeds.{TwoNeeds}

-- at the place stands one of the first, and right after it one of the second
abbrev pub has_pair_at : (ℕ → Bool) → (ℕ → Bool) → List ℕ → ℕ → Bool
has_pair_at here next s k = here (start_at s k) && next (start_at s (suc k))

-- so it is nowhere from the place on
abbrev pub IsAbsent : (ℕ → Bool) → (ℕ → Bool) → List ℕ → ℕ → Type 0
IsAbsent here next s i = (k : ℕ) → i ≤ k → has_pair_at here next s k ≡ false

-- a match of the tree needs both at its place or after it, be it only to look ahead
abbrev pub Needs : (ℕ → Bool) → (ℕ → Bool) → Tree → Type 0
Needs here next t =
    (s : List ℕ) (i : ℕ) (g : Groups) → IsUtf8 s → IsCharBoundary s i → IsAbsent here next s i
    → matches s t i g ≡ []

-- what is known of that: nothing, an ASCII character, or one of several characters
abbrev pub MayNeed : Need → Tree → Type 0
MayNeed Need.Unknown t = Unit {0}
MayNeed (Need.Byte byte next) t = (byte < 128) × Needs (λ x. x == byte) (is_in next) t
MayNeed (Need.One here next) t = (here.end ≡ false) × Needs (is_in here) (is_in next) t

-- the same of two
abbrev pub AreNeeded : TwoNeeds → Tree → Type 0
AreNeeded needs t = MayNeed needs.rarest t × MayNeed needs.other t
