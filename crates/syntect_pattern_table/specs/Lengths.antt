-- How many bytes the matches of a tree read.
use Rattle.std.specs.Prelude.{◌≡◌, ◌+◌, ◌<◌, ℕ, true, nat_le, List, Option, Some, length, slice_index_or}
use Rattle.std.specs.List.{list_all}
use Rattle.syntect_pattern.specs.Trees.{Tree, nothing}
use Rattle.syntect_pattern.specs.Matches.{Groups, matches}
use Rattle.syntect_pattern_table.specs.declared.lengths.Lengths.{Lengths}

-- each match of the tree reads at least so many bytes
abbrev pub ReadsLeast : Tree → ℕ → Type 0
ReadsLeast t n = (s : List ℕ) (i : ℕ) (g : Groups)
    → list_all (λ m. nat_le (i + n) m.0) (matches s t i g) ≡ true

-- each match of the tree reads at most so many bytes
abbrev pub ReadsMost : Tree → ℕ → Type 0
ReadsMost t n = (s : List ℕ) (i : ℕ) (g : Groups)
    → list_all (λ m. nat_le m.0 (i + n)) (matches s t i g) ≡ true

-- the same of both numbers, if there is a greatest one
pub record HasLengths (t : Tree) (l : Lengths) : Type 0 where
  pub least : ReadsLeast t l.least
  pub most : (n : ℕ) → l.most ≡ Some n → ReadsMost t n

-- so long are the matches of these trees
abbrev pub AreLengths : List Lengths → List Tree → Type 0
AreLengths ls ts = (k : ℕ) (d : Lengths) → k < length ls
    → HasLengths (slice_index_or ts k nothing) (slice_index_or ls k d)

-- ---- For proofs and private functions alone ----

-- both limits are known, and the number is made of them
pub record IsMadeOf (f : ℕ → ℕ → ℕ) (a b : Option ℕ) (n : ℕ) : Type 0 where
  pub first : ℕ
  pub second : ℕ
  pub first_is : a ≡ Some first
  pub second_is : b ≡ Some second
  pub is : n ≡ f first second
