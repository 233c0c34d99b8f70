-- Where what a lookbehind looks for can begin.
use Rattle.std.specs.Prelude.{◌≡◌, ℕ, suc, ◌+◌, ◌≤◌, ◌<◌, List, []}
use Rattle.syntect_pattern_backtrack.specs.syntect_pattern.Trees.{Tree}
use Rattle.syntect_pattern_backtrack.specs.syntect_pattern.Matches.{Groups, matches, ending_at}

-- ---- For proofs and private functions alone ----

-- A match of the tree that ends at the place begins at one of n places: this one, `from`, and those
-- right before it.
pub record AreEnough (t : Tree) (place from n : ℕ) : Type 0 where
  pub before : from ≤ place
  pub inside : n ≤ suc from
  pub near : (s : List ℕ) (q : ℕ) (g : Groups) → from < q → ending_at place (matches s t q g) ≡ []
  pub far : (s : List ℕ) (q : ℕ) (g : Groups) → q + n ≤ from
      → ending_at place (matches s t q g) ≡ []
