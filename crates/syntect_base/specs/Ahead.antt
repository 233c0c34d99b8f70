-- What a walk has still to visit.
use Rattle.std.specs.Prelude.{ℕ, List}
use Rattle.syntect_base.specs.declared.utils.Sought.{Sought}

-- these paths, the next one first, and at most so many entries, by a walk that looks for these files
pub record Ahead : Type 0 where
  pub sought : Sought
  pub paths : List (List ℕ)
  pub left : ℕ
