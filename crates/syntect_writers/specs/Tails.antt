-- A text that is written after another one.
use Rattle.std.specs.Prelude.{ℕ, List}

-- ---- For proofs and private functions alone ----

-- the text in front, and what is written after it
pub record Written : Type 0 where
  pub front : List ℕ
  pub back : List ℕ
