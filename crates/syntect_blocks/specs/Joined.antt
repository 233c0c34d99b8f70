-- The elements of blocks.
use Rattle.std.specs.Prelude.{◌≡◌, ℕ, ◌+◌, ◌<◌, ◌≤◌, List, ◌∷◌, ◌++◌, length}
use Rattle.std.specs.Global.{Vec}
use Rattle.std.specs.List.{flat_map}

-- the elements of all blocks, one block after another
abbrev pub joined : {X : Type 0} → List (Vec X) → List X
joined blocks = flat_map (λ b. b.items) blocks

-- ---- For proofs and private functions alone ----

-- The gap before the element at this index, or after the last, is the one in this block after so
-- many of its elements.
pub record IsGap {X : Type 0} (blocks : List (Vec X)) (index block at : ℕ) : Type 0 where
  pub before : List (Vec X)
  pub here : Vec X
  pub behind : List (Vec X)
  pub parts : blocks ≡ before ++ here ∷ behind
  pub block_is : length before ≡ block
  pub index_is : length (joined before) + at ≡ index
  pub within : at ≤ length here.items

-- The element at this index is the one at this place of this block.
pub record IsPlace {X : Type 0} (blocks : List (Vec X)) (index block at : ℕ) : Type 0 where
  pub gap : IsGap blocks index block at
  pub has : at < length gap.here.items
