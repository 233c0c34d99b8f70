-- The plan of a pattern: its cells, and the cells of their parts.
use Rattle.std.specs.Prelude.{◌≡◌, ◌⊎◌, ℕ, zero, suc, ◌+◌, ◌-◌, ◌*◌, ◌<◌, ◌≤◌, if◌then◌else◌, Bool, true, false, List, length, Option, Some, None, option_map, slice_index_or}
use Rattle.syntect_pattern_plan.specs.syntect_pattern.Trees.{Tree, nothing, seq, alt, repeat, group, atomic, ahead, behind}
use Rattle.syntect_pattern_plan.specs.Onward.{reads, is_free}
use Rattle.syntect_pattern_plan.specs.Cells.{last_cell, cell_at, parts_at, cell_tree, item_tree, is_end}
use Rattle.syntect_pattern_plan.specs.declared.cells.CellPart.{CellPart}
use Rattle.syntect_pattern_plan.specs.declared.cells.Cell.{Cell}
use Rattle.syntect_pattern_plan.specs.declared.cells.Parts.{Parts}

-- how many cells a loop takes, by those of a turn: one for itself, and one more for each turn that
-- is counted
abbrev pub loop_cells : ℕ → ℕ → Option ℕ → ℕ
loop_cells w least (Some most) = suc (most * suc w)
loop_cells w zero None = suc w
loop_cells w (suc least) None = suc (suc least * suc w)

-- how many cells a tree takes, which may read nothing, for what else goes on at its place than
-- after it, besides those that it takes where the same goes on; a part that reads takes none
abbrev pub others : Tree → ℕ
others (seq a b) = suc ((if reads a then 0 else others a) + (if reads b then 0 else others b))
others (alt a b) = suc ((if reads a then 0 else others a) + (if reads b then 0 else others b))
others (repeat greedy least (Some zero) a) = 1
others (repeat greedy least most a) = suc (if reads a then 0 else others a)
others (group n a) = suc (if reads a then 0 else others a)
others _ = 1

-- the same of any tree
abbrev pub others_of : Tree → ℕ
others_of t = if reads t then 0 else others t

-- how many cells a tree takes where the same goes on at its place and after it
abbrev pub cells_of : Tree → ℕ
cells_of (seq a b) = suc (cells_of a + cells_of b)
cells_of (alt a b) = suc (cells_of a + cells_of b)
cells_of (repeat greedy least most a) = loop_cells (cells_of a + others_of a) least most
cells_of (group n a) = suc (cells_of a)
cells_of (atomic a) = suc (cells_of a)
cells_of (ahead negated a) = suc (cells_of a)
cells_of _ = 1

-- how many cells a pattern takes
abbrev pub plan_cells : Tree → ℕ
plan_cells t = suc (cells_of t)

-- The pattern has no plan of at most so many cells: it has a back reference, or a lookbehind looks
-- for what isn't plain or sets groups, or a lookahead in a loop of more turns than one sets groups,
-- or it takes more cells.
abbrev pub IsHard : ℕ → Tree → Type 0
IsHard most t = (is_free t ≡ false) ⊎ (most < plan_cells t)

-- it has one
pub record IsEasy (most : ℕ) (t : Tree) : Type 0 where
  pub free : is_free t ≡ true
  pub few : plan_cells t ≤ most

-- cell 0 is the end, each other one comes after those that go on, and the trees are free
pub record AreCells (ts : List Tree) (cells : List Cell) : Type 0 where
  pub some : 0 < length cells
  pub last : cell_at cells 0 ≡ last_cell
  pub empty : (k : ℕ) → 0 < k → k < length cells → (cell_at cells k).empty < k
  pub next : (k : ℕ) → 0 < k → k < length cells → (cell_at cells k).next < k
  pub free : (k : ℕ) → is_free (cell_tree ts cells k) ≡ true

-- the cell has the item and these that go on; an item that reads has the second one alone
pub record IsCell (ts : List Tree) (cells : List Cell) (k : ℕ) (item : CellPart) (f g : ℕ)
    : Type 0 where
  pub inside : k < length cells
  pub item_is : (cell_at cells k).item ≡ item
  pub next_is : (cell_at cells k).next ≡ g
  pub empty_is : reads (item_tree ts item) ≡ false → (cell_at cells k).empty ≡ f

-- the same by the tree of the item
pub record IsPart (ts : List Tree) (cells : List Cell) (k : ℕ) (t : Tree) (f g : ℕ) : Type 0 where
  pub item : CellPart
  pub real : is_end item ≡ false
  pub cell : IsCell ts cells k item f g
  pub tree : item_tree ts item ≡ t

-- one part after the other
pub record IsSequence (ts : List Tree) (cells : List Cell) (f g first : ℕ) (a b : Tree)
    : Type 0 where
  pub at : ℕ
  pub behind_it : ℕ
  pub first_is : IsPart ts cells first a at behind_it
  pub second_is : IsPart ts cells behind_it b g g
  pub again_is : reads a ≡ false → IsPart ts cells at b f g

-- the loop after a turn
abbrev pub loop_behind : Bool → ℕ → Option ℕ → Tree → Tree
loop_behind greedy least most a = repeat greedy (least - 1) (option_map (λ k. k - 1) most) a

-- a turn of a loop: what reads nothing leaves it, and after it the loop goes on
pub record IsTurn (ts : List Tree) (cells : List Cell) (f g first : ℕ) (greedy : Bool)
    (least : ℕ) (most : Option ℕ) (a : Tree) : Type 0 where
  pub more : ℕ
  pub first_is : IsPart ts cells first a f more
  pub more_is : IsPart ts cells more (loop_behind greedy least most a) g g

-- what holds of a turn, where there may be one
abbrev pub TurnIs : Option ℕ → Type 0 → Type 0
TurnIs (Some zero) P = Unit {0}
TurnIs _ P = P

-- the lookbehind with the number looks for the tree
pub record LooksFor (ts : List Tree) (behinds : List ℕ) (k : ℕ) (a : Tree) : Type 0 where
  pub inside : k < length behinds
  pub tree : slice_index_or ts (slice_index_or behinds k 0) nothing ≡ a

module _ (ts : List Tree) (cells : List Cell) (behinds : List ℕ) where
  -- these are the cells of the tree's parts
  abbrev pub IsStep : ℕ → ℕ → Parts → Tree → Type 0
  IsStep f g p (seq a b) = IsSequence ts cells f g p.first a b
  IsStep f g p (alt a b) = IsPart ts cells p.first a f g × IsPart ts cells p.second b f g
  IsStep f g p (repeat greedy least most a) =
      TurnIs most (IsTurn ts cells f g p.first greedy least most a)
  IsStep f g p (group n a) = IsPart ts cells p.first a f g
  IsStep f g p (atomic a) = IsPart ts cells p.first a 0 0
  IsStep f g p (ahead negated a) = IsPart ts cells p.first a 0 0
  IsStep f g p (behind negated a) = LooksFor ts behinds p.first a
  IsStep f g p _ = Unit {0}

  -- the same of the cell with the number
  abbrev pub IsStepOf : ℕ → Parts → Type 0
  IsStepOf k p = IsStep (cell_at cells k).empty (cell_at cells k).next p (cell_tree ts cells k)

-- the cells of a pattern, of which cell 1 is that of the whole
pub record IsPlanned (ts : List Tree) (cells : List Cell) (parts : List Parts) (behinds : List ℕ)
    (root : ℕ) : Type 0 where
  pub cells_are : AreCells ts cells
  pub steps : (k : ℕ) → k < length parts → IsStepOf ts cells behinds k (parts_at parts k)
  pub root_is : IsPart ts cells 1 (slice_index_or ts root nothing) 0 0

-- ---- For proofs and private functions alone ----

-- more cells, after those that were there
pub record Grows (old new : List Cell) : Type 0 where
  pub longer : length old ≤ length new
  pub kept : (k : ℕ) → k < length old → cell_at new k ≡ cell_at old k
