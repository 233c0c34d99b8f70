-- The cells of a plan, and what goes on from them.
use Rattle.std.specs.Prelude.{ℕ, zero, suc, ◌+◌, Bool, true, false, List, [], ◌∷◌, ◌++◌, Some, if◌then◌else◌, slice_index_or}
use Rattle.syntect_pattern_plan.specs.syntect_pattern.Trees.{Tree, nothing, seq, alt, repeat, group, atomic, ahead, behind}
use Rattle.syntect_pattern_plan.specs.Onward.{Onward, moved, reads, onward}
use Rattle.syntect_pattern_plan.specs.declared.cells.CellPart.{CellPart}
use Rattle.syntect_pattern_plan.specs.declared.cells.CellPart.TheVariants.{End, Node, Turns}
use Rattle.syntect_pattern_plan.specs.declared.cells.Source.{Source}
use Rattle.syntect_pattern_plan.specs.declared.cells.Source.TheVariants.{Own, Shared, Beside}
use Rattle.syntect_pattern_plan.specs.declared.cells.Cell.{Cell}
use Rattle.syntect_pattern_plan.specs.declared.cells.Parts.{Parts}

-- there the whole match ends
abbrev pub last_cell : Cell
last_cell = record { item = End; empty = 0; next = 0; source = Own }

-- the cell with the number
abbrev pub cell_at : List Cell → ℕ → Cell
cell_at cells k = slice_index_or cells k last_cell

-- the cell that this source stands beside, or else the one with the number
abbrev pub beside_or : ℕ → Source → ℕ
beside_or k Own = k
beside_or k (Shared p) = k
beside_or k (Beside p) = p

-- the cell of the same item before what goes on after this one alone, which may be this one
abbrev pub partner_of : List Cell → ℕ → ℕ
partner_of cells k = beside_or k (cell_at cells k).source

-- the cells of its parts
abbrev pub parts_at : List Parts → ℕ → Parts
parts_at parts k = slice_index_or parts k (record { first = 0; second = 0 })

-- the nodes of a tree, and two for a part that is matched on its own
abbrev pub tree_size : Tree → ℕ
tree_size (seq a b) = suc (tree_size a + tree_size b)
tree_size (alt a b) = suc (tree_size a + tree_size b)
tree_size (repeat greedy least most a) = suc (tree_size a)
tree_size (group n a) = suc (tree_size a)
tree_size (atomic a) = suc (suc (tree_size a))
tree_size (ahead negated a) = suc (suc (tree_size a))
tree_size (behind negated a) = suc (tree_size a)
tree_size _ = suc zero

-- how much of a tree can be gone through at one place, before so much that goes on at the place
abbrev pub tree_height : ℕ → Tree → ℕ
tree_height rest t = tree_size t + (if reads t then 0 else rest)

-- the tree of an item
abbrev pub item_tree : List Tree → CellPart → Tree
item_tree ts End = nothing
item_tree ts (Node n) = slice_index_or ts n nothing
item_tree ts (Turns greedy least most n) = repeat greedy least most (slice_index_or ts n nothing)

-- the tree of the cell with the number
abbrev pub cell_tree : List Tree → List Cell → ℕ → Tree
cell_tree ts cells k = item_tree ts (cell_at cells k).item

module _ (s : List ℕ) (ts : List Tree) where
  -- where the whole match ends that goes on with the item, before what goes on at the place and
  -- after it
  abbrev pub item_end : Onward → Onward → CellPart → Onward
  item_end f g End i = Some i
  item_end f g (Node n) i = onward s (item_tree ts (Node n)) (moved i f g) i
  item_end f g (Turns greedy least most n) i =
      onward s (item_tree ts (Turns greedy least most n)) (moved i f g) i

  -- the same of a cell, by those of the cells before it
  abbrev pub cell_end : List Onward → Cell → Onward
  cell_end before c =
      item_end (slice_index_or before c.empty Some) (slice_index_or before c.next Some) c.item

  -- those of the cells before, and then of these
  abbrev pub ends_from : List Onward → List Cell → List Onward
  ends_from before [] = before
  ends_from before (c ∷ cells) = ends_from (before ++ cell_end before c ∷ []) cells

  -- where the whole match ends that goes on with the cell, for each place
  unfoldable pub ends : List Cell → ℕ → Onward
  ends cells k = slice_index_or (ends_from [] cells) k Some

-- the whole match ends there
abbrev pub is_end : CellPart → Bool
is_end End = true
is_end _ = false

module _ (ts : List Tree) where
  -- how much of the pattern can be gone through at one place from the item on, before what goes on
  -- at the place
  abbrev pub item_height : ℕ → CellPart → ℕ
  item_height rest End = zero
  item_height rest (Node n) = tree_height rest (item_tree ts (Node n))
  item_height rest (Turns greedy least most n) =
      tree_height rest (item_tree ts (Turns greedy least most n))

  -- the same of a cell, by those of the cells before it
  abbrev pub cell_height : List ℕ → Cell → ℕ
  cell_height before c = item_height (slice_index_or before c.empty 0) c.item

  -- those of the cells before, and then of these
  abbrev pub heights_from : List ℕ → List Cell → List ℕ
  heights_from before [] = before
  heights_from before (c ∷ cells) = heights_from (before ++ cell_height before c ∷ []) cells

  -- the same of the cell with the number
  unfoldable pub height : List Cell → ℕ → ℕ
  height cells k = slice_index_or (heights_from [] cells) k 0
