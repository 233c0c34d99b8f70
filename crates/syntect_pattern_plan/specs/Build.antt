-- How a plan is made: the cells of a cell's parts, after those that are there.
use Rattle.std.specs.Prelude.{◌≡◌, ◌&&◌, ◌==◌, ℕ, suc, ◌+◌, ◌<◌, if◌then◌else◌, sum_by, is_none, Bool, false, List, length, Option, None, slice_index_or}
use Rattle.syntect_pattern_plan.specs.syntect_pattern.Trees.{Tree, nothing, repeat}
use Rattle.syntect_pattern_plan.specs.Cells.{cell_at, cell_tree, item_tree, is_end}
use Rattle.syntect_pattern_plan.specs.Plan.{AreCells, Grows, IsPart, LooksFor, IsStep, loop_behind, others, others_of, cells_of}
use Rattle.syntect_pattern_plan.specs.declared.cells.Source.{Source}
use Rattle.syntect_pattern_plan.specs.declared.cells.Source.TheVariants.{Own, Shared, Beside}
use Rattle.syntect_pattern_plan.specs.declared.cells.Cell.{Cell}
use Rattle.syntect_pattern_plan.specs.declared.cells.Parts.{Parts}
use Rattle.syntect_pattern_plan.specs.declared.plan.Plan.{Plan}

-- ---- For proofs and private functions alone ----

-- the tree of the node with the number
abbrev pub tree_at : List Tree → ℕ → Tree
tree_at ts n = slice_index_or ts n nothing

-- the cell has the tree, and the same goes on at its place and after it
pub record IsSame (ts : List Tree) (cells : List Cell) (k : ℕ) (t : Tree) (g : ℕ) : Type 0 where
  pub inside : k < length cells
  pub real : is_end (cell_at cells k).item ≡ false
  pub tree : cell_tree ts cells k ≡ t
  pub empty : (cell_at cells k).empty ≡ g
  pub next : (cell_at cells k).next ≡ g

-- the earlier cell has the loop with a turn at least, which this one has with none
pub record IsShared (ts : List Tree) (cells : List Cell) (k : ℕ) (c : Cell) (p : ℕ) : Type 0 where
  pub greedy : Bool
  pub body : Tree
  pub below : p < k
  pub alike : c.empty ≡ c.next
  pub tree : item_tree ts c.item ≡ repeat greedy 0 None body
  pub same : IsSame ts cells p (repeat greedy 1 None body) c.next

-- the earlier cell has the tree before what goes on after this one
pub record IsBeside (ts : List Tree) (cells : List Cell) (k : ℕ) (c : Cell) (p : ℕ) : Type 0 where
  pub below : p < k
  pub same : IsSame ts cells p (item_tree ts c.item) c.next

-- the cell with the number can have its parts from there
abbrev pub IsSource : List Tree → List Cell → ℕ → Cell → Source → Type 0
IsSource ts cells k c Own = c.empty ≡ c.next
IsSource ts cells k c (Shared p) = IsShared ts cells k c p
IsSource ts cells k c (Beside p) = IsBeside ts cells k c p

-- the cells stand in order, and each can have its parts
pub record AreBuilt (ts : List Tree) (cells : List Cell) : Type 0 where
  pub cells_are : AreCells ts cells
  pub sources : (k : ℕ) → k < length cells
      → IsSource ts cells k (cell_at cells k) (cell_at cells k).source

-- more cells, all of them built
pub record Extends (ts : List Tree) (old new : List Cell) : Type 0 where
  pub grows : Grows old new
  pub built : AreBuilt ts new

-- how many cells the parts of a tree take with its own
abbrev pub source_cells : Source → Tree → ℕ
source_cells Own t = cells_of t
source_cells (Shared p) t = 1
source_cells (Beside p) t = others t

-- the cells that this one takes
abbrev pub cell_cells : List Tree → Cell → ℕ
cell_cells ts c = source_cells c.source (item_tree ts c.item)

-- and these together
abbrev pub all_cells : List Tree → List Cell → ℕ
all_cells ts cells = sum_by (cell_cells ts) cells

-- the cell is there for the tree, before f at its place and g after it, and takes so many
pub record Adds (ts : List Tree) (old : List Cell) (t : Tree) (f g w k : ℕ) (new : List Cell)
    : Type 0 where
  pub extends : Extends ts old new
  pub part : IsPart ts new k t f g
  pub cost : all_cells ts new ≡ all_cells ts old + w

-- the loop after a turn has a cell, which may be the loop's own; with a turn and the loop it takes
-- what the loop takes
pub record AddsMore (ts : List Tree) (old : List Cell) (g : ℕ) (greedy : Bool) (least : ℕ)
    (most : Option ℕ) (a : Tree) (more : ℕ) (new : List Cell) : Type 0 where
  pub extends : Extends ts old new
  pub part : IsPart ts new more (loop_behind greedy least most a) g g
  pub cost : suc (all_cells ts new + (cells_of a + others_of a))
      ≡ all_cells ts old + cells_of (repeat greedy least most a)

-- where the loop after a turn has its parts from
abbrev pub turn_source : ℕ → ℕ → Option ℕ → Source
turn_source number least most = if (least == 1) && is_none most then Shared number else Own

-- the cells of the tree's parts are there, before f at its place and g after it; the tree takes so
-- many with its own
pub record Makes (ts : List Tree) (old : List Cell) (olds : List ℕ) (f g : ℕ) (t : Tree) (w : ℕ)
    (p : Parts) (new : List Cell) (news : List ℕ) : Type 0 where
  pub extends : Extends ts old new
  pub looks : (n : ℕ) (a : Tree) → LooksFor ts olds n a → LooksFor ts news n a
  pub step : IsStep ts new news f g p t
  pub cost : suc (all_cells ts new) ≡ all_cells ts old + w

-- the parts of the tree, before what goes on at its place and after it
abbrev pub MakesOwn : List Tree → Plan → ℕ → ℕ → Tree → Parts → Plan → Type 0
MakesOwn ts old number g t p new = AreBuilt ts old.cells → IsSame ts old.cells number t g
    → Makes ts old.cells old.behinds g g t (cells_of t) p new.cells new.behinds

-- the parts of the tree, beside those where what goes on after it goes on at its place too
abbrev pub MakesBeside : List Tree → Plan → ℕ → ℕ → Tree → Parts → Parts → Plan → Type 0
MakesBeside ts old f g t parts p new = AreBuilt ts old.cells → f < length old.cells
    → IsStep ts old.cells old.behinds g g parts t
    → Makes ts old.cells old.behinds f g t (others t) p new.cells new.behinds

-- the parts of the cell with the number
abbrev pub Expands : List Tree → List Cell → List ℕ → ℕ → Parts → List Cell → List ℕ → Type 0
Expands ts old olds k p new news =
    Makes ts old olds (cell_at old k).empty (cell_at old k).next (cell_tree ts old k)
    (cell_cells ts (cell_at old k)) p new news
