-- What a cell of a plan is.
use Rattle.std.specs.Prelude.{◌≡◌, ℕ, Bool, false, Option}
use Rattle.syntect_pattern_linear.specs.syntect_pattern.Trees.{Tree, repeat}
use Rattle.syntect_pattern_linear.specs.syntect_pattern_table.Program.{trees_of}
use Rattle.syntect_pattern_linear.specs.syntect_pattern_table.Table.{node_tree}
use Rattle.syntect_pattern_linear.specs.syntect_pattern_table.declared.node.Node.{Node}
use Rattle.syntect_pattern_plan.specs.Cells.{cell_at, item_tree, is_end}
use Rattle.syntect_pattern_linear.specs.Ground.{IsIn}
use Rattle.syntect_pattern_linear.specs.declared.ground.Ground.{Ground}

-- ---- For proofs and private functions alone ----

-- the cell has an item of this tree
pub record IsTreeAt (x : Ground) (k : ℕ) (t : Tree) : Type 0 where
  pub inside : IsIn x k
  pub real : is_end (cell_at x.plan.now.cells k).item ≡ false
  pub tree : item_tree (trees_of x.program.now) (cell_at x.plan.now.cells k).item ≡ t

-- the same of a node's tree
abbrev pub IsNodeAt : Ground → ℕ → Node → Type 0
IsNodeAt x k node = IsTreeAt x k (node_tree (trees_of x.program.now) node)

-- the cell has a loop
pub record IsLoopAt (x : Ground) (k : ℕ) (greedy : Bool) (least : ℕ)
    (most : Option ℕ) : Type 0 where
  pub body : Tree
  pub at : IsTreeAt x k (repeat greedy least most body)
