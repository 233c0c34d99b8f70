-- A table of nodes that is being made.
use Rattle.std.specs.Prelude.{◌≡◌, ◌<◌, ℕ, List, length, slice_index_or}
use Rattle.syntect_pattern.specs.Trees.{Tree, nothing}
use Rattle.syntect_pattern_table.specs.Table.{trees}
use Rattle.syntect_pattern_table.specs.declared.node.Node.{Node}

-- the tree of the node at the place
abbrev pub tree_in : List Node → ℕ → Tree
tree_in nodes k = slice_index_or (trees nodes) k nothing

-- ---- For proofs and private functions alone ----

-- more nodes, after those that were there
pub record Grows (old new : List Node) : Type 0 where
  pub longer : (k : ℕ) → k < length old → k < length new
  pub kept : (k : ℕ) → k < length old → tree_in new k ≡ tree_in old k

-- the place holds this tree
pub record Holds (nodes : List Node) (k : ℕ) (tree : Tree) : Type 0 where
  pub inside : k < length nodes
  pub is : tree_in nodes k ≡ tree
