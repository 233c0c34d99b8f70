-- The tree of a program.
use Rattle.std.specs.Prelude.{◌≡◌, ◌≤◌, ℕ, suc, List, Option, None, MatchOption, slice_index_or}
use Rattle.syntect_pattern.specs.Trees.{Tree, nothing, group, group_count}
use Rattle.syntect_pattern.specs.Matches.{found_at}
use Rattle.std.specs.Borrow.{Bor}
use Rattle.syntect_pattern_table.specs.Table.{node_tree, trees}
use Rattle.syntect_pattern_table.specs.Starts.{AreStarts}
use Rattle.syntect_pattern_table.specs.Needs.{AreNeeded}
use Rattle.syntect_pattern_table.specs.declared.node.Node.{Node}
use Rattle.syntect_pattern_table.specs.declared.program.Program.{Program}

-- the tree of each of its nodes
abbrev pub trees_of : Program → List Tree
trees_of p = trees p.nodes

-- what is found at the place: a node whose tree is made of those of its parts, or none, where the
-- tree is the empty one
abbrev pub IsNodeOf : List Tree → ℕ → Option (Bor Node) → Type 0
IsNodeOf ts place found = MatchOption found (slice_index_or ts place nothing ≡ nothing)
    (λ n. slice_index_or ts place nothing ≡ node_tree ts n.now)

-- the program is that of the tree: its root is the whole match, and it knows how many groups there
-- are, what matches begin with and perhaps what they need
pub record IsProgramOf (p : Program) (tree : Tree) : Type 0 where
  pub root : slice_index_or (trees_of p) p.root nothing ≡ group 0 tree
  pub groups : p.groups ≡ suc (group_count tree)
  pub starts : AreStarts p.starts tree
  pub needs : AreNeeded p.needs tree

-- no match begins at the place
abbrev pub CannotBegin : List ℕ → Program → ℕ → Type 0
CannotBegin s p place = (tree : Tree) → IsProgramOf p tree → found_at s tree place ≡ None

-- none begins from there on
abbrev pub CannotBeginFrom : List ℕ → Program → ℕ → Type 0
CannotBeginFrom s p place = (k : ℕ) → place ≤ k → CannotBegin s p k
