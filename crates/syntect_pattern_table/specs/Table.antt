-- The trees of a table of nodes, each of which comes after its parts.
use Rattle.std.specs.Prelude.{◌≡◌, ℕ, ◌<◌, Bool, true, false, ◌&&◌, nat_lt, List, [], ◌∷◌, ◌++◌, length, slice_index_or}
use Rattle.syntect_pattern.specs.Sets.{Set, range}
use Rattle.syntect_pattern.specs.Trees.{Tree, nothing, one_of, anchor, same, seq, alt, repeat, group, atomic, ahead, behind}
use Rattle.syntect_pattern_table.specs.SetTable.{listed, set_in}
use Rattle.syntect_pattern_table.specs.declared.sets.Class.{Class}
use Rattle.syntect_pattern.specs.Letters.{letters_of, letters_tree}
use Rattle.syntect_pattern_table.specs.declared.node.Node.{Node}

-- what a class holds
abbrev pub set_of : Class → Set
set_of c = set_in (listed c.body.value.parts) c.body.value.root

-- the tree of a node, from those of the nodes before it
abbrev pub node_tree : List Tree → Node → Tree
node_tree before Node.Nothing = nothing
node_tree before (Node.Char c) = one_of (range c c)
node_tree before (Node.Class c) = one_of (set_of c)
node_tree before (Node.Anchor a) = anchor a
node_tree before (Node.Same fold n) = same fold n
node_tree before (Node.Text l a) =
    letters_tree l.fold (letters_of l) (slice_index_or before a nothing)
node_tree before (Node.Sequence a b) =
    seq (slice_index_or before a nothing) (slice_index_or before b nothing)
node_tree before (Node.Alternation a b) =
    alt (slice_index_or before a nothing) (slice_index_or before b nothing)
node_tree before (Node.Repeat greedy least most a) =
    repeat greedy least most (slice_index_or before a nothing)
node_tree before (Node.Group n a) = group n (slice_index_or before a nothing)
node_tree before (Node.Atomic a) = atomic (slice_index_or before a nothing)
node_tree before (Node.Ahead negated a) = ahead negated (slice_index_or before a nothing)
node_tree before (Node.Behind negated a) = behind negated (slice_index_or before a nothing)

-- the trees of the nodes before, and then that of each node in turn
abbrev pub trees_from : List Tree → List Node → List Tree
trees_from before [] = before
trees_from before (n ∷ ns) = trees_from (before ++ node_tree before n ∷ []) ns

-- the tree of each node
unfoldable pub trees : List Node → List Tree
trees = trees_from []

-- the parts of a node stand before the place
abbrev pub parts_before : ℕ → Node → Bool
parts_before k Node.Nothing = true
parts_before k (Node.Char c) = true
parts_before k (Node.Class c) = true
parts_before k (Node.Anchor a) = true
parts_before k (Node.Same fold n) = true
parts_before k (Node.Text l a) = nat_lt a k
parts_before k (Node.Sequence a b) = nat_lt a k && nat_lt b k
parts_before k (Node.Alternation a b) = nat_lt a k && nat_lt b k
parts_before k (Node.Repeat greedy least most a) = nat_lt a k
parts_before k (Node.Group n a) = nat_lt a k
parts_before k (Node.Atomic a) = nat_lt a k
parts_before k (Node.Ahead negated a) = nat_lt a k
parts_before k (Node.Behind negated a) = nat_lt a k

-- each node comes after its parts
abbrev pub IsOrdered : List Node → Type 0
IsOrdered nodes = (k : ℕ) → k < length nodes
    → parts_before k (slice_index_or nodes k Node.Nothing) ≡ true

-- the node holds letters in a row
abbrev pub is_text : Node → Bool
is_text (Node.Text l a) = true
is_text _ = false

-- none of the nodes does
abbrev pub AreSpelt : List Node → Type 0
AreSpelt nodes = (k : ℕ) → is_text (slice_index_or nodes k Node.Nothing) ≡ false
