-- Parts of trees that are put together.
use Rattle.std.specs.Prelude.{◌≡◌, ◌<◌, ℕ, List, All, Option, Some, None, length, map}
use Rattle.syntect_pattern.specs.Sets.{from_to}
use Rattle.syntect_pattern.specs.Trees.{Tree, one_of}
use Rattle.syntect_pattern.specs.Letters.{letters_of, letters_tree}
use Rattle.syntect_pattern.specs.declared.letters.Letters.{Letters}
use Rattle.syntect_pattern_table.specs.Builder.{tree_in}
use Rattle.syntect_pattern_table.specs.declared.node.Node.{Node}
use Rattle.syntect_pattern_compile.specs.declared.builder.Item.{Item}
use Rattle.syntect_pattern_compile.specs.declared.builder.End.{End}

-- ---- For proofs and private functions alone ----

-- all of the places are in a table of this length
abbrev pub AllBelow : ℕ → List ℕ → Type 0
AllBelow n = All (λ k. k < n)

-- the trees of the nodes at the places
abbrev pub trees_in : List Node → List ℕ → List Tree
trees_in nodes ks = map (tree_in nodes) ks

-- the item's node, if it has one, is in such a table
abbrev pub IsItemIn : ℕ → Item → Type 0
IsItemIn n (Item.Node k) = k < n
IsItemIn n (Item.Letter fold letter) = Unit {0}

-- the same of all items
abbrev pub AreItemsIn : ℕ → List Item → Type 0
AreItemsIn n = All (IsItemIn n)

-- the tree of an item
abbrev pub item_tree : List Node → Item → Tree
item_tree nodes (Item.Node k) = tree_in nodes k
item_tree nodes (Item.Letter fold letter) = one_of (from_to fold letter letter)

-- the same of all items
abbrev pub item_trees : List Node → List Item → List Tree
item_trees nodes xs = map (item_tree nodes) xs

-- the item has this tree
abbrev pub IsItemOf : List Node → Tree → Item → Type 0
IsItemOf nodes tree item = item_tree nodes item ≡ tree

-- the letters, if there are some, and then the tree
abbrev pub behind_letters : Option Letters → Tree → Tree
behind_letters None t = t
behind_letters (Some l) t = letters_tree l.fold (letters_of l) t

-- the tree of an end
abbrev pub end_tree : List Node → End → Tree
end_tree nodes end = behind_letters end.letters (tree_in nodes end.rest)

-- the end is in the table and has this tree
pub record IsEnd (nodes : List Node) (end : End) (tree : Tree) : Type 0 where
  pub inside : end.rest < length nodes
  pub is : end_tree nodes end ≡ tree
