-- From a node to its parts.
use Rattle.std.proofs.Common.{◌≡◌, ◌<◌, ℕ, ◌&&◌, nat_lt, Bool, true, false, List, length, get_or, refl, sym, ◌∙◌, ap}
use Rattle.std.proofs.lemmas.List.{get_or_default}
use Rattle.std.proofs.lemmas.Bool.{ltb-true}
use Rattle.syntect_pattern_table.specs.Table.{node_tree, trees, parts_before, IsOrdered}
use Rattle.syntect_pattern_table.specs.Builder.{tree_in}
use Rattle.syntect_pattern_table.specs.declared.node.Node.{Node}
use Rattle.syntect_pattern_table.proofs.TableLaws.{get_or-trees}

left_true : (a b : Bool) → (a && b) ≡ true → a ≡ true
left_true true b e = refl
left_true false b e = cc

right_true : (a b : Bool) → (a && b) ≡ true → b ≡ true
right_true true b e = e
right_true false b e = cc

module _ (nodes : List Node) (h : IsOrdered nodes) (k : ℕ) (n : Node) (inside : k < length nodes) (is : n ≡ get_or nodes k n) where
  node-is : get_or nodes k Node.Nothing ≡ n
  node-is = get_or_default nodes k Node.Nothing n inside ∙ sym is

  -- the tree of the node is made of those of its parts
  pub tree-is : (m : Node) → n ≡ m → tree_in nodes k ≡ node_tree (trees nodes) m
  tree-is m e = get_or-trees nodes h k ∙ ap (node_tree (trees nodes)) (node-is ∙ e)

  -- its parts stand before it
  pub parts-are : (m : Node) → n ≡ m → parts_before k m ≡ true
  parts-are m e = sym (ap (parts_before k) (node-is ∙ e)) ∙ h k inside

  pub part-before : (m : Node) → n ≡ m → (a : ℕ) → parts_before k m ≡ nat_lt a k → a < k
  part-before m e a p = ltb-true a k (sym p ∙ parts-are m e)

  pub first-before : (m : Node) → n ≡ m → (a b : ℕ) → parts_before k m ≡ (nat_lt a k && nat_lt b k) → a < k
  first-before m e a b p = ltb-true a k (left_true (nat_lt a k) (nat_lt b k) (sym p ∙ parts-are m e))

  pub second-before : (m : Node) → n ≡ m → (a b : ℕ) → parts_before k m ≡ (nat_lt a k && nat_lt b k) → b < k
  second-before m e a b p = ltb-true b k (right_true (nat_lt a k) (nat_lt b k) (sym p ∙ parts-are m e))
