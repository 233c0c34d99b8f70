-- A table grows.
use Rattle.std.proofs.Common.{◌≡◌, ℕ, ◌<◌, ◌&&◌, nat_lt, Bool, true, List, [], ◌∷◌, ◌++◌, length, get_or, sym, ◌∙◌, ap, arith, length-append}
use Rattle.std.proofs.Math.ListN.{get_or-append}
use Rattle.std.proofs.Math.Seq.{get_or-append_seam}
use Rattle.std.proofs.lemmas.Bool.{lt-ltb}
use Rattle.syntect_pattern.specs.Trees.{Tree, nothing}
use Rattle.syntect_pattern_table.specs.Table.{node_tree, trees}
use Rattle.syntect_pattern_table.specs.Builder.{tree_in, Grows, Holds}
use Rattle.syntect_pattern_table.specs.declared.node.Node.{Node}
use Rattle.syntect_pattern_table.proofs.TableLaws.{trees-append, length-trees_from}

pub trees-push : (ns : List Node) (n : Node) → trees (ns ++ n ∷ []) ≡ trees ns ++ node_tree (trees ns) n ∷ []
unfolding trees
trees-push ns n = trees-append [] ns (n ∷ [])

pub length-trees : (ns : List Node) → length (trees ns) ≡ length ns
unfolding trees
length-trees ns = length-trees_from [] ns ∙ omega arith

pub Grows-push : (ns ms : List Node) (n : Node) → ms ≡ ns ++ n ∷ [] → Grows ns ms
Grows-push ns ms n e = record {
  longer = λ k h. omega (arith, ap length e, length-append ns (n ∷ []));
  kept = λ k h.
      ap (λ (xs : List Node). tree_in xs k) e
      ∙ ap (λ (xs : List Tree). get_or xs k nothing) (trees-push ns n)
      ∙ get_or-append (trees ns) (node_tree (trees ns) n ∷ []) nothing k (omega (arith, length-trees ns));
}

pub Holds-push : (ns ms : List Node) (n : Node) (k : ℕ) → ms ≡ ns ++ n ∷ [] → k ≡ length ns → Holds ms k (node_tree (trees ns) n)
Holds-push ns ms n k e h = record {
  inside = omega (arith, ap length e, length-append ns (n ∷ []));
  is =
      ap (λ (xs : List Node). tree_in xs k) e
      ∙ ap (λ (xs : List Tree). get_or xs k nothing) (trees-push ns n)
      ∙ ap (λ (j : ℕ). get_or (trees ns ++ node_tree (trees ns) n ∷ []) j nothing) (h ∙ sym (length-trees ns))
      ∙ get_or-append_seam (trees ns) (node_tree (trees ns) n) [] nothing;
}

pub Grows-trans : (a b c : List Node) → Grows a b → Grows b c → Grows a c
Grows-trans a b c g h = record {
  longer = λ k l. h.longer k (g.longer k l);
  kept = λ k l. h.kept k (g.longer k l) ∙ g.kept k l;
}

pub Holds-grown : (a b : List Node) (k : ℕ) (t : Tree) → Grows a b → Holds a k t → Holds b k t
Holds-grown a b k t g h = record { inside = g.longer k h.inside; is = g.kept k h.inside ∙ h.is }

-- the parts of the node are there
pub both-inside : (j k n : ℕ) → j < n → k < n → (nat_lt j n && nat_lt k n) ≡ true
both-inside j k n h l = ap (λ (b : Bool). b && nat_lt k n) (lt-ltb j n h) ∙ lt-ltb k n l
