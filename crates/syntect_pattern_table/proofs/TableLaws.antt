-- Tables of nodes.
use Rattle.std.proofs.Common.{◌≡◌, ℕ, zero, suc, ◌+◌, ◌<◌, true, false, List, [], ◌∷◌, ◌++◌, length, get_or, refl, sym, ◌∙◌, ap, arith, length-append, zero-add, add-zero, Option, Some, None, Bor}
use Rattle.std.specs.Prelude.{IfSome, MatchOption, slice_get}
use Rattle.std.specs.Option.{option_copied}
use Rattle.std.proofs.Math.ListN.{get_or-append}
use Rattle.std.proofs.Math.Seq.{get_or-append_seam}
use Rattle.std.proofs.lemmas.List.{get_or_past}
use Rattle.std.proofs.lemmas.Bool.Decides.{nat_tests}
use Rattle.syntect_pattern.specs.Trees.{Tree, nothing, seq, alt, repeat, group, atomic, ahead, behind}
use Rattle.syntect_pattern_table.specs.Table.{AreSpelt, IsOrdered, is_text, node_tree, parts_before, trees, trees_from}
use Rattle.syntect_pattern.specs.Letters.{letters_of, letters_tree}
use Rattle.syntect_pattern_table.specs.declared.node.Node.{Node}

-- -- Tables

pub get_or-trees_from : (ts : List Tree) (ns : List Node) (n : ℕ) → n < length ts → get_or (trees_from ts ns) n nothing ≡ get_or ts n nothing
get_or-trees_from ts [] n h = refl
get_or-trees_from ts (x ∷ ns) n h =
    get_or-trees_from (ts ++ node_tree ts x ∷ []) ns n (omega (arith, length-append ts (node_tree ts x ∷ [])))
    ∙ get_or-append ts (node_tree ts x ∷ []) nothing n h

-- a node's tree depends on those before it alone
pub node_tree-before : (ts us : List Tree) (k : ℕ) (n : Node) → ((j : ℕ) → j < k → get_or ts j nothing ≡ get_or us j nothing) → parts_before k n ≡ true → node_tree ts n ≡ node_tree us n
node_tree-before ts us k Node.Nothing h b = refl
node_tree-before ts us k (Node.Char c) h b = refl
node_tree-before ts us k (Node.Class c) h b = refl
node_tree-before ts us k (Node.Anchor a) h b = refl
node_tree-before ts us k (Node.Same fold n) h b = refl
node_tree-before ts us k (Node.Text l x) h b = ap (letters_tree l.fold (letters_of l)) (h x (grind (arith, nat_tests)))
node_tree-before ts us k (Node.Sequence x y) h b = ap (λ t. seq t (get_or ts y nothing)) (h x (grind (arith, nat_tests))) ∙ ap (seq (get_or us x nothing)) (h y (grind (arith, nat_tests)))
node_tree-before ts us k (Node.Alternation x y) h b = ap (λ t. alt t (get_or ts y nothing)) (h x (grind (arith, nat_tests))) ∙ ap (alt (get_or us x nothing)) (h y (grind (arith, nat_tests)))
node_tree-before ts us k (Node.Repeat greedy least most x) h b = ap (repeat greedy least most) (h x (grind (arith, nat_tests)))
node_tree-before ts us k (Node.Group n x) h b = ap (group n) (h x (grind (arith, nat_tests)))
node_tree-before ts us k (Node.Atomic x) h b = ap atomic (h x (grind (arith, nat_tests)))
node_tree-before ts us k (Node.Ahead negated x) h b = ap (ahead negated) (h x (grind (arith, nat_tests)))
node_tree-before ts us k (Node.Behind negated x) h b = ap (behind negated) (h x (grind (arith, nat_tests)))

pub trees-from : (ts : List Tree) (ns : List Node) → ((j : ℕ) → j < length ns → parts_before (length ts + j) (get_or ns j Node.Nothing) ≡ true)
    → (j : ℕ) → get_or (trees_from ts ns) (length ts + j) nothing ≡ node_tree (trees_from ts ns) (get_or ns j Node.Nothing)
trees-from ts [] h j = get_or_past ts (length ts + j) nothing (omega arith)
trees-from ts (x ∷ ns) h zero =
    let new : Tree = node_tree ts x in
    let more : List Tree = ts ++ new ∷ [] in
    get_or-trees_from more ns (length ts + 0) (omega (arith, length-append ts (new ∷ [])))
    ∙ ap (λ n. get_or more n nothing) (omega arith)
    ∙ get_or-append_seam ts new [] nothing
    ∙ node_tree-before ts (trees_from more ns) (length ts) x
    (λ j p. sym (get_or-trees_from more ns j (omega (arith, length-append ts (new ∷ []))) ∙ get_or-append ts (new ∷ []) nothing j p))
    (ap (λ n. parts_before n x) (sym (add-zero (length ts))) ∙ h 0 (omega arith))
trees-from ts (x ∷ ns) h (suc j) =
    let new : Tree = node_tree ts x in
    let more : List Tree = ts ++ new ∷ [] in
    ap (λ n. get_or (trees_from more ns) n nothing) (omega (arith, length-append ts (new ∷ [])))
    ∙ trees-from more ns (λ i p. ap (λ n. parts_before n (get_or ns i Node.Nothing)) (omega (arith, length-append ts (new ∷ []))) ∙ h (suc i) (omega arith)) j

-- in an ordered table each node's tree is made of those of its parts
pub get_or-trees : (nodes : List Node) → IsOrdered nodes → (k : ℕ) → get_or (trees nodes) k nothing ≡ node_tree (trees nodes) (get_or nodes k Node.Nothing)
unfolding trees
get_or-trees nodes h k =
    ap (λ n. get_or (trees_from [] nodes) n nothing) (sym (zero-add k))
    ∙ trees-from [] nodes (λ j p. ap (λ n. parts_before n (get_or nodes j Node.Nothing)) (zero-add j) ∙ h j p) k

-- past the end there is no tree
pub length-trees_from : (ts : List Tree) (ns : List Node) → length (trees_from ts ns) ≡ length ts + length ns
length-trees_from ts [] = omega arith
length-trees_from ts (x ∷ ns) = length-trees_from (ts ++ node_tree ts x ∷ []) ns ∙ omega (arith, length-append ts (node_tree ts x ∷ []))

-- the table with one more node
pub trees-append : (ts : List Tree) (ns ms : List Node) → trees_from ts (ns ++ ms) ≡ trees_from (trees_from ts ns) ms
trees-append ts [] ms = refl
trees-append ts (x ∷ ns) ms = trees-append (ts ++ node_tree ts x ∷ []) ns ms

some_get : (ns : List Node) (k : ℕ) (n : Node) → Some n ≡ slice_get ns k → get_or ns k Node.Nothing ≡ n
some_get [] zero n e = cc
some_get [] (suc k) n e = cc
some_get (x ∷ ns) zero n e = let h : Some n ≡ Some x = e in cc
some_get (x ∷ ns) (suc k) n e = some_get ns k n e

none_get : (ns : List Node) (k : ℕ) → None ≡ slice_get ns k → get_or ns k Node.Nothing ≡ Node.Nothing
none_get [] zero e = refl
none_get [] (suc k) e = refl
none_get (x ∷ ns) zero e = let h : None ≡ Some x = e in cc
none_get (x ∷ ns) (suc k) e = none_get ns k e

-- what a table's node is
pub node-lookup : (nodes : List Node) → IsOrdered nodes → (k : ℕ) (found : Option (Bor Node)) → option_copied found ≡ slice_get nodes k
    → MatchOption found (get_or (trees nodes) k nothing ≡ nothing) (λ n. get_or (trees nodes) k nothing ≡ node_tree (trees nodes) n.now)
node-lookup nodes h k None e = get_or-trees nodes h k ∙ ap (node_tree (trees nodes)) (none_get nodes k e)
node-lookup nodes h k (Some n) e = get_or-trees nodes h k ∙ ap (node_tree (trees nodes)) (some_get nodes k n.now e)

-- in a table of none that holds letters in a row it is none either
pub node-spelt : (nodes : List Node) (k : ℕ) (found : Option (Bor Node)) → option_copied found ≡ slice_get nodes k
    → AreSpelt nodes → IfSome found (λ n. is_text n.now ≡ false)
node-spelt nodes k None e spelt = tt
node-spelt nodes k (Some n) e spelt = ap is_text (sym (some_get nodes k n.now e)) ∙ spelt k
