-- Parts of trees are put together from the last on.
use Rattle.std.proofs.Common.{◌≡◌, ℕ, ◌<◌, List, [], ◌∷◌, ◌++◌, Some, None, length, get_or, refl, sym, ap, ◌∙◌}
use Rattle.std.proofs.lemmas.List.Elements.{All-head, All-pop, All-tail}
use Rattle.syntect_pattern.specs.Trees.{Tree, alt, alt_all, seq, seq_all}
use Rattle.syntect_pattern_table.specs.Builder.{tree_in, Grows, Holds}
use Rattle.syntect_pattern_table.proofs.BuilderLaws.{Grows-trans}
use Rattle.syntect_pattern_compile.specs.JoinViews.{AllBelow, AreItemsIn, IsEnd, IsItemIn, behind_letters, end_tree, item_tree, item_trees, trees_in}
use Rattle.syntect_pattern_table.specs.declared.node.Node.{Node}
use Rattle.syntect_pattern_compile.specs.declared.builder.Item.{Item}
use Rattle.syntect_pattern_compile.specs.declared.builder.End.{End}

-- parts before a tree
abbrev pub linked : (Tree → Tree → Tree) → List Tree → Tree → Tree
linked j [] t = t
linked j (a ∷ us) t = j a (linked j us t)

linked-last : (j : Tree → Tree → Tree) (us : List Tree) (a t : Tree) → linked j (us ++ a ∷ []) t ≡ linked j us (j a t)
linked-last j [] a t = refl
linked-last j (b ∷ us) a t = ap (j b) (linked-last j us a t)

branches-last : (us : List Tree) (a : Tree) → alt_all (us ++ a ∷ []) ≡ linked alt us a
branches-last [] a = refl
branches-last (b ∷ []) a = refl
branches-last (b ∷ c ∷ us) a = ap (alt b) (branches-last (c ∷ us) a)

row-last : (us : List Tree) (a : Tree) → seq_all (us ++ a ∷ []) ≡ linked seq us a
row-last [] a = refl
row-last (b ∷ []) a = refl
row-last (b ∷ c ∷ us) a = ap (seq b) (row-last (c ∷ us) a)

-- -- Branches

pub trees-push : (nodes : List Node) (ks : List ℕ) (k : ℕ) → trees_in nodes (ks ++ k ∷ []) ≡ trees_in nodes ks ++ tree_in nodes k ∷ []
trees-push nodes [] k = refl
trees-push nodes (x ∷ ks) k = ap (λ ts. tree_in nodes x ∷ ts) (trees-push nodes ks k)

-- without the last one, and the last one
pub below-split : (n : ℕ) (all ks : List ℕ) (k : ℕ) → all ≡ ks ++ k ∷ [] → AllBelow n all → AllBelow n ks × (k < n)
below-split n all ks k = All-pop (λ j. j < n) all ks (Some k)

pub below-grown : (a b : List Node) (ks : List ℕ) → Grows a b → AllBelow (length a) ks → AllBelow (length b) ks
below-grown a b ks g h i d l = g.longer (get_or ks i d) (h i d l)

pub trees-grown : (a b : List Node) (ks : List ℕ) → Grows a b → AllBelow (length a) ks → trees_in b ks ≡ trees_in a ks
trees-grown a b [] g h = refl
trees-grown a b (x ∷ ks) g h =
    let in_a : ℕ → Type 0 = λ k. k < length a in
    ap (λ t. t ∷ trees_in b ks) (g.kept x (All-head in_a x ks h)) ∙ ap (λ ts. tree_in a x ∷ ts) (trees-grown a b ks g (All-tail in_a x ks h))

-- how far the branches are put together: those before the rest are left
pub record Links (old : List Node) (all : List ℕ) (new : List Node) (left : List ℕ) (rest : ℕ) : Type 0 where
  pub below : AllBelow (length old) left
  pub inside : rest < length new
  pub grows : Grows old new
  pub is : alt_all (trees_in old all) ≡ linked alt (trees_in old left) (tree_in new rest)

pub links-first : (old : List Node) (all ks : List ℕ) (k : ℕ) → all ≡ ks ++ k ∷ [] → AllBelow (length old) all → Links old all old ks k
links-first old all ks k e h =
    let b = below-split (length old) all ks k e h in
    record {
      below = b.0;
      inside = b.1;
      grows = record { longer = λ i l. l; kept = λ i l. refl };
      is = ap (λ xs. alt_all (trees_in old xs)) e ∙ ap alt_all (trees-push old ks k) ∙ branches-last (trees_in old ks) (tree_in old k);
    }

pub links-more : (old : List Node) (all : List ℕ) (mid new : List Node) (left ks : List ℕ) (k rest last : ℕ) → left ≡ ks ++ k ∷ []
    → Links old all mid left rest → Grows mid new → Holds new last (alt (tree_in mid k) (tree_in mid rest)) → Links old all new ks last
links-more old all mid new left ks k rest last e l g h =
    let b = below-split (length old) left ks k e l.below in
    record {
      below = b.0;
      inside = h.inside;
      grows = Grows-trans old mid new l.grows g;
      is =
          l.is
          ∙ ap (λ xs. linked alt (trees_in old xs) (tree_in mid rest)) e
          ∙ ap (λ ts. linked alt ts (tree_in mid rest)) (trees-push old ks k)
          ∙ linked-last alt (trees_in old ks) (tree_in old k) (tree_in mid rest)
          ∙ ap (λ t. linked alt (trees_in old ks) (alt t (tree_in mid rest))) (sym (l.grows.kept k b.1))
          ∙ ap (linked alt (trees_in old ks)) (sym h.is);
    }

pub links-all : (old : List Node) (all : List ℕ) (new : List Node) (left : List ℕ) (rest : ℕ) → left ≡ [] → Links old all new left rest
    → Holds new rest (alt_all (trees_in old all))
links-all old all new left rest e l = record {
  inside = l.inside;
  is = sym (l.is ∙ ap (λ xs. linked alt (trees_in old xs) (tree_in new rest)) e);
}

-- -- Items

-- without the last one, and the last one
pub items-split : (n : ℕ) (all xs : List Item) (x : Item) → all ≡ xs ++ x ∷ [] → AreItemsIn n all → AreItemsIn n xs × IsItemIn n x
items-split n all xs x = All-pop (IsItemIn n) all xs (Some x)

pub item-in_grown : (a b : List Node) (x : Item) → Grows a b → IsItemIn (length a) x → IsItemIn (length b) x
item-in_grown a b (Item.Node k) g h = g.longer k h
item-in_grown a b (Item.Letter fold letter) g h = tt

pub items-grown : (a b : List Node) (xs : List Item) → Grows a b → AreItemsIn (length a) xs → AreItemsIn (length b) xs
items-grown a b xs g h i d l = item-in_grown a b (get_or xs i d) g (h i d l)

pub item-kept : (a b : List Node) (x : Item) → Grows a b → IsItemIn (length a) x → item_tree b x ≡ item_tree a x
item-kept a b (Item.Node k) g h = g.kept k h
item-kept a b (Item.Letter fold letter) g h = refl

pub items-kept : (a b : List Node) (xs : List Item) → Grows a b → AreItemsIn (length a) xs → item_trees b xs ≡ item_trees a xs
items-kept a b [] g h = refl
items-kept a b (x ∷ xs) g h =
    let in_a : Item → Type 0 = IsItemIn (length a) in
    ap (λ t. t ∷ item_trees b xs) (item-kept a b x g (All-head in_a x xs h)) ∙ ap (λ ts. item_tree a x ∷ ts) (items-kept a b xs g (All-tail in_a x xs h))

pub item_trees-push : (nodes : List Node) (xs : List Item) (x : Item) → item_trees nodes (xs ++ x ∷ []) ≡ item_trees nodes xs ++ item_tree nodes x ∷ []
item_trees-push nodes [] x = refl
item_trees-push nodes (y ∷ xs) x = ap (λ ts. item_tree nodes y ∷ ts) (item_trees-push nodes xs x)

-- how far the items are put together: those before the end are left
pub record Chains (old : List Node) (all : List Item) (new : List Node) (left : List Item) (end : End) : Type 0 where
  pub below : AreItemsIn (length old) left
  pub inside : end.rest < length new
  pub grows : Grows old new
  pub is : seq_all (item_trees old all) ≡ linked seq (item_trees old left) (end_tree new end)

pub chains-first : (old : List Node) (all : List Item) (new : List Node) (xs : List Item) (x : Item) (k : ℕ) → all ≡ xs ++ x ∷ [] → AreItemsIn (length old) all
    → Grows old new → Holds new k (item_tree old x) → Chains old all new xs (record { letters = None; rest = k })
chains-first old all new xs x k e h g holds =
    record {
      below = (items-split (length old) all xs x e h).0;
      inside = holds.inside;
      grows = g;
      is =
          ap (λ ys. seq_all (item_trees old ys)) e
          ∙ ap seq_all (item_trees-push old xs x)
          ∙ row-last (item_trees old xs) (item_tree old x)
          ∙ ap (linked seq (item_trees old xs)) (sym holds.is);
    }

pub chains-item : (old : List Node) (all : List Item) (mid : List Node) (left xs : List Item) (x : Item) (end : End) → left ≡ xs ++ x ∷ []
    → Chains old all mid left end → IsItemIn (length mid) x
chains-item old all mid left xs x end e l =
    item-in_grown old mid x l.grows (items-split (length old) left xs x e l.below).1

pub chains-more : (old : List Node) (all : List Item) (mid new : List Node) (left xs : List Item) (x : Item) (end more : End) → left ≡ xs ++ x ∷ []
    → Chains old all mid left end → Grows mid new → IsEnd new more (seq (item_tree mid x) (end_tree mid end)) → Chains old all new xs more
chains-more old all mid new left xs x end more e l g h =
    let b = items-split (length old) left xs x e l.below in
    record {
      below = b.0;
      inside = h.inside;
      grows = Grows-trans old mid new l.grows g;
      is =
          l.is
          ∙ ap (λ ys. linked seq (item_trees old ys) (end_tree mid end)) e
          ∙ ap (λ ts. linked seq ts (end_tree mid end)) (item_trees-push old xs x)
          ∙ linked-last seq (item_trees old xs) (item_tree old x) (end_tree mid end)
          ∙ ap (λ t. linked seq (item_trees old xs) (seq t (end_tree mid end))) (sym (item-kept old mid x l.grows b.1))
          ∙ ap (linked seq (item_trees old xs)) (sym h.is);
    }

pub chains-all : (old : List Node) (all : List Item) (mid new : List Node) (left : List Item) (end : End) (k : ℕ) → left ≡ [] → Chains old all mid left end
    → Holds new k (end_tree mid end) → Holds new k (seq_all (item_trees old all))
chains-all old all mid new left end k e l h = record {
  inside = h.inside;
  is = h.is ∙ sym (l.is ∙ ap (λ ys. linked seq (item_trees old ys) (end_tree mid end)) e);
}

-- an end in a table that has grown
pub end-kept : (a b : List Node) (end : End) → Grows a b → end.rest < length a → end_tree b end ≡ end_tree a end
end-kept a b end g h = ap (behind_letters end.letters) (g.kept end.rest h)
