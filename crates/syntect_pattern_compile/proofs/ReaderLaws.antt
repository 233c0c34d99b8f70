-- What is read of a group, in a table that grows.
use Rattle.std.proofs.Common.{◌≡◌, ℕ, ◌<◌, List, [], ◌∷◌, ◌++◌, length, Option, Some, None, sym, subst, ap, ◌∙◌}
use Rattle.std.proofs.lemmas.List.Elements.{All-nil, All-push}
use Rattle.syntect_pattern.specs.Trees.{Tree, seq_all}
use Rattle.std.specs.Prelude.{option_map}
use Rattle.syntect_pattern.specs.Reading.{Text, ◌>>=◌, between, pass}
use Rattle.syntect_pattern.specs.Grammar.{Names, on, with_item, quantified, passed}
use Rattle.syntect_pattern.specs.Grammar as grammar
use Rattle.syntect_pattern_table.specs.Builder.{tree_in, Grows, Holds}
use Rattle.syntect_pattern_compile.specs.JoinViews.{AllBelow, AreItemsIn, IsItemIn, item_tree, item_trees, trees_in}
use Rattle.syntect_pattern_compile.specs.declared.builder.Item.{Item}
use Rattle.syntect_pattern_compile.specs.ReaderViews.{body_as, IsBodyIn}
use Rattle.syntect_pattern_table.specs.declared.node.Node.{Node}
use Rattle.syntect_pattern_compile.specs.declared.reader.Body.{Body}
use Rattle.syntect_pattern_compile.proofs.JoinLaws.{below-grown, item_trees-push, items-grown, items-kept, trees-grown, trees-push}

abbrev made : List Tree → List Tree → grammar.Body
made before items = record { before = before; items = items }

pub body-in-grown : (a b : List Node) (o : Body) → Grows a b → IsBodyIn a o → IsBodyIn b o
body-in-grown a b o g h = record { before = below-grown a b o.before g h.before; items = items-grown a b o.items g h.items }

pub body-grown : (a b : List Node) (o : Body) → Grows a b → IsBodyIn a o → body_as b o ≡ body_as a o
body-grown a b o g h =
    ap (λ ts. made ts (item_trees b o.items)) (trees-grown a b o.before g h.before)
    ∙ ap (made (trees_in a o.before)) (items-kept a b o.items g h.items)

pub below-new : (n : ℕ) (ks ls : List ℕ) (k : ℕ) → ls ≡ ks ++ k ∷ [] → AllBelow n ks → k < n → AllBelow n ls
below-new n ks ls k e h l = subst (AllBelow n) (sym e) (All-push (λ j. j < n) ks k h l)

pub items-new : (n : ℕ) (xs ys : List Item) (x : Item) → ys ≡ xs ++ x ∷ [] → AreItemsIn n xs → IsItemIn n x → AreItemsIn n ys
items-new n xs ys x e h l = subst (AreItemsIn n) (sym e) (All-push (IsItemIn n) xs x h l)

pub items-none : (n : ℕ) (ys : List Item) → ys ≡ [] → AreItemsIn n ys
items-none n ys e = subst (AreItemsIn n) (sym e) (All-nil (IsItemIn n))

-- the next alternative begins
pub alternative-is : (old new : List Node) (before : List ℕ) (items : List Item) (ls : List ℕ) (none : List Item) (k : ℕ) → Grows old new → AllBelow (length old) before → ls ≡ before ++ k ∷ [] → none ≡ []
    → Holds new k (seq_all (item_trees old items)) → made (trees_in new ls) (item_trees new none) ≡ grammar.next_alternative (made (trees_in old before) (item_trees old items))
alternative-is old new before items ls none k g h e n t =
    ap (λ xs. made (trees_in new xs) (item_trees new none)) e
    ∙ ap (λ xs. made (trees_in new (before ++ k ∷ [])) (item_trees new xs)) n
    ∙ ap (λ ts. made ts []) (trees-push new before k ∙ ap (λ ts. ts ++ tree_in new k ∷ []) (trees-grown old new before g h) ∙ ap (λ x. trees_in old before ++ x ∷ []) t.is)

-- an item is read with its quantifier
pub item-is : (known : Option Names) (b c : grammar.Body) (a t u : Tree) (p rest : grammar.Cursor) (s : Option grammar.Step)
    → quantified a p ≡ Some (t, rest) → u ≡ t → c ≡ b → grammar.firm known c u rest ≡ s → grammar.item known b a p ≡ s
item-is known b c a t u p rest s q e f r =
    ap (λ (o : Option (Tree × grammar.Cursor)). o >>= λ x. Some (on (with_item b x.0) x.1)) q
    ∙ ap (λ (x : Tree). grammar.firm known b x rest) (sym e)
    ∙ ap (λ (x : grammar.Body). grammar.firm known x u rest) (sym f)
    ∙ r

-- an item in a table that has grown
pub item-grown : (known : Option Names) (b c : grammar.Body) (t u : Tree) (p : grammar.Cursor) (s : Option grammar.Step) → u ≡ t → c ≡ b → grammar.item known c u p ≡ s → grammar.item known b t p ≡ s
item-grown known b c t u p s e f r =
    ap (λ (x : Tree). grammar.item known b x p) (sym e) ∙ ap (λ (x : grammar.Body). grammar.item known x u p) (sym f) ∙ r

pub firm-grown : (known : Option Names) (b c : grammar.Body) (t u : Tree) (p : grammar.Cursor) (s : Option grammar.Step) → u ≡ t → c ≡ b → grammar.firm known c u p ≡ s → grammar.firm known b t p ≡ s
firm-grown known b c t u p s e f r =
    ap (λ (x : Tree). grammar.firm known b x p) (sym e) ∙ ap (λ (x : grammar.Body). grammar.firm known x u p) (sym f) ∙ r

-- a back reference in a table that has grown
pub refer-is : (known : Option Names) (b c : grammar.Body) (u : Tree) (names more : Names) (rest : Names → grammar.Cursor) (o : Option Tree) (s : Option grammar.Step)
    → o ≡ Some u → c ≡ b → more ≡ names → grammar.item known c u (rest more) ≡ s → (o >>= λ a. grammar.item known b a (rest names)) ≡ s
refer-is known b c u names more rest o s q f n r =
    ap (λ (x : Option Tree). x >>= λ a. grammar.item known b a (rest names)) q
    ∙ ap (λ (x : grammar.Body). grammar.item known x u (rest names)) (sym f)
    ∙ ap (λ (x : Names). grammar.item known c u (rest x)) (sym n)
    ∙ r

abbrev place_at : grammar.Flags → Names → Text → grammar.Cursor
place_at flags names text = record { flags = flags; names = names; text = text }

-- an item after a group, in a table that has grown
pub item-behind : (known : Option Names) (b c : grammar.Body) (t u : Tree) (flags : grammar.Flags) (names more : Names) (text v : Text) (s : Option grammar.Step)
    → u ≡ t → c ≡ b → more ≡ names → v ≡ text → grammar.item known c u (record { flags = flags; names = more; text = v }) ≡ s
    → grammar.item known b t (record { flags = flags; names = names; text = text }) ≡ s
item-behind known b c t u flags names more text v s e f n x r =
    ap (λ (y : Tree). grammar.item known b y (place_at flags names text)) (sym e)
    ∙ ap (λ (y : grammar.Body). grammar.item known y u (place_at flags names text)) (sym f)
    ∙ ap (λ (y : Names). grammar.item known c u (place_at flags y text)) (sym n)
    ∙ ap (λ (y : Text). grammar.item known c u (place_at flags more y)) (sym x)
    ∙ r

pub passed-some : (flags : grammar.Flags) (names : Names) (t u : Text) → pass flags.spaced between t ≡ Some u → passed (record { flags = flags; names = names; text = t }) ≡ Some (record { flags = flags; names = names; text = u })
unfolding passed
passed-some flags names t u e = ap (option_map (λ x. record { flags = flags; names = names; text = x })) e

pub passed-none : (flags : grammar.Flags) (names : Names) (t : Text) → pass flags.spaced between t ≡ None → passed (record { flags = flags; names = names; text = t }) ≡ None
unfolding passed
passed-none flags names t e = ap (option_map (λ x. record { flags = flags; names = names; text = x })) e

-- a body with one item more, in a table that has grown
pub body-pushed : (old new : List Node) (before : List ℕ) (items ys : List Item) (x : Item) (a : Tree) → Grows old new → AllBelow (length old) before → AreItemsIn (length old) items
    → ys ≡ items ++ x ∷ [] → item_tree new x ≡ a → made (trees_in new before) (item_trees new ys) ≡ with_item (made (trees_in old before) (item_trees old items)) a
body-pushed old new before items ys x a g h i e t =
    ap (λ xs. made (trees_in new before) (item_trees new xs)) e
    ∙ ap (λ ts. made ts (item_trees new (items ++ x ∷ []))) (trees-grown old new before g h)
    ∙ ap (made (trees_in old before)) (item_trees-push new items x ∙ ap (λ ts. ts ++ item_tree new x ∷ []) (items-kept old new items g i) ∙ ap (λ y. item_trees old items ++ y ∷ []) t)

-- the trees of all alternatives, the last of which was put together just now
pub before-is : (old new : List Node) (before : List ℕ) (items : List Item) (ls : List ℕ) (k : ℕ) → Grows old new → AllBelow (length old) before → ls ≡ before ++ k ∷ []
    → Holds new k (seq_all (item_trees old items)) → trees_in new ls ≡ trees_in old before ++ seq_all (item_trees old items) ∷ []
before-is old new before items ls k g h e t =
    ap (trees_in new) e ∙ trees-push new before k ∙ ap (λ ts. ts ++ tree_in new k ∷ []) (trees-grown old new before g h) ∙ ap (λ x. trees_in old before ++ x ∷ []) t.is
