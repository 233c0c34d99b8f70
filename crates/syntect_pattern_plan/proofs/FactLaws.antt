-- What is known of the nodes of a table.
use Rattle.std.proofs.Common.{◌≡◌, ℕ, zero, suc, ◌+◌, ◌<◌, Bool, true, List, [], ◌∷◌, ◌++◌, length, take, get_or, refl, sym, ap, ◌∙◌, arith, zero-add}
use Rattle.std.proofs.lemmas.List.{take_more, length-take-le}
use Rattle.syntect_pattern_plan.specs.syntect_pattern.Sets.{Set}
use Rattle.syntect_pattern_plan.specs.syntect_pattern.Trees.{Tree, nothing, one_of, seq}
use Rattle.syntect_pattern_plan.specs.syntect_pattern.Letters.{letters_tree}
use Rattle.syntect_pattern_plan.specs.syntect_pattern_table.Table.{node_tree, trees, trees_from}
use Rattle.syntect_pattern_plan.specs.syntect_pattern_table.declared.node.Node.{Node}
use Rattle.syntect_pattern_plan.proofs.syntect_pattern_table_proofs.TableLaws.{trees-append, length-trees_from}
use Rattle.syntect_pattern_plan.specs.Facts.{facts_of, facts_at, AreFacts}
use Rattle.syntect_pattern_plan.specs.declared.facts.Facts.{Facts}

-- one more of each of two lists
pub facts-push : (fs : List Facts) (ts : List Tree) (f : Facts) (t : Tree) → length fs ≡ length ts → AreFacts fs ts → f ≡ facts_of t → AreFacts (fs ++ f ∷ []) (ts ++ t ∷ [])
facts-push [] [] f t l a e zero = e
facts-push [] [] f t l a e (suc n) = refl
facts-push [] (u ∷ ts) f t l a e n = absurd (omega arith)
facts-push (x ∷ fs) [] f t l a e n = absurd (omega arith)
facts-push (x ∷ fs) (u ∷ ts) f t l a e zero = a zero
facts-push (x ∷ fs) (u ∷ ts) f t l a e (suc n) = facts-push fs ts f t (omega arith) (λ k. a (suc k)) e n

pub trees-take : (nodes : List Node) (i : ℕ) (d : Node) → i < length nodes → trees (take (i + 1) nodes) ≡ trees (take i nodes) ++ node_tree (trees (take i nodes)) (get_or nodes i d) ∷ []
unfolding trees
trees-take nodes i d l = ap (trees_from []) (take_more nodes i d l) ∙ trees-append [] (take i nodes) (get_or nodes i d ∷ [])

pub length-trees : (nodes : List Node) → length (trees nodes) ≡ length nodes
unfolding trees
length-trees nodes = length-trees_from [] nodes ∙ zero-add (length nodes)

pub facts-more : (nodes : List Node) (fs new : List Facts) (f : Facts) (i : ℕ) (x : Node) → new ≡ fs ++ f ∷ [] → length fs ≡ i → i < length nodes → x ≡ get_or nodes i x
    → AreFacts fs (trees (take i nodes)) → f ≡ facts_of (node_tree (trees (take i nodes)) x) → AreFacts new (trees (take (i + 1) nodes))
facts-more nodes fs new f i x e l inside is a right =
    let ts : List Tree = trees (take i nodes) in
    let long : length fs ≡ length ts = l ∙ sym (length-trees (take i nodes) ∙ length-take-le i nodes (omega arith)) in
    let here : f ≡ facts_of (node_tree ts (get_or nodes i x)) = right ∙ ap (λ (n : Node). facts_of (node_tree ts n)) is in
    let pushed : AreFacts (fs ++ f ∷ []) (ts ++ node_tree ts (get_or nodes i x) ∷ []) = facts-push fs ts f (node_tree ts (get_or nodes i x)) long a here in
    rw (e, trees-take nodes i x inside) pushed

pub facts-none : (fs : List Facts) → fs ≡ [] → AreFacts fs (trees [])
unfolding trees
facts-none fs e n = rw e (none n)
  where
    none : (n : ℕ) → facts_at [] n ≡ facts_of (get_or (trees_from [] []) n nothing)
    none zero = refl
    none (suc n) = refl

-- a character and what is known of a part after it
abbrev pub read_first : Facts → Facts
read_first f = record { reads = true; plain = f.plain; free = f.free; bare = f.bare; calm = f.calm }

-- of letters before a part the same is known as of a single character before it
pub letters-facts : (fold : Bool) (c : ℕ) (cs : List ℕ) (a : Set) (t : Tree) → facts_of (letters_tree fold (c ∷ cs) t) ≡ facts_of (seq (one_of a) t)
letters-facts fold c [] a t = refl
letters-facts fold c (d ∷ cs) a t = ap read_first (letters-facts fold d cs a t)
