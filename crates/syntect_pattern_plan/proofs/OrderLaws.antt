-- How large nodes are, and how high cells, as far as 64 bits hold it.
use Rattle.std.proofs.Common.{◌≡◌, ℕ, zero, suc, ◌+◌, ◌<◌, List, [], ◌∷◌, ◌++◌, length, take, get_or, refl, sym, ap, ◌∙◌, arith, length-append}
use Rattle.std.proofs.lemmas.List.{length-take-le, take_more}
use Rattle.syntect_pattern_plan.specs.syntect_pattern.Trees.{Tree, nothing}
use Rattle.syntect_pattern_plan.specs.syntect_pattern_table.Table.{node_tree, trees, trees_from}
use Rattle.syntect_pattern_plan.specs.syntect_pattern_table.declared.node.Node.{Node}
use Rattle.syntect_pattern_plan.specs.Cells.{tree_size, cell_height, heights_from, height}
use Rattle.syntect_pattern_plan.specs.Order.{in_64_bits, levels, AreSizes, AreCapped}
use Rattle.syntect_pattern_plan.specs.Passes.{passes, ArePasses}
use Rattle.syntect_pattern_plan.specs.declared.cells.Cell.{Cell}
use Rattle.syntect_pattern_plan.proofs.FactLaws.{trees-take, length-trees}

-- these are the numbers that the function gives of the trees, as far as 64 bits hold them
AreGiven : (Tree → ℕ) → ℕ → List ℕ → List Tree → Type 0
AreGiven f d ns ts = (n : ℕ) → get_or ns n d ≡ in_64_bits (f (get_or ts n nothing))

-- one more of each of two lists
given-push : (f : Tree → ℕ) (d : ℕ) → d ≡ in_64_bits (f nothing) → (ns : List ℕ) (ts : List Tree) (n : ℕ) (t : Tree) → length ns ≡ length ts → AreGiven f d ns ts → n ≡ in_64_bits (f t)
    → AreGiven f d (ns ++ n ∷ []) (ts ++ t ∷ [])
unfolding AreGiven
given-push f d o [] [] n t l a e zero = e
given-push f d o [] [] n t l a e (suc k) = o
given-push f d o [] (u ∷ ts) n t l a e k = absurd (omega arith)
given-push f d o (x ∷ ns) [] n t l a e k = absurd (omega arith)
given-push f d o (x ∷ ns) (u ∷ ts) n t l a e zero = a zero
given-push f d o (x ∷ ns) (u ∷ ts) n t l a e (suc k) = given-push f d o ns ts n t (omega arith) (λ j. a (suc j)) e k

given-more : (f : Tree → ℕ) (d : ℕ) → d ≡ in_64_bits (f nothing) → (nodes : List Node) (ns new : List ℕ) (n i : ℕ) (x : Node) → new ≡ ns ++ n ∷ [] → length ns ≡ i → i < length nodes → x ≡ get_or nodes i x
    → AreGiven f d ns (trees (take i nodes)) → n ≡ in_64_bits (f (node_tree (trees (take i nodes)) x)) → AreGiven f d new (trees (take (i + 1) nodes))
given-more f d o nodes ns new n i x e l inside is a right =
    let ts : List Tree = trees (take i nodes) in
    let long : length ns ≡ length ts = l ∙ sym (length-trees (take i nodes) ∙ length-take-le i nodes (omega arith)) in
    let here : n ≡ in_64_bits (f (node_tree ts (get_or nodes i x))) = right ∙ ap (λ (m : Node). in_64_bits (f (node_tree ts m))) is in
    let pushed : AreGiven f d (ns ++ n ∷ []) (ts ++ node_tree ts (get_or nodes i x) ∷ []) = given-push f d o ns ts n (node_tree ts (get_or nodes i x)) long a here in
    rw (e, trees-take nodes i x inside) pushed

given-none : (f : Tree → ℕ) (d : ℕ) → d ≡ in_64_bits (f nothing) → (ns : List ℕ) → ns ≡ [] → AreGiven f d ns (trees [])
unfolding AreGiven trees
given-none f d o ns e n = rw e (none n)
  where
    none : (n : ℕ) → get_or [] n d ≡ in_64_bits (f (get_or (trees_from [] []) n nothing))
    none zero = o
    none (suc n) = o

one-node : 1 ≡ in_64_bits (tree_size nothing)
unfolding in_64_bits
one-node = refl

no-pass : 0 ≡ in_64_bits (passes nothing)
unfolding in_64_bits
no-pass = refl

pub sizes-more : (nodes : List Node) (ns new : List ℕ) (n i : ℕ) (x : Node) → new ≡ ns ++ n ∷ [] → length ns ≡ i → i < length nodes → x ≡ get_or nodes i x
    → AreSizes ns (trees (take i nodes)) → n ≡ in_64_bits (tree_size (node_tree (trees (take i nodes)) x)) → AreSizes new (trees (take (i + 1) nodes))
unfolding AreGiven
sizes-more = given-more tree_size 1 one-node

pub sizes-none : (ns : List ℕ) → ns ≡ [] → AreSizes ns (trees [])
unfolding AreGiven
sizes-none = given-none tree_size 1 one-node

pub passes-more : (nodes : List Node) (ns new : List ℕ) (n i : ℕ) (x : Node) → new ≡ ns ++ n ∷ [] → length ns ≡ i → i < length nodes → x ≡ get_or nodes i x
    → ArePasses ns (trees (take i nodes)) → n ≡ in_64_bits (passes (node_tree (trees (take i nodes)) x)) → ArePasses new (trees (take (i + 1) nodes))
unfolding AreGiven
passes-more = given-more passes 0 no-pass

pub passes-none : (ns : List ℕ) → ns ≡ [] → ArePasses ns (trees [])
unfolding AreGiven
passes-none = given-none passes 0 no-pass

-- the heights of one more cell
heights-append : (ts : List Tree) (xs : List ℕ) (cs : List Cell) (c : Cell) → heights_from ts xs (cs ++ c ∷ []) ≡ heights_from ts xs cs ++ cell_height ts (heights_from ts xs cs) c ∷ []
heights-append ts xs [] c = refl
heights-append ts xs (d ∷ cs) c = heights-append ts (xs ++ cell_height ts xs d ∷ []) cs c

length-heights : (ts : List Tree) (xs : List ℕ) (cs : List Cell) → length (heights_from ts xs cs) ≡ length xs + length cs
length-heights ts xs [] = omega arith
length-heights ts xs (c ∷ cs) = length-heights ts (xs ++ cell_height ts xs c ∷ []) cs ∙ omega (arith, length-append xs (cell_height ts xs c ∷ []))

capped-push : (ns hs : List ℕ) (n h : ℕ) → length ns ≡ length hs → AreCapped ns hs → n ≡ in_64_bits h → AreCapped (ns ++ n ∷ []) (hs ++ h ∷ [])
unfolding in_64_bits
capped-push [] [] n h l a e zero = e
capped-push [] [] n h l a e (suc k) = refl
capped-push [] (u ∷ hs) n h l a e k = absurd (omega arith)
capped-push (x ∷ ns) [] n h l a e k = absurd (omega arith)
capped-push (x ∷ ns) (u ∷ hs) n h l a e zero = a zero
capped-push (x ∷ ns) (u ∷ hs) n h l a e (suc k) = capped-push ns hs n h (omega arith) (λ j. a (suc j)) e k

pub heights-more : (ts : List Tree) (cells : List Cell) (ns new : List ℕ) (n i : ℕ) (x d : Cell) → new ≡ ns ++ n ∷ [] → length ns ≡ i → i < length cells → x ≡ get_or cells i d
    → AreCapped ns (heights_from ts [] (take i cells)) → n ≡ in_64_bits (cell_height ts (heights_from ts [] (take i cells)) x) → AreCapped new (heights_from ts [] (take (i + 1) cells))
heights-more ts cells ns new n i x d e l inside is a right =
    let hs : List ℕ = heights_from ts [] (take i cells) in
    let long : length ns ≡ length hs = omega (arith, l, length-heights ts [] (take i cells), length-take-le i cells (omega arith)) in
    let here : n ≡ in_64_bits (cell_height ts hs (get_or cells i d)) = right ∙ ap (λ (c : Cell). in_64_bits (cell_height ts hs c)) is in
    let more : heights_from ts [] (take (i + 1) cells) ≡ hs ++ cell_height ts hs (get_or cells i d) ∷ [] = ap (heights_from ts []) (take_more cells i d inside) ∙ heights-append ts [] (take i cells) (get_or cells i d) in
    rw (e, more) (capped-push ns hs n (cell_height ts hs (get_or cells i d)) long a here)

pub heights-none : (ts : List Tree) (ns : List ℕ) → ns ≡ [] → AreCapped ns []
unfolding in_64_bits
heights-none ts ns e n = rw e (none n)
  where
    none : (n : ℕ) → get_or [] n 0 ≡ in_64_bits (get_or [] n 0)
    none zero = refl
    none (suc n) = refl

-- one cell more after its height
pub levels-more : (ts : List Tree) (cells : List Cell) (old new : List (ℕ × ℕ)) (hs : List ℕ) (n k : ℕ) → AreCapped hs (heights_from ts [] cells) → n ≡ get_or hs k 0
    → old ≡ levels ts cells k → new ≡ old ++ (n, k) ∷ [] → new ≡ levels ts cells (suc k)
unfolding height
levels-more ts cells old new hs n k a e f g =
    g ∙ ap (λ (l : List (ℕ × ℕ)). l ++ (n, k) ∷ []) f ∙ ap (λ (m : ℕ). levels ts cells k ++ (m, k) ∷ []) (e ∙ a k)
