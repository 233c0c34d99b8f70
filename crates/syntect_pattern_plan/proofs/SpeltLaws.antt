-- Tables whose letters stand each in a node of its own.
use Rattle.std.proofs.Common.{◌≡◌, ℕ, zero, suc, ◌<◌, ◌&&◌, nat_lt, Bool, true, false, Option, List, [], ◌∷◌, ◌++◌, length, get_or, refl, sym, ◌∙◌, ap, subst, arith, length-append, inl, inr}
use Rattle.std.specs.Prelude.{Result, Ok, Err, IfOk, OnOk}
use Rattle.std.specs.Result.{OnErr}
use Rattle.std.proofs.Math.Seq.{get_or-append_seam}
use Rattle.std.proofs.lemmas.List.{get_or_append_left, get_or_default}
use Rattle.std.proofs.lemmas.List.Elements.{All-from_get_or}
use Rattle.std.proofs.lemmas.Bool.{cases_lt, lt-ltb, ltb-true}
use Rattle.syntect_pattern_plan.specs.syntect_pattern.Trees.{Tree, nothing, one_of, seq, alt, repeat, group, atomic, ahead, behind}
use Rattle.syntect_pattern_plan.specs.syntect_pattern_table.Builder.{Grows, Holds, tree_in}
use Rattle.syntect_pattern_plan.specs.syntect_pattern_table.Table.{AreSpelt, IsOrdered, is_text, node_tree, parts_before, set_of, trees}
use Rattle.syntect_pattern_plan.specs.syntect_pattern_table.Needs.{AreNeeded}
use Rattle.syntect_pattern_plan.specs.syntect_pattern_table.Program.{IsProgramOf, trees_of}
use Rattle.syntect_pattern_plan.specs.syntect_pattern_table.Starts.{AreStarts}
use Rattle.syntect_pattern_plan.specs.syntect_pattern.declared.letters.Letters.{Letters}
use Rattle.syntect_pattern_plan.specs.syntect_pattern_table.declared.node.Node.{Node}
use Rattle.syntect_pattern_plan.specs.syntect_pattern_table.declared.sets.Class.{Class}
use Rattle.syntect_pattern_plan.specs.syntect_pattern_table.declared.program.Program.{Program}
use Rattle.syntect_pattern_plan.proofs.syntect_pattern_table_proofs.BuilderLaws.{both-inside, Holds-grown}
use Rattle.syntect_pattern_plan.proofs.syntect_pattern_table_proofs.TableLaws.{get_or-trees}
use Rattle.syntect_pattern_plan.proofs.syntect_pattern_table_proofs.SetLaws.{left_before, right_before}
use Rattle.syntect_pattern_plan.specs.Spelt.{AllBelow, ArePlaces, place_at}

-- -- One node more

-- what holds of the list before and of the one to come holds of the list after a push, whether it
-- had memory or not
pub after-push : {A E : Type 0} (P : List Node → Type 0) (r : Result A E) (old more new : List Node) → OnOk r (new ≡ more) → OnErr r (new ≡ old) → P old → P more → P new
after-push P (Ok x) old more new ok err h m = subst P (sym ok) m
after-push P (Err x) old more new ok err h m = subst P (sym err) h

-- a node after its parts keeps the order
pub ordered-push : (ns : List Node) (n : Node) → parts_before (length ns) n ≡ true → IsOrdered ns → IsOrdered (ns ++ n ∷ [])
ordered-push ns n b h k l =
    elim (cases_lt k (length ns)) [
      | inl a ↦ ap (parts_before k) (get_or_append_left ns (n ∷ []) Node.Nothing k a) ∙ h k a
      | inr a ↦
          let same : k ≡ length ns = omega (arith, a, l, length-append ns (n ∷ [])) in
          let last : get_or (ns ++ n ∷ []) k Node.Nothing ≡ n = ap (λ j. get_or (ns ++ n ∷ []) j Node.Nothing) same ∙ get_or-append_seam ns n [] Node.Nothing in
          ap (parts_before k) last ∙ ap (λ j. parts_before j n) same ∙ b
    ]

-- one that holds no letters in a row keeps that none does
pub spelt-push : (ns : List Node) (n : Node) → is_text n ≡ false → AreSpelt ns → AreSpelt (ns ++ n ∷ [])
spelt-push [] n e h zero = e
spelt-push [] n e h (suc k) = refl
spelt-push (x ∷ ns) n e h zero = h zero
spelt-push (x ∷ ns) n e h (suc k) = spelt-push ns n e (λ j. h (suc j)) k

-- -- Copies of nodes

-- what holds of a copy of a node whose parts have these new places
pub record IsCopy (places : List ℕ) (old new : Node) : Type 0 where
  pub spelt : is_text new ≡ false
  pub before : (n : ℕ) → AllBelow n places → parts_before (length places) old ≡ true → parts_before n new ≡ true
  pub tree : (ts : List Tree) (nodes : List Node) → is_text old ≡ false → parts_before (length places) old ≡ true → ArePlaces ts nodes places
      → node_tree (trees nodes) new ≡ node_tree ts old

module _ (places : List ℕ) where
  -- a part's new place stands before the number
  one : (n a : ℕ) → AllBelow n places → nat_lt a (length places) ≡ true → nat_lt (place_at places a) n ≡ true
  one n a below b = lt-ltb (place_at places a) n (below a 0 (ltb-true a (length places) b))

  -- those of two parts do
  both : (n a b : ℕ) → AllBelow n places → (nat_lt a (length places) && nat_lt b (length places)) ≡ true → (nat_lt (place_at places a) n && nat_lt (place_at places b) n) ≡ true
  both n a b below e =
      both-inside (place_at places a) (place_at places b) n (below a 0 (left_before a b (length places) e)) (below b 0 (right_before a b (length places) e))

  -- a part's new place holds its tree
  part : (ts : List Tree) (nodes : List Node) (a : ℕ) → ArePlaces ts nodes places → nat_lt a (length places) ≡ true → tree_in nodes (place_at places a) ≡ get_or ts a nothing
  part ts nodes a h b = (h a (ltb-true a (length places) b)).is

  -- the same of two parts, by what is made of their trees
  parts : (make : Tree → Tree → Tree) (ts : List Tree) (nodes : List Node) (a b : ℕ) → ArePlaces ts nodes places → (nat_lt a (length places) && nat_lt b (length places)) ≡ true
      → make (tree_in nodes (place_at places a)) (tree_in nodes (place_at places b)) ≡ make (get_or ts a nothing) (get_or ts b nothing)
  parts make ts nodes a b h e =
      ap (λ t. make t (tree_in nodes (place_at places b))) (h a (left_before a b (length places) e)).is ∙ ap (make (get_or ts a nothing)) (h b (right_before a b (length places) e)).is

  -- a node with no parts is its own copy
  pub copy-leaf : (n : Node) → is_text n ≡ false → ((k : ℕ) → parts_before k n ≡ true) → ((ts us : List Tree) → node_tree ts n ≡ node_tree us n) → IsCopy places n n
  copy-leaf n s b t = record { spelt = s; before = λ k below e. b k; tree = λ ts nodes e f h. t (trees nodes) ts }

  pub copy-class : (c d : Class) → set_of d ≡ set_of c → IsCopy places (Node.Class c) (Node.Class d)
  copy-class c d e = record { spelt = refl; before = λ n below b. refl; tree = λ ts nodes s b h. ap one_of e }

  -- letters in a row have no copy
  pub copy-text : (l : Letters) (a : ℕ) → IsCopy places (Node.Text l a) Node.Nothing
  copy-text l a = record { spelt = refl; before = λ n below b. refl; tree = λ ts nodes s b h. absurd cc }

  -- nodes with parts

  pub copy-sequence : (a b : ℕ) → IsCopy places (Node.Sequence a b) (Node.Sequence (place_at places a) (place_at places b))
  copy-sequence x y = record { spelt = refl; before = λ n. both n x y; tree = λ ts nodes s b h. parts seq ts nodes x y h b }

  pub copy-alternation : (a b : ℕ) → IsCopy places (Node.Alternation a b) (Node.Alternation (place_at places a) (place_at places b))
  copy-alternation x y = record { spelt = refl; before = λ n. both n x y; tree = λ ts nodes s b h. parts alt ts nodes x y h b }

  pub copy-repeat : (greedy : Bool) (least : ℕ) (most : Option ℕ) (a : ℕ) → IsCopy places (Node.Repeat greedy least most a) (Node.Repeat greedy least most (place_at places a))
  copy-repeat greedy least most a = record { spelt = refl; before = λ n. one n a; tree = λ ts nodes s b h. ap (repeat greedy least most) (part ts nodes a h b) }

  pub copy-group : (k a : ℕ) → IsCopy places (Node.Group k a) (Node.Group k (place_at places a))
  copy-group k a = record { spelt = refl; before = λ n. one n a; tree = λ ts nodes s b h. ap (group k) (part ts nodes a h b) }

  pub copy-atomic : (a : ℕ) → IsCopy places (Node.Atomic a) (Node.Atomic (place_at places a))
  copy-atomic a = record { spelt = refl; before = λ n. one n a; tree = λ ts nodes s b h. ap atomic (part ts nodes a h b) }

  pub copy-ahead : (negated : Bool) (a : ℕ) → IsCopy places (Node.Ahead negated a) (Node.Ahead negated (place_at places a))
  copy-ahead negated a = record { spelt = refl; before = λ n. one n a; tree = λ ts nodes s b h. ap (ahead negated) (part ts nodes a h b) }

  pub copy-behind : (negated : Bool) (a : ℕ) → IsCopy places (Node.Behind negated a) (Node.Behind negated (place_at places a))
  copy-behind negated a = record { spelt = refl; before = λ n. one n a; tree = λ ts nodes s b h. ap (behind negated) (part ts nodes a h b) }

  -- a copy, by what the nodes are
  pub copy-is : (old new o n : Node) → IsCopy places o n → old ≡ o → new ≡ n → IsCopy places old new
  copy-is old new o n h e f = subst (λ x. IsCopy places x new) (sym e) (subst (IsCopy places o) (sym f) h)

-- -- The whole table

-- places of trees are in the table
pub places-inside : (ts : List Tree) (nodes : List Node) (places : List ℕ) → ArePlaces ts nodes places → AllBelow (length nodes) places
places-inside ts nodes places h = All-from_get_or (λ k. k < length nodes) places 0 (λ k l. (h k l).inside)

-- places of nodes stay theirs as the table grows
pub places-grown : (ts : List Tree) (a b : List Node) (places : List ℕ) → Grows a b → ArePlaces ts a places → ArePlaces ts b places
places-grown ts a b places g h k l = Holds-grown a b (place_at places k) (get_or ts k nothing) g (h k l)

-- one place more
pub places-push : (ts : List Tree) (nodes : List Node) (places : List ℕ) (at : ℕ) → Holds nodes at (get_or ts (length places) nothing)
    → ArePlaces ts nodes places → ArePlaces ts nodes (places ++ at ∷ [])
places-push ts nodes places at n h k l =
    elim (cases_lt k (length places)) [
      | inl a ↦ subst (λ j. Holds nodes j (get_or ts k nothing)) (sym (get_or_append_left places (at ∷ []) 0 k a)) (h k a)
      | inr a ↦
          let same : k ≡ length places = omega (arith, a, l, length-append places (at ∷ [])) in
          subst (λ j. Holds nodes (place_at (places ++ at ∷ []) j) (get_or ts j nothing)) (sym same)
          (subst (λ j. Holds nodes j (get_or ts (length places) nothing)) (sym (get_or-append_seam places at [] 0)) n)
    ]

-- the place of the next node
pub places-more : (olds : List Node) (a b : List Node) (places more : List ℕ) (at i : ℕ) (n : Node) → IsOrdered olds → length places ≡ i → i < length olds
    → n ≡ get_or olds i n → Grows a b → ArePlaces (trees olds) a places → Holds b at (node_tree (trees olds) n) → more ≡ places ++ at ∷ []
    → ArePlaces (trees olds) b more
places-more olds a b places more at i n ordered count inside is g h new e =
    let here : get_or (trees olds) (length places) nothing ≡ node_tree (trees olds) n =
    ap (λ j. get_or (trees olds) j nothing) count ∙ get_or-trees olds ordered i
    ∙ ap (node_tree (trees olds)) (get_or_default olds i Node.Nothing n inside ∙ sym is) in
    subst (ArePlaces (trees olds) b) (sym e)
    (places-push (trees olds) b places at (subst (Holds b at) (sym here) new) (places-grown (trees olds) a b places g h))

-- a program whose root has the same tree is a program of the same
pub program-same : {E : Type 0} (r : Result Program E) (old : Program) (nodes : List Node) (root : ℕ) → tree_in nodes root ≡ get_or (trees_of old) old.root nothing
    → IfOk r (λ p. p.nodes ≡ nodes) → IfOk r (λ p. p.root ≡ root) → IfOk r (λ p. p.groups ≡ old.groups)
    → IfOk r (λ p. AreStarts p.starts (tree_in nodes root)) → IfOk r (λ p. p.needs ≡ old.needs)
    → IfOk r (λ p. (tree : Tree) → IsProgramOf old tree → IsProgramOf p tree)
program-same (Err x) old nodes root is a b g s n = tt
program-same (Ok p) old nodes root is a b g s n = λ tree h. record {
  root = ap (λ (ns : List Node). tree_in ns p.root) a ∙ ap (tree_in nodes) b ∙ is ∙ h.root;
  groups = g ∙ h.groups;
  starts = subst (AreStarts p.starts) (is ∙ h.root) s;
  needs = subst (λ x. AreNeeded x tree) (sym n) h.needs;
}
