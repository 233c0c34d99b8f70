-- Jumps past branches.
use Rattle.std.proofs.Common.{◌≡◌, ◌<◌, ◌+◌, ◌||◌, ℕ, zero, suc, Bool, true, false, List, [], ◌∷◌, ◌++◌, length, length-append, get_or, Option, refl, sym, ◌∙◌, ap, subst, arith, below_more}
use Rattle.std.specs.Prelude.{IsUtf8, IsCharBoundary, slice_get}
use Rattle.std.specs.Option.{unwrap_or}
use Rattle.std.specs.List.{list_any}
use Rattle.std.proofs.Math.ListN.{get_or-append}
use Rattle.std.proofs.Math.Seq.{get_or-append_seam}
use Rattle.std.proofs.lemmas.List.Folds.{list_any-append}
use Rattle.syntect_pattern.specs.Trees.{Tree, nothing, alt}
use Rattle.syntect_pattern_table.specs.Table.{IsOrdered, trees}
use Rattle.syntect_pattern_table.specs.Starts.{AreFirsts, start_at, is_in, reads, stays}
use Rattle.syntect_pattern_table.specs.Jumps.{AreJumps, HasBranches, IsJump, LeadsPast, branches, jump_to, places_of, tree_behind}
use Rattle.syntect_pattern_table.specs.declared.jumps.Jump.{Jump}
use Rattle.syntect_pattern_table.specs.declared.node.Node.{Node}
use Rattle.syntect_pattern_table.specs.declared.starts.Places.{Places}
use Rattle.syntect_pattern_table.proofs.PlaceListLaws.{places_or}
use Rattle.syntect_pattern_table.proofs.StartLaws.{dead-at}
use Rattle.syntect_pattern_table.proofs.LookLaws.{tree-is, first-before, second-before}

-- a match of the tree can begin where this stands
abbrev can_begin : ℕ → Tree → Bool
can_begin x t = reads t x || stays t x

-- branches after branches
branches-more : (m n : ℕ) (t : Tree) → HasBranches m t → branches (m + n) t ≡ branches m t ++ branches n (tree_behind m t)
branches-more zero n t h = ap (λ (k : ℕ). branches k t) (omega arith)
branches-more (suc m) n (alt a b) h =
    ap (λ (k : ℕ). branches k (alt a b)) (let e : suc m + n ≡ suc (m + n) = omega arith in e)
    ∙ ap (λ (bs : List Tree). a ∷ bs) (branches-more m n b (omega (arith, h)))
branches-more (suc m) n t h = absurd (omega (arith, h))

behind-more : (m n : ℕ) (t : Tree) → HasBranches m t → tree_behind (m + n) t ≡ tree_behind n (tree_behind m t)
behind-more zero n t h = ap (λ (k : ℕ). tree_behind k t) (omega arith)
behind-more (suc m) n (alt a b) h =
    ap (λ (k : ℕ). tree_behind k (alt a b)) (let e : suc m + n ≡ suc (m + n) = omega arith in e)
    ∙ behind-more m n b (omega (arith, h))
behind-more (suc m) n t h = absurd (omega (arith, h))

or_false : (b : Bool) → b ≡ (b || false)
or_false true = refl
or_false false = refl

module _ (ts : List Tree) (k : ℕ) where
  -- past the first branch
  pub jump-one : (a b : ℕ) (p : Places) → get_or ts k nothing ≡ alt (get_or ts a nothing) (get_or ts b nothing) → b < k
      → ((x : ℕ) → x < 130 → is_in p x ≡ can_begin x (get_or ts a nothing)) → IsJump ts k (jump_to b 1 p)
  jump-one a b p is l h = record {
    back = omega arith;
    there = ap (λ (t : Tree). length (branches 1 t)) is;
    leads = sym (ap (tree_behind 1) is);
    begins = λ x m. h x m ∙ or_false (can_begin x (get_or ts a nothing)) ∙ sym (ap (λ (t : Tree). list_any (can_begin x) (branches 1 t)) is);
  }

  -- past no branch
  pub jump-none : (p : Places) → ((x : ℕ) → is_in p x ≡ false) → IsJump ts k (jump_to k 0 p)
  jump-none p h = record {
    back = omega arith;
    there = refl;
    leads = refl;
    begins = λ x m. h x;
  }

  -- one jump after the other
  pub jump-then : (j next : Jump) (n : ℕ) (p : Places) → IsJump ts k j → IsJump ts j.to next → n ≡ j.count + next.count
      → ((x : ℕ) → is_in p x ≡ (is_in (places_of j) x || is_in (places_of next) x)) → IsJump ts k (jump_to next.to n p)
  jump-then j next n p g h e either =
      let t : Tree = get_or ts k nothing in
      let more : branches n t ≡ branches j.count t ++ branches next.count (get_or ts j.to nothing) =
      ap (λ (m : ℕ). branches m t) e ∙ branches-more j.count next.count t g.there ∙ ap (λ (u : Tree). branches j.count t ++ branches next.count u) (sym g.leads) in
      record {
        back = omega (arith, g.back, h.back, e);
        there = ap length more ∙ omega (arith, length-append (branches j.count t) (branches next.count (get_or ts j.to nothing)), g.there, h.there, e);
        leads = h.leads ∙ ap (tree_behind next.count) g.leads ∙ sym (behind-more j.count next.count t g.there) ∙ ap (λ (m : ℕ). tree_behind m t) (sym e);
        begins = λ x m.
            either x ∙ ap (λ (b : Bool). b || is_in (places_of next) x) (g.begins x m) ∙ ap (λ (b : Bool). list_any (can_begin x) (branches j.count t) || b) (h.begins x m)
            ∙ sym (list_any-append (can_begin x) (branches j.count t) (branches next.count (get_or ts j.to nothing))) ∙ ap (list_any (can_begin x)) (sym more);
      }

-- past the first branch of the node
pub jump-first : (nodes : List Node) → IsOrdered nodes → (k : ℕ) (n : Node) → k < length nodes → n ≡ get_or nodes k n → (a b : ℕ) → n ≡ Node.Alternation a b
    → (ps : List Places) → length ps ≡ length nodes → AreFirsts ps (trees nodes) → (o : Option Places) (q d : Places) → o ≡ slice_get ps a → q ≡ unwrap_or o d
    → IsJump (trees nodes) k (jump_to b 1 q)
jump-first nodes h k n l is a b e ps count firsts o q d found taken =
    subst (λ (p : Places). IsJump (trees nodes) k (jump_to b 1 p)) (sym (places_or ps a o q d found taken))
    (jump-one (trees nodes) k a b (get_or ps a d) (tree-is nodes h k n l is (Node.Alternation a b) e) (second-before nodes h k n l is (Node.Alternation a b) e a b refl)
    (λ x m. firsts a x d (let p : a < k = first-before nodes h k n l is (Node.Alternation a b) e a b refl in omega (arith, p, l, count)) m))

pub AreJumps-push : (from : ℕ) (js : List Jump) (ts : List Tree) (j : Jump) (k : ℕ) → AreJumps from js ts → from + length js ≡ k → IsJump ts k j → AreJumps from (js ++ j ∷ []) ts
AreJumps-push from js ts j k h e is n d l =
    below_more (λ m. (c : Jump) → IsJump ts (from + m) (get_or (js ++ j ∷ []) m c)) (length js)
    (λ m p c. subst (IsJump ts (from + m)) (sym (get_or-append js (j ∷ []) c m p)) (h m c p))
    (λ c. subst (IsJump ts (from + length js)) (sym (get_or-append_seam js j [] c)) (subst (λ m. IsJump ts m j) (sym e) is)) n (omega (arith, length-append js (j ∷ []))) d

none_begins : (x : ℕ) (bs : List Tree) → list_any (can_begin x) bs ≡ false → (n : ℕ) (d : Tree) → n < length bs → can_begin x (get_or bs n d) ≡ false
none_begins x [] h n d l = absurd (omega arith)
none_begins x (b ∷ bs) h zero d l = left (can_begin x b) (list_any (can_begin x) bs) h
  where
    left : (p q : Bool) → (p || q) ≡ false → p ≡ false
    left true q e = cc
    left false q e = refl
none_begins x (b ∷ bs) h (suc n) d l = none_begins x bs (right (can_begin x b) (list_any (can_begin x) bs) h) n d (omega arith)
  where
    right : (p q : Bool) → (p || q) ≡ false → q ≡ false
    right true q e = cc
    right false q e = e

-- where no match of its branches can begin, a jump leads past branches without a match
pub jump-leads : (s : List ℕ) → IsUtf8 s → (i : ℕ) → IsCharBoundary s i → (ts : List Tree) (k : ℕ) (j : Jump) → IsJump ts k j → 0 < j.count
    → (x : ℕ) → x ≡ start_at s i → x < 130 → is_in (places_of j) x ≡ false → LeadsPast s i (get_or ts k nothing) (get_or ts j.to nothing)
jump-leads s u i at ts k j h some x is l e = record {
  count = j.count;
  some = some;
  there = h.there;
  leads = h.leads;
  dead = λ n d m g.
      let bs : List Tree = branches j.count (get_or ts k nothing) in
      dead-at s u (get_or bs n d) i (ap (λ (y : ℕ). can_begin y (get_or bs n d)) (sym is) ∙ none_begins x bs (sym (h.begins x l) ∙ e) n d m) at g;
}
