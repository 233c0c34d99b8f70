-- Where the whole match ends from a cell, by its parts.
use Rattle.std.proofs.Common.{◌≡◌, ℕ, zero, suc, ◌+◌, ◌-◌, ◌<◌, ◌≤◌, List, [], length, Bool, true, false, Option, Some, None, refl, sym, ap, subst, ◌∙◌, arith, inl, inr, ◌⊎◌}
use Rattle.std.specs.Prelude.{if◌then◌else◌, ◌&&◌, ◌||◌, ◌==◌, nat_lt, not, is_some, option_map, option_and_then, IsUtf8, IsCharBoundary}
use Rattle.std.specs.Option.{option_or}
use Rattle.std.specs.Char.{len_utf8}
use Rattle.syntect_pattern_linear.specs.syntect_pattern.Text.{char_at}
use Rattle.syntect_pattern_linear.specs.syntect_pattern.Sets.{Set, holds}
use Rattle.syntect_pattern_linear.specs.syntect_pattern.Trees.{Tree, nothing, one_of, anchor, seq, alt, repeat, group, atomic, ahead, behind}
use Rattle.syntect_pattern_linear.specs.syntect_pattern.declared.anchor.Anchor.{Anchor}
use Rattle.syntect_pattern_linear.specs.syntect_pattern.Matches.{anchor_holds}
use Rattle.syntect_pattern_linear.specs.syntect_pattern_steps.Steps.{after_char}
use Rattle.syntect_pattern_plan.specs.Onward.{Onward, moved, reads, is_free, onward, prefer_end, turn_end, end_if}
use Rattle.syntect_pattern_plan.specs.Cells.{cell_at, parts_at, item_tree, is_end, tree_size, ends, height}
use Rattle.syntect_pattern_plan.specs.Plan.{IsPart, IsSequence, IsTurn, TurnIs, LooksFor, IsStep, IsPlanned}
use Rattle.syntect_pattern_plan.specs.Sights.{ends_here}
use Rattle.syntect_pattern_plan.specs.declared.cells.Cell.{Cell}
use Rattle.syntect_pattern_plan.specs.declared.cells.Parts.{Parts}
use Rattle.syntect_pattern_plan.proofs.TreeLaws.{and_right}
use Rattle.syntect_pattern_plan.proofs.OnwardLaws.{following, moved-at, moved-past, moved-same, onward-alike, onward-nothing, onward-one_of, onward-anchor, onward-alt, onward-group, onward-atomic, onward-ahead, onward-seq, onward-repeat, onward-reads, look-end, first-ends, first-behind}
use Rattle.syntect_pattern_plan.proofs.CellLaws.{real-inside, height-part, height-end, ends-part, ends-end, either-bool}

-- a cell of a plan that has this tree
pub record IsAt (s : List ℕ) (ts : List Tree) (cells : List Cell) (parts : List Parts) (behinds : List ℕ) (k : ℕ) (t : Tree) : Type 0 where
  pub root : ℕ
  pub utf8 : IsUtf8 s
  pub planned : IsPlanned ts cells parts behinds root
  pub whole : length parts ≡ length cells
  pub inside : k < length cells
  pub real : is_end (cell_at cells k).item ≡ false
  pub tree : item_tree ts (cell_at cells k).item ≡ t

module _ (s : List ℕ) (ts : List Tree) (cells : List Cell) (parts : List Parts) (behinds : List ℕ) (k : ℕ) where
  abbrev At : Tree → Type 0
  At t = IsAt s ts cells parts behinds k t

  abbrev f : ℕ
  f = (cell_at cells k).empty

  abbrev g : ℕ
  g = (cell_at cells k).next

  abbrev p : Parts
  p = parts_at parts k

  abbrev E : ℕ → Onward
  E n = ends s ts cells n

  abbrev H : ℕ → ℕ
  H n = height ts cells n

  pub own : (t : Tree) → At t → IsPart ts cells k t f g
  own t x = record {
    item = (cell_at cells k).item;
    real = x.real;
    cell = record { inside = x.inside; item_is = refl; next_is = refl; empty_is = λ r. refl };
    tree = x.tree;
  }

  pub step : (t : Tree) → At t → IsStep ts cells behinds f g p t
  step t x = let P : Tree → Type 0 = λ y. IsStep ts cells behinds f g p y in subst P x.tree (x.planned.steps k (omega (arith, x.inside, x.whole)))

  pub free : (t : Tree) → At t → is_free t ≡ true
  free t x = ap is_free (sym x.tree) ∙ x.planned.cells_are.free k

  pub positive : (t : Tree) → At t → 0 < k
  positive t x = real-inside ts cells x.planned.cells_are k x.real

  pub f-inside : (t : Tree) → At t → f < length cells
  f-inside t x = let a = x.planned.cells_are.empty k (positive t x) x.inside in let b = x.inside in omega arith

  pub g-inside : (t : Tree) → At t → g < length cells
  g-inside t x = let a = x.planned.cells_are.next k (positive t x) x.inside in let b = x.inside in omega arith

  pub high : (t : Tree) → At t → H k ≡ tree_size t + (if reads t then 0 else H f)
  high t x = height-part ts cells x.planned.cells_are k t f g (own t x)

  pub goes : (t : Tree) → At t → (i : ℕ) → IsCharBoundary s i → E k i ≡ onward s t (moved i (E f) (E g)) i
  goes t x i c = ends-part s ts cells x.planned.cells_are x.utf8 k t f g i c (own t x)

  pub part-goes : (t : Tree) → At t → (n : ℕ) (a : Tree) (e h i : ℕ) → IsCharBoundary s i → IsPart ts cells n a e h → E n i ≡ onward s a (moved i (E e) (E h)) i
  part-goes t x n a e h i c q = ends-part s ts cells x.planned.cells_are x.utf8 n a e h i c q

  part-high : (t : Tree) → At t → (n : ℕ) (a : Tree) (e h : ℕ) → IsPart ts cells n a e h → H n ≡ tree_size a + (if reads a then 0 else H e)
  part-high t x n a e h q = height-part ts cells x.planned.cells_are n a e h q

  -- a part that follows another one
  pub following-is : (t : Tree) (x : At t) (n : ℕ) (b : Tree) (e h i : ℕ) → IsCharBoundary s i → IsPart ts cells n b e h → following s x.utf8 b (E e) (E h) i ≡ E n i
  following-is t x n b e h i c q = sym (part-goes t x n b e h i c q)

  -- the end of the match
  pub zero-ends : (t : Tree) → At t → (i : ℕ) → E 0 i ≡ Some i
  zero-ends t x i = ends-end s ts cells x.planned.cells_are 0 i (ap (λ (c : Cell). is_end c.item) x.planned.cells_are.last) x.planned.cells_are.some

  pub region : (t : Tree) → At t → (n : ℕ) (a : Tree) (i : ℕ) → IsCharBoundary s i → IsPart ts cells n a 0 0 → E n i ≡ onward s a Some i
  region t x n a i c q =
      part-goes t x n a 0 0 i c q
      ∙ onward-alike s x.utf8 a (moved i (E 0) (E 0)) Some i c (λ j l d. moved-same i j (E 0) ∙ zero-ends t x j)

  -- what is reached at one place is less high
  pub record Below (n : ℕ) : Type 0 where
    pub there : n < length cells
    pub lower : H n < H k

  below-empty : (t : Tree) → At t → reads t ≡ false → 0 < tree_size t → Below f
  below-empty t x r z = record { there = f-inside t x; lower = let e : H k ≡ tree_size t + H f = high t x ∙ ap (λ (b : Bool). tree_size t + (if b then 0 else H f)) r in omega arith }

  -- -- Each kind of tree

  module _ (i : ℕ) (c : IsCharBoundary s i) where
    pub at-nothing : At nothing → (E k i ≡ E f i) × Below f
    at-nothing x =
        (goes nothing x i c ∙ onward-nothing s (moved i (E f) (E g)) i ∙ moved-at i (E f) (E g), below-empty nothing x refl (omega arith))

    pub at-anchor : (a : Anchor) → At (anchor a) → (E k i ≡ end_if (anchor_holds s a i) (E f i)) × Below f
    at-anchor a x = (
      goes (anchor a) x i c ∙ onward-anchor s a (moved i (E f) (E g)) i ∙ ap (end_if (anchor_holds s a i)) (moved-at i (E f) (E g)),
      below-empty (anchor a) x refl (omega arith),
    )

    past-moved : (test : ℕ → Bool) (o : Option ℕ) → option_and_then (moved i (E f) (E g)) (after_char test o i) ≡ option_and_then (E g) (after_char test o i)
    past-moved test None = refl
    past-moved test (Some d) = by (test d)
      where
        by : (b : Bool) → option_and_then (moved i (E f) (E g)) (if b then Some (i + len_utf8 d) else None) ≡ option_and_then (E g) (if b then Some (i + len_utf8 d) else None)
        by true = moved-past i (i + len_utf8 d) (E f) (E g) (grind arith)
        by false = refl

    pub at-one_of : (a : Set) → At (one_of a) → E k i ≡ option_and_then (E g) (after_char (holds a) (char_at s i) i)
    at-one_of a x = goes (one_of a) x i c ∙ onward-one_of s a (moved i (E f) (E g)) i ∙ past-moved (holds a) (char_at s i)

    seq-lower : (x y : ℕ) (b d : Bool) (high first at e : ℕ) → high ≡ suc (x + y) + (if b || d then 0 else e) → first ≡ x + (if b then 0 else at)
        → (b ≡ false → at ≡ y + (if d then 0 else e)) → first < high
    seq-lower x y true d high first at e p q r = omega arith
    seq-lower x y false true high first at e p q r = let z = r refl in omega arith
    seq-lower x y false false high first at e p q r = let z = r refl in omega arith

    pub at-seq : (a b : Tree) → At (seq a b) → (E k i ≡ E p.first i) × Below p.first
    at-seq a b x =
        let t : Tree = seq a b in
        let h : IsSequence ts cells f g p.first a b = step t x in
        let fb : is_free b ≡ true = and_right (is_free a) (is_free b) (free t x) in
        let same : (j : ℕ) → IsCharBoundary s j → following s x.utf8 b (E g) (E g) j ≡ E h.behind_it j = λ j d. following-is t x h.behind_it b g g j d h.second_is in
        let reached : onward s a (moved i (following s x.utf8 b (E f) (E g)) (following s x.utf8 b (E g) (E g))) i ≡ onward s a (moved i (E h.at) (E h.behind_it)) i =
        elim (either-bool (reads a)) [
          | inl r ↦
              onward-reads s x.utf8 a (following s x.utf8 b (E f) (E g)) (E h.at) (following s x.utf8 b (E g) (E g)) i r c
              ∙ onward-alike s x.utf8 a (moved i (E h.at) (following s x.utf8 b (E g) (E g))) (moved i (E h.at) (E h.behind_it)) i c
              (λ j l d. ap (λ (o : Option ℕ). if j == i then E h.at j else o) (same j d))
          | inr r ↦
              onward-alike s x.utf8 a (moved i (following s x.utf8 b (E f) (E g)) (following s x.utf8 b (E g) (E g))) (moved i (E h.at) (E h.behind_it)) i c
              (λ j l d.
              ap (λ (o : Option ℕ). if j == i then o else following s x.utf8 b (E g) (E g) j) (following-is t x h.at b f g j d (h.again_is r))
              ∙ ap (λ (o : Option ℕ). if j == i then E h.at j else o) (same j d))
        ] in (
          goes t x i c
              ∙ onward-seq s x.utf8 a b fb (E f) (E g) i c
              ∙ reached
              ∙ sym (part-goes t x p.first a h.at h.behind_it i c h.first_is),
          record {
            there = h.first_is.cell.inside;
            lower =
                seq-lower (tree_size a) (tree_size b) (reads a) (reads b) (H k) (H p.first) (H h.at) (H f) (high t x)
                (part-high t x p.first a h.at h.behind_it h.first_is) (λ r. part-high t x h.at b f g (h.again_is r));
          },
        )

    alt-lower : (x y : ℕ) (b d : Bool) (high first e : ℕ) → high ≡ suc (x + y) + (if b && d then 0 else e) → (first ≡ x + (if b then 0 else e)) ⊎ (first ≡ y + (if d then 0 else e)) → first < high
    alt-lower x y true true high first e p (inl q) = omega arith
    alt-lower x y true false high first e p (inl q) = omega arith
    alt-lower x y false d high first e p (inl q) = omega arith
    alt-lower x y true true high first e p (inr q) = omega arith
    alt-lower x y true false high first e p (inr q) = omega arith
    alt-lower x y false true high first e p (inr q) = omega arith
    alt-lower x y false false high first e p (inr q) = omega arith

    pub at-alt : (a b : Tree) → At (alt a b) → (E k i ≡ option_or (E p.first i) (E p.second i)) × Below p.first × Below p.second
    at-alt a b x =
        let t : Tree = alt a b in
        let h : IsPart ts cells p.first a f g × IsPart ts cells p.second b f g = step t x in (
          goes t x i c
              ∙ onward-alt s a b (moved i (E f) (E g)) i
              ∙ ap (λ (o : Option ℕ). option_or o (onward s b (moved i (E f) (E g)) i)) (sym (part-goes t x p.first a f g i c h.0))
              ∙ ap (option_or (E p.first i)) (sym (part-goes t x p.second b f g i c h.1)),
          record {
            there = h.0.cell.inside;
            lower = alt-lower (tree_size a) (tree_size b) (reads a) (reads b) (H k) (H p.first) (H f) (high t x) (inl (part-high t x p.first a f g h.0));
          },
          record {
            there = h.1.cell.inside;
            lower = alt-lower (tree_size a) (tree_size b) (reads a) (reads b) (H k) (H p.second) (H f) (high t x) (inr (part-high t x p.second b f g h.1));
          },
        )

    pub at-group : (n : ℕ) (a : Tree) → At (group n a) → (E k i ≡ E p.first i) × Below p.first
    at-group n a x =
        let t : Tree = group n a in
        let h : IsPart ts cells p.first a f g = step t x in (
          goes t x i c ∙ onward-group s n a (moved i (E f) (E g)) i ∙ sym (part-goes t x p.first a f g i c h),
          record { there = h.cell.inside; lower = omega (arith, high t x, part-high t x p.first a f g h) },
        )

    region-lower : (x : ℕ) (b : Bool) (high first rest zero_high : ℕ) → high ≡ suc (suc x) + rest → first ≡ x + (if b then 0 else zero_high) → zero_high ≡ 0 → first < high
    region-lower x true high first rest z p q r = omega arith
    region-lower x false high first rest z p q r = omega arith

    zero-high : (t : Tree) → At t → H 0 ≡ 0
    zero-high t x = height-end ts cells x.planned.cells_are

    pub at-atomic : (a : Tree) → At (atomic a) → (E k i ≡ option_and_then (moved i (E f) (E g)) (E p.first i)) × Below p.first
    at-atomic a x =
        let t : Tree = atomic a in
        let h : IsPart ts cells p.first a 0 0 = step t x in (
          goes t x i c ∙ onward-atomic s a (moved i (E f) (E g)) i ∙ ap (option_and_then (moved i (E f) (E g))) (sym (region t x p.first a i c h)),
          record {
            there = h.cell.inside;
            lower = region-lower (tree_size a) (reads a) (H k) (H p.first) _ (H 0) (high t x) (part-high t x p.first a 0 0 h) (zero-high t x);
          },
        )

    -- where the part ends
    pub atomic-ends : (a : Tree) → At (atomic a) → (e : ℕ) → E p.first i ≡ Some e → (i ≤ e) × IsCharBoundary s e
    atomic-ends a x e q = first-ends s x.utf8 a i e c (sym (region (atomic a) x p.first a i c (step (atomic a) x)) ∙ q)

    pub atomic-empty : (a : Tree) → At (atomic a) → (e : ℕ) → E p.first i ≡ Some e → e ≡ i → Below f
    atomic-empty a x e q z =
        elim (either-bool (reads a)) [
          | inl r ↦ absurd (let l = first-behind s x.utf8 a i e c r (sym (region (atomic a) x p.first a i c (step (atomic a) x)) ∙ q) in omega arith)
          | inr r ↦ below-empty (atomic a) x r (omega arith)
        ]

    pub at-ahead : (negated : Bool) (a : Tree) → At (ahead negated a)
        → (E k i ≡ end_if (if negated then not (is_some (E p.first i)) else is_some (E p.first i)) (E f i)) × Below p.first × Below f
    at-ahead negated a x =
        let t : Tree = ahead negated a in
        let h : IsPart ts cells p.first a 0 0 = step t x in (
          goes t x i c
              ∙ onward-ahead s negated a (moved i (E f) (E g)) i
              ∙ ap (λ (o : Option ℕ). end_if (if negated then not (is_some o) else is_some o) (moved i (E f) (E g) i)) (sym (region t x p.first a i c h))
              ∙ ap (end_if (if negated then not (is_some (E p.first i)) else is_some (E p.first i))) (moved-at i (E f) (E g)),
          record {
            there = h.cell.inside;
            lower = region-lower (tree_size a) (reads a) (H k) (H p.first) _ (H 0) (high t x) (part-high t x p.first a 0 0 h) (zero-high t x);
          },
          below-empty t x refl (omega arith),
        )

    pub at-behind : (negated : Bool) (a : Tree) → At (behind negated a)
        → (E k i ≡ end_if (if negated then not (ends_here s a i) else ends_here s a i) (E f i)) × LooksFor ts behinds p.first a × Below f
    unfolding onward ends_here
    at-behind negated a x =
        let t : Tree = behind negated a in (
          goes t x i c
              ∙ look-end negated (moved i (E f) (E g)) i [] _
              ∙ ap (end_if _) (moved-at i (E f) (E g)),
          step t x,
          below-empty t x refl (omega arith),
        )

    loop-lower : (x : ℕ) (b d : Bool) (high first e : ℕ) → high ≡ suc x + (if d && b then 0 else e) → first ≡ x + (if b then 0 else e) → first < high
    loop-lower x true d high first e p q = omega arith
    loop-lower x false true high first e p q = omega arith
    loop-lower x false false high first e p q = omega arith

    none-left : (d : Bool) (P : Type 0) → (nat_lt 0 0 ≡ d) → P → P
    none-left d P e h = h

    turn-reaches : (greedy : Bool) (least : ℕ) (most : Option ℕ) (a : Tree) (x : At (repeat greedy least most a)) → (h : IsTurn ts cells f g p.first greedy least most a)
        → onward s a (moved i (E f) (following s x.utf8 (repeat greedy (least - 1) (option_map (λ k. k - 1) most) a) (E g) (E g))) i ≡ E p.first i
    turn-reaches greedy least most a x h =
        let t : Tree = repeat greedy least most a in
        let rest : Tree = repeat greedy (least - 1) (option_map (λ k. k - 1) most) a in
        onward-alike s x.utf8 a (moved i (E f) (following s x.utf8 rest (E g) (E g))) (moved i (E f) (E h.more)) i c
        (λ j l d. ap (λ (o : Option ℕ). if j == i then E f j else o) (following-is t x h.more rest g g j d h.more_is))
        ∙ sym (part-goes t x p.first a f h.more i c h.first_is)

    pub turn-ends : (greedy : Bool) (least : ℕ) (most : Option ℕ) (a : Tree) (x : At (repeat greedy least most a)) (m : Option ℕ)
        → TurnIs m (IsTurn ts cells f g p.first greedy least most a)
        → turn_end m (onward s a (moved i (E f) (following s x.utf8 (repeat greedy (least - 1) (option_map (λ k. k - 1) most) a) (E g) (E g))) i) ≡ turn_end m (E p.first i)
    turn-ends greedy least most a x None h = turn-reaches greedy least most a x h
    turn-ends greedy least most a x (Some zero) h = refl
    turn-ends greedy least most a x (Some (suc n)) h = turn-reaches greedy least most a x h

    turn-below : (greedy : Bool) (least : ℕ) (most : Option ℕ) (a : Tree) (x : At (repeat greedy least most a)) (m : Option ℕ)
        → TurnIs m (IsTurn ts cells f g p.first greedy least most a) → TurnIs m (Below p.first)
    turn-below greedy least most a x None h = record {
      there = h.first_is.cell.inside;
      lower = loop-lower (tree_size a) (reads a) (nat_lt 0 least) (H k) (H p.first) (H f) (high (repeat greedy least most a) x) (part-high (repeat greedy least most a) x p.first a f h.more h.first_is);
    }
    turn-below greedy least most a x (Some zero) h = tt
    turn-below greedy least most a x (Some (suc n)) h = record {
      there = h.first_is.cell.inside;
      lower = loop-lower (tree_size a) (reads a) (nat_lt 0 least) (H k) (H p.first) (H f) (high (repeat greedy least most a) x) (part-high (repeat greedy least most a) x p.first a f h.more h.first_is);
    }

    no-least : (least : ℕ) (a : Bool) → least ≡ 0 → (nat_lt 0 least && a) ≡ false
    no-least zero a e = refl
    no-least (suc n) a e = absurd (omega arith)

    pub at-repeat : (greedy : Bool) (least : ℕ) (most : Option ℕ) (a : Tree) → At (repeat greedy least most a)
        → (E k i ≡ prefer_end greedy (turn_end most (E p.first i)) (end_if (least == 0) (E f i))) × TurnIs most (Below p.first) × (least ≡ 0 → Below f)
    at-repeat greedy least most a x =
        let t : Tree = repeat greedy least most a in
        let h : TurnIs most (IsTurn ts cells f g p.first greedy least most a) = step t x in (
          goes t x i c
              ∙ onward-repeat s x.utf8 greedy least most a (free t x) (E f) (E g) i c
              ∙ ap (λ (o : Option ℕ). prefer_end greedy o (end_if (least == 0) (E f i))) (turn-ends greedy least most a x most h),
          turn-below greedy least most a x most h,
          λ z. below-empty t x (no-least least (reads a) z) (omega arith),
        )
