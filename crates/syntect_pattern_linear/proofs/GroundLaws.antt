-- What a search stands on.
use Rattle.std.proofs.Common.{◌≡◌, ℕ, zero, suc, ◌+◌, ◌-◌, ◌<◌, List, length, Bool, true, false, Option, Some, None, refl, sym, ap, subst, ◌∙◌, arith, set, get_or}
use Rattle.std.specs.Prelude.{if◌then◌else◌, ◌||◌, ◌==◌, not, is_some, IfSome, option_and_then, IsCharBoundary}
use Rattle.std.specs.Option.{option_or}
use Rattle.std.specs.Char.{len_utf8}
use Rattle.syntect_pattern_linear.specs.syntect_pattern.Text.{char_at}
use Rattle.syntect_pattern_linear.specs.syntect_pattern.Sets.{Set, holds}
use Rattle.syntect_pattern_linear.specs.syntect_pattern.Matches.{anchor_holds}
use Rattle.syntect_pattern_linear.specs.syntect_pattern_steps.Steps.{after_char}
use Rattle.syntect_pattern_plan.specs.Onward.{plain, is_bare, moved, prefer_end, turn_end, has_turn, end_if}
use Rattle.syntect_pattern_plan.specs.Plan.{TurnIs}
use Rattle.syntect_pattern_plan.proofs.OnwardLaws.{moved-at, moved-past}
use Rattle.syntect_pattern_plan.proofs.TreeLaws.{and_left}
use Rattle.syntect_pattern_linear.specs.syntect_pattern.Trees.{Tree, nothing, one_of, anchor, seq, alt, repeat, group, atomic, ahead, behind}
use Rattle.syntect_pattern_linear.specs.syntect_pattern.declared.anchor.Anchor.{Anchor}
use Rattle.syntect_pattern_linear.specs.syntect_pattern_table.Program.{trees_of}
use Rattle.syntect_pattern_plan.specs.Cells.{cell_at, parts_at}
use Rattle.syntect_pattern_linear.specs.Rows.{row_end}
use Rattle.syntect_pattern_plan.specs.Sights.{row_flag, ends_here}
use Rattle.syntect_pattern_linear.specs.Ground.{IsGround, IsReady, IsIn, Knows, ends_at, height_of}
use Rattle.syntect_pattern_linear.specs.Step.{IsTreeAt}
use Rattle.syntect_pattern_linear.specs.declared.ground.Ground.{Ground}
use Rattle.syntect_pattern_plan.specs.declared.cells.Cell.{Cell}
use Rattle.syntect_pattern_plan.specs.declared.cells.Parts.{Parts}
use Rattle.syntect_pattern_linear.proofs.RowLaws.{set-cases}
use Rattle.syntect_pattern_linear.proofs.StepLaws.{IsAt, Below, free, g-inside, at-nothing, at-anchor, at-one_of, at-seq, at-alt, at-group, at-atomic, atomic-ends, atomic-empty, at-ahead, at-behind, at-repeat}

pub ground-of : (x : Ground) (place : ℕ) → IsReady x place → IsGround x place
ground-of x place r = record { utf8 = r.utf8; plan_is = r.plan_is; sights_are = r.sights_are; boundary = r.boundary }

pub tree-on : (x : Ground) (place k : ℕ) (t : Tree) → IsGround x place → IsTreeAt x k t
    → IsAt x.text.now (trees_of x.program.now) x.plan.now.cells x.plan.now.parts x.plan.now.behinds k t
tree-on x place k t r h = record {
  root = x.program.now.root;
  utf8 = r.utf8;
  planned = r.plan_is.planned;
  whole = r.plan_is.whole;
  inside = h.inside;
  real = h.real;
  tree = h.tree;
}

pub tree-at : (x : Ground) (place k : ℕ) (t : Tree) → IsReady x place → IsTreeAt x k t
    → IsAt x.text.now (trees_of x.program.now) x.plan.now.cells x.plan.now.parts x.plan.now.behinds k t
tree-at x place k t r h = tree-on x place k t (ground-of x place r) h

-- the cell goes on at the same place
pub record Lower (x : Ground) (k n : ℕ) : Type 0 where
  pub there : IsIn x n
  pub lower : height_of x n < height_of x k

pub lower-at : (x : Ground) (k n m : ℕ) → m ≡ n → Lower x k n → Lower x k m
lower-at x k n m e l = subst (λ (j : ℕ). Lower x k j) (sym e) l

-- one more is known
pub known-set : (x : Ground) (place k : ℕ) (now new : List (Option (Option ℕ))) (o : Option ℕ) → new ≡ set now k (Some o) → o ≡ ends_at x k place → Knows x place now → Knows x place new
known-set x place k now new o e h a j p q =
    set-cases now k j (Some o) p (λ i w. w ≡ ends_at x i place) h (λ z. a j p z) (ap (λ (l : List (Option (Option ℕ))). get_or l j None) (sym e) ∙ q)

-- Where the whole match ends from a cell, by what its parts were reached with.
module _ (x : Ground) (place k : ℕ) (r : IsGround x place) where
  abbrev s : List ℕ
  s = x.text.now

  abbrev ts : List Tree
  ts = trees_of x.program.now

  abbrev cells : List Cell
  cells = x.plan.now.cells

  abbrev parts : List Parts
  parts = x.plan.now.parts

  abbrev behinds : List ℕ
  behinds = x.plan.now.behinds

  abbrev At : Tree → Type 0
  At t = IsTreeAt x k t

  abbrev IsEmpty : ℕ → Type 0
  IsEmpty e = e ≡ (cell_at cells k).empty

  abbrev IsNext : ℕ → Type 0
  IsNext n = n ≡ (cell_at cells k).next

  abbrev IsFirst : ℕ → Type 0
  IsFirst n = n ≡ (parts_at parts k).first

  below : (n m : ℕ) → m ≡ n → Below s ts cells parts behinds k n → Lower x k m
  below n m e b = lower-at x k n m e (record { there = b.there; lower = b.lower })

  same-ends : (n m : ℕ) → m ≡ n → ends_at x n place ≡ ends_at x m place
  same-ends n m e = ap (λ (j : ℕ). ends_at x j place) (sym e)

  pub nothing-goes : At nothing → (e : ℕ) → IsEmpty e → (ends_at x k place ≡ ends_at x e place) × Lower x k e
  nothing-goes h e q =
      let g = at-nothing s ts cells parts behinds k place r.boundary (tree-on x place k nothing r h) in
      (g.0 ∙ same-ends _ e q, below _ e q g.1)

  pub anchor-goes : (a : Anchor) → At (anchor a) → (e : ℕ) → IsEmpty e → (ends_at x k place ≡ end_if (anchor_holds s a place) (ends_at x e place)) × Lower x k e
  anchor-goes a h e q =
      let g = at-anchor s ts cells parts behinds k place r.boundary a (tree-on x place k (anchor a) r h) in
      (g.0 ∙ ap (end_if (anchor_holds s a place)) (same-ends _ e q), below _ e q g.1)

  pub seq-goes : (a b : Tree) → At (seq a b) → (n : ℕ) → IsFirst n → (ends_at x k place ≡ ends_at x n place) × Lower x k n
  seq-goes a b h n q =
      let g = at-seq s ts cells parts behinds k place r.boundary a b (tree-on x place k (seq a b) r h) in
      (g.0 ∙ same-ends _ n q, below _ n q g.1)

  pub alt-goes : (a b : Tree) → At (alt a b) → (n m : ℕ) → IsFirst n → m ≡ (parts_at parts k).second
      → (ends_at x k place ≡ option_or (ends_at x n place) (ends_at x m place)) × Lower x k n × Lower x k m
  alt-goes a b h n m q w =
      let g = at-alt s ts cells parts behinds k place r.boundary a b (tree-on x place k (alt a b) r h) in (
        g.0 ∙ ap (λ (o : Option ℕ). option_or o (ends_at x (parts_at parts k).second place)) (same-ends _ n q) ∙ ap (option_or (ends_at x n place)) (same-ends _ m w),
        below _ n q g.1,
        below _ m w g.2,
      )

  pub group-goes : (d : ℕ) (a : Tree) → At (group d a) → (n : ℕ) → IsFirst n → (ends_at x k place ≡ ends_at x n place) × Lower x k n
  group-goes d a h n q =
      let g = at-group s ts cells parts behinds k place r.boundary d a (tree-on x place k (group d a) r h) in
      (g.0 ∙ same-ends _ n q, below _ n q g.1)

  pub ahead-goes : (negated : Bool) (a : Tree) → At (ahead negated a) → (n e : ℕ) → IsFirst n → IsEmpty e
      → (ends_at x k place ≡ end_if (if negated then not (is_some (ends_at x n place)) else is_some (ends_at x n place)) (ends_at x e place)) × Lower x k n × Lower x k e
  ahead-goes negated a h n e q w =
      let g = at-ahead s ts cells parts behinds k place r.boundary negated a (tree-on x place k (ahead negated a) r h) in (
        g.0
            ∙ ap (λ (o : Option ℕ). end_if (if negated then not (is_some o) else is_some o) (ends_at x (cell_at cells k).empty place)) (same-ends _ n q)
            ∙ ap (end_if (if negated then not (is_some (ends_at x n place)) else is_some (ends_at x n place))) (same-ends _ e w),
        below _ n q g.1,
        below _ e w g.2,
      )

  pub behind-goes : (negated : Bool) (a : Tree) → At (behind negated a) → (n e : ℕ) (flag : Bool) → IsFirst n → IsEmpty e → flag ≡ row_flag x.sights.now n place
      → (ends_at x k place ≡ end_if (if negated then not flag else flag) (ends_at x e place)) × Lower x k e
  behind-goes negated a h n e flag q w z =
      let g = at-behind s ts cells parts behinds k place r.boundary negated a (tree-on x place k (behind negated a) r h) in
      let seen : flag ≡ ends_here s a place =
      z ∙ ap (λ (j : ℕ). row_flag x.sights.now j place) q
      ∙ r.sights_are (parts_at parts k).first place g.1.inside (ap plain g.1.tree ∙ and_left (plain a) (negated || is_bare a) (free s ts cells parts behinds k (behind negated a) (tree-on x place k (behind negated a) r h))) r.boundary
      ∙ ap (λ (t : Tree). ends_here s t place) g.1.tree in (
        g.0
            ∙ ap (λ (b : Bool). end_if (if negated then not b else b) (ends_at x (cell_at cells k).empty place)) (sym seen)
            ∙ ap (end_if (if negated then not flag else flag)) (same-ends _ e w),
        below _ e w g.2,
      )

  pub past-on : (test : ℕ → Bool) (c : Option ℕ) (j : ℕ) → after_char test c place ≡ Some j → place < j
  past-on test None j e = cc
  past-on test (Some d) j e = by (test d) e
    where
      by : (b : Bool) → (if b then Some (place + len_utf8 d) else None) ≡ Some j → place < j
      by true e = let z : place + len_utf8 d ≡ j = cc in let y : 0 < len_utf8 d = grind arith in omega arith
      by false e = cc

  pub char-on : (a : Set) → At (one_of a) → (n : ℕ) (o : Option ℕ) → IsNext n → o ≡ after_char (holds a) (char_at s place) place
      → ends_at x k place ≡ option_and_then (λ j. ends_at x n j) o
  char-on a h n o q e =
      let g = at-one_of s ts cells parts behinds k place r.boundary a (tree-on x place k (one_of a) r h) in
      g ∙ ap (option_and_then (ends_at x (cell_at cells k).next)) (sym e) ∙ ap (λ (j : ℕ). option_and_then (ends_at x j) o) (sym q)

  pub next-inside : (t : Tree) → At t → (n : ℕ) → IsNext n → n < length cells
  next-inside t h n q = let z = g-inside s ts cells parts behinds k t (tree-on x place k t r h) in rw q z

  pub atomic-on : (a : Tree) → At (atomic a) → (n e m : ℕ) → IsFirst n → IsEmpty e → IsNext m → Lower x k n
      × (ends_at x n place ≡ None → ends_at x k place ≡ None)
      × ((j : ℕ) → ends_at x n place ≡ Some j → j ≡ place → (ends_at x k place ≡ ends_at x e place) × Lower x k e)
      × ((j : ℕ) → ends_at x n place ≡ Some j → (j ≡ place → ⊥) → (ends_at x k place ≡ ends_at x m j) × (place < j) × IsCharBoundary s j)
  atomic-on a h n e m q w v =
      let at = tree-on x place k (atomic a) r h in
      let g = at-atomic s ts cells parts behinds k place r.boundary a at in
      let f = (cell_at cells k).empty in
      let l = (cell_at cells k).next in
      let by : (o : Option ℕ) → ends_at x n place ≡ o → ends_at x k place ≡ option_and_then (moved place (ends_at x f) (ends_at x l)) o =
      λ o z. g.0 ∙ ap (option_and_then (moved place (ends_at x f) (ends_at x l))) (same-ends _ n q ∙ z) in (
        below _ n q g.1,
        λ z. by None z,
        λ j z y.
            let at_place : ends_at x k place ≡ moved place (ends_at x f) (ends_at x l) place = by (Some j) z ∙ ap (moved place (ends_at x f) (ends_at x l)) y in (
              at_place ∙ moved-at place (ends_at x f) (ends_at x l) ∙ same-ends _ e w,
              below _ e w (atomic-empty s ts cells parts behinds k place r.boundary a at j (same-ends _ n q ∙ z) y),
            ),
        λ j z y.
            let on = atomic-ends s ts cells parts behinds k place r.boundary a at j (same-ends _ n q ∙ z) in
            let past : place < j = let b = on.0 in omega (arith, y) in
            (by (Some j) z ∙ moved-past place j (ends_at x f) (ends_at x l) past ∙ ap (λ (i : ℕ). ends_at x i j) (sym v), past, on.1),
      )

  turn-lower : (most : Option ℕ) (n : ℕ) → IsFirst n → TurnIs most (Below s ts cells parts behinds k (parts_at parts k).first) → has_turn most ≡ true → Lower x k n
  turn-lower None n q b e = below _ n q b
  turn-lower (Some zero) n q b e = cc
  turn-lower (Some (suc m)) n q b e = below _ n q b

  pub turn-if : (most o : Option ℕ) → turn_end most o ≡ end_if (has_turn most) o
  turn-if None o = refl
  turn-if (Some zero) o = refl
  turn-if (Some (suc n)) o = refl

  pub zero-is : (least : ℕ) → (least == 0) ≡ true → least ≡ 0
  zero-is least e = grind arith

  pub loop-goes : (greedy : Bool) (least : ℕ) (most : Option ℕ) (a : Tree) → At (repeat greedy least most a) → (n e : ℕ) → IsFirst n → IsEmpty e
      → (ends_at x k place ≡ prefer_end greedy (end_if (has_turn most) (ends_at x n place)) (end_if (least == 0) (ends_at x e place)))
      × (has_turn most ≡ true → Lower x k n) × ((least == 0) ≡ true → Lower x k e)
  loop-goes greedy least most a h n e q w =
      let g = at-repeat s ts cells parts behinds k place r.boundary greedy least most a (tree-on x place k (repeat greedy least most a) r h) in (
        g.0
            ∙ ap (λ (o : Option ℕ). prefer_end greedy o (end_if (least == 0) (ends_at x (cell_at cells k).empty place)))
            (turn-if most (ends_at x (parts_at parts k).first place) ∙ ap (end_if (has_turn most)) (same-ends _ n q))
            ∙ ap (λ (o : Option ℕ). prefer_end greedy (end_if (has_turn most) (ends_at x n place)) (end_if (least == 0) o)) (same-ends _ e w),
        λ z. turn-lower most n q g.1 z,
        λ z. below _ e w (g.2 (zero-is least z)),
      )

-- The same by the rows of later places.
module _ (x : Ground) (place k : ℕ) (r : IsReady x place) where
  ground : IsGround x place
  ground = ground-of x place r

  -- a row of a later place
  pub later-row : (n j : ℕ) → place < j → IsCharBoundary x.text.now j → n < length x.plan.now.cells → row_end x.rows.now (length x.text.now - j) n ≡ ends_at x n j
  later-row n j l c i = r.rows_are j n (let a = r.later in let b = c.0 in omega arith) c i

  pub char-goes : (a : Set) → IsTreeAt x k (one_of a) → (n : ℕ) (o : Option ℕ) → n ≡ (cell_at x.plan.now.cells k).next
      → o ≡ after_char (holds a) (char_at x.text.now place) place → IfSome o (λ j. IsCharBoundary x.text.now j)
      → option_and_then (λ j. row_end x.rows.now (length x.text.now - j) n) o ≡ ends_at x k place
  char-goes a h n o q e b = by o e b ∙ sym (char-on x place k ground a h n o q e)
    where
      by : (o : Option ℕ) → o ≡ after_char (holds a) (char_at x.text.now place) place → IfSome o (λ j. IsCharBoundary x.text.now j)
          → option_and_then (λ j. row_end x.rows.now (length x.text.now - j) n) o ≡ option_and_then (ends_at x n) o
      by None e b = refl
      by (Some j) e b = later-row n j (past-on x place k ground (holds a) (char_at x.text.now place) j (sym e)) b (next-inside x place k ground (one_of a) h n q)

  pub atomic-goes : (a : Tree) → IsTreeAt x k (atomic a) → (n e m : ℕ) → n ≡ (parts_at x.plan.now.parts k).first → e ≡ (cell_at x.plan.now.cells k).empty
      → m ≡ (cell_at x.plan.now.cells k).next → Lower x k n
      × (ends_at x n place ≡ None → ends_at x k place ≡ None)
      × ((j : ℕ) → ends_at x n place ≡ Some j → j ≡ place → (ends_at x k place ≡ ends_at x e place) × Lower x k e)
      × ((j : ℕ) → ends_at x n place ≡ Some j → (j ≡ place → ⊥) → ends_at x k place ≡ row_end x.rows.now (length x.text.now - j) m)
  atomic-goes a h n e m q w v =
      let g = atomic-on x place k ground a h n e m q w v in (
        g.0,
        g.1,
        g.2,
        λ j z y.
            let on = g.3 j z y in
            on.0 ∙ sym (later-row m j on.1 on.2 (next-inside x place k ground (atomic a) h m v)),
      )

-- What was looked up.
pub first-is : (ps qs : List Parts) (p : Parts) (k : ℕ) → p ≡ parts_at ps k → ps ≡ qs → p.first ≡ (parts_at qs k).first
first-is ps qs p k e f = ap (λ (x : Parts). x.first) (e ∙ ap (λ (l : List Parts). parts_at l k) f)

pub second-is : (ps qs : List Parts) (p : Parts) (k : ℕ) → p ≡ parts_at ps k → ps ≡ qs → p.second ≡ (parts_at qs k).second
second-is ps qs p k e f = ap (λ (x : Parts). x.second) (e ∙ ap (λ (l : List Parts). parts_at l k) f)

pub empty-is : (ps qs : List Cell) (p : Cell) (k : ℕ) → p ≡ cell_at ps k → ps ≡ qs → p.empty ≡ (cell_at qs k).empty
empty-is ps qs p k e f = ap (λ (x : Cell). x.empty) (e ∙ ap (λ (l : List Cell). cell_at l k) f)

pub next-is : (ps qs : List Cell) (p : Cell) (k : ℕ) → p ≡ cell_at ps k → ps ≡ qs → p.next ≡ (cell_at qs k).next
next-is ps qs p k e f = ap (λ (x : Cell). x.next) (e ∙ ap (λ (l : List Cell). cell_at l k) f)

pub item-is : (ps qs : List Cell) (p : Cell) (k : ℕ) → p ≡ cell_at ps k → ps ≡ qs → p.item ≡ (cell_at qs k).item
item-is ps qs p k e f = ap (λ (x : Cell). x.item) (e ∙ ap (λ (l : List Cell). cell_at l k) f)

-- the tree of a cell's node is known
pub tree-more : (x : Ground) (k : ℕ) (t u : Tree) → t ≡ u → IsTreeAt x k t → IsTreeAt x k u
tree-more x k t u e h = record { inside = h.inside; real = h.real; tree = h.tree ∙ e }

pub if-lower : (b : Bool) (m t : ℕ) → 0 < t → (b ≡ true → m < t) → (if b then m else 0) < t
if-lower true m t z h = h refl
if-lower false m t z h = z

pub or-chosen : (e : ℕ) (o p : Option ℕ) → Some e ≡ o → Some e ≡ option_or o p
or-chosen e None p h = cc
or-chosen e (Some d) p h = h

pub or-second : (a o p b : Option ℕ) → ((e : ℕ) → a ≡ Some e → ⊥) → a ≡ o → b ≡ p → b ≡ option_or o p
or-second None o p b n e f = rw (sym e) f
or-second (Some d) o p b n e f = absurd (n d refl)
