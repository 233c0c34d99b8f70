-- Along the match, part by part.
use Rattle.std.proofs.Common.{◌≡◌, ℕ, suc, ◌+◌, ◌*◌, ◌-◌, ◌<◌, ◌≤◌, List, [], ◌∷◌, length, Bool, true, false, Option, Some, None, refl, sym, ap, subst, ◌∙◌, arith, inl, inr, ◌⊎◌}
use Rattle.std.specs.Prelude.{if◌then◌else◌, ◌||◌, ◌==◌, is_some, slice_set, option_map, option_and_then, unwrap_or, IsUtf8, IsCharBoundary}
use Rattle.std.specs.Option.{option_or}
use Rattle.syntect_pattern_linear.specs.syntect_pattern.Text.{char_at}
use Rattle.syntect_pattern_linear.specs.syntect_pattern.Sets.{Set, holds}
use Rattle.syntect_pattern_linear.specs.syntect_pattern.Trees.{Tree, nothing, one_of, anchor, alt, repeat, group, atomic, ahead, behind}
use Rattle.syntect_pattern_linear.specs.syntect_pattern.declared.anchor.Anchor.{Anchor}
use Rattle.syntect_pattern_linear.specs.syntect_pattern.Matches.{Groups, Member, only_if, look, close, matches}
use Rattle.syntect_pattern_linear.specs.syntect_pattern_table.Program.{trees_of}
use Rattle.syntect_pattern_plan.specs.Onward.{Onward, chosen, reaches, moved, reads, onward, plain, is_free, is_bare, has_turn}
use Rattle.syntect_pattern_plan.specs.Cells.{cell_at, parts_at, item_tree, is_end, tree_size}
use Rattle.syntect_pattern_linear.specs.Ground.{IsGround, IsIn, ends_at}
use Rattle.syntect_pattern_linear.specs.Step.{IsTreeAt}
use Rattle.syntect_pattern_linear.specs.Steps.{stay_cost, read_cost, look_cost}
use Rattle.syntect_pattern_linear.specs.Walk.{IsFilled, Walks}
use Rattle.syntect_pattern_linear.specs.declared.ground.Ground.{Ground}
use Rattle.syntect_pattern_plan.specs.declared.cells.Cell.{Cell}
use Rattle.syntect_pattern_plan.specs.declared.cells.Parts.{Parts}
use Rattle.syntect_pattern_plan.specs.declared.cells.CellPart.{CellPart}
use Rattle.syntect_pattern_plan.specs.Plan.{IsPart}
use Rattle.syntect_pattern_linear.specs.syntect_pattern_steps.Steps.{after_char}
use Rattle.syntect_pattern_linear.proofs.syntect_pattern_proofs.Each.{Each}
use Rattle.syntect_pattern_linear.proofs.syntect_pattern_proofs.TurnLaws.{matches-forward}
use Rattle.syntect_pattern_plan.proofs.TreeLaws.{bare-groups, and_left, and_right}
use Rattle.syntect_pattern_plan.proofs.CellLaws.{either-bool}
use Rattle.syntect_pattern_plan.proofs.OnwardLaws.{moved-at, moved-same, onward-one_of}
use Rattle.syntect_pattern_linear.proofs.ChosenLaws.{reaches-any, chosen-reads, chosen-stays, chosen-past, stays-look, first-chosen, second-chosen, chosen-close, chosen-first, chosen-stay, chosen-forward}
use Rattle.syntect_pattern_plan.proofs.ReachLaws.{reaches-chosen}
use Rattle.syntect_pattern_linear.proofs.StepLaws.{IsAt, goes, free, step, part-goes, region, zero-ends, at-one_of, at-alt, at-group, at-atomic, at-ahead}
use Rattle.syntect_pattern_linear.proofs.GroundLaws.{tree-on}
use Rattle.syntect_pattern_plan.proofs.ChosenLaws.{chosen-each, if-some}

-- how large the tree of a cell's item is
abbrev pub size_of : Ground → ℕ → ℕ
size_of x k = tree_size (item_tree (trees_of x.program.now) (cell_at x.plan.now.cells k).item)

-- what lookaheads may still take in a loop: so much, where it may take a turn
abbrev pub look_left : Option ℕ → ℕ → ℕ
look_left most l = if has_turn most then l else 0

-- A loop goes on with another cell at a later place: what is chosen from there on is what is chosen
-- from the start.
pub record Continues (x : Ground) (k place : ℕ) (g : Groups) (turn at : ℕ) (h : Groups) (greedy : Bool) (least : ℕ) (most : Option ℕ) (before after : ℕ) : Type 0 where
  pub body : Tree
  pub is_loop : IsTreeAt x turn (repeat greedy least most body)
  pub found : is_some (ends_at x turn at) ≡ true
  pub size : size_of x turn ≡ size_of x k
  pub same : (end : ℕ) (l : Groups) → Walks x turn at h end l → Walks x k place g end l
  pub later : place ≤ at
  pub stays : stay_cost (item_tree (trees_of x.program.now) (cell_at x.plan.now.cells k).item) ≡ suc (stay_cost body)
  pub reads : read_cost (item_tree (trees_of x.program.now) (cell_at x.plan.now.cells k).item) ≡ stay_cost body + read_cost body
  pub looks : look_cost (item_tree (trees_of x.program.now) (cell_at x.plan.now.cells k).item) ≡ look_cost body
  pub paid : after + look_left most (look_cost body * suc (length x.text.now))
      ≤ before + (stay_cost body + read_cost body) * (at - place) + look_cost body * suc (length x.text.now)

-- what goes on after a part that ended there
abbrev pub follow : Ground → ℕ → ℕ → ℕ → ℕ
follow x m mid place = if mid == place then (cell_at x.plan.now.cells m).empty else (cell_at x.plan.now.cells m).next

pub loop-is : (x : Ground) (m : ℕ) (greedy : Bool) (least less : ℕ) (most fewer : Option ℕ) (a : Tree) → less ≡ least - 1 → fewer ≡ option_map (λ j. j - 1) most
    → IsTreeAt x m (repeat greedy (least - 1) (option_map (λ j. j - 1) most) a) → IsTreeAt x m (repeat greedy less fewer a)
loop-is x m greedy least less most fewer a e f h =
    let P : ℕ → Type 0 = λ l. IsTreeAt x m (repeat greedy l fewer a) in
    let Q : Option ℕ → Type 0 = λ o. IsTreeAt x m (repeat greedy (least - 1) o a) in
    subst P (sym e) (subst Q (sym f) h)

pub ground-on : (x : Ground) (place q : ℕ) → IsGround x place → IsCharBoundary x.text.now q → IsGround x q
ground-on x place q h c = record { utf8 = h.utf8; plan_is = h.plan_is; sights_are = h.sights_are; boundary = c }

-- the marks of a later place
pub filled-on : (x : Ground) (marks : List (List Bool)) (place q : ℕ) → IsFilled x marks place → place ≤ q → IsGround x q → IsFilled x marks q
filled-on x marks place q h l c = record { ground = c; marks_are = h.marks_are; here = let a = h.here in omega arith }

pub then-some : (F : Onward) (o : Option ℕ) → is_some (option_and_then F o) ≡ true → (j : ℕ) × (o ≡ Some j) × (is_some (F j) ≡ true)
then-some F None e = absurd cc
then-some F (Some j) e = (j, refl, e)

module _ (x : Ground) (k place : ℕ) (g : Groups) (filled : IsGround x place) where
  abbrev s : List ℕ
  s = x.text.now

  abbrev ts : List Tree
  ts = trees_of x.program.now

  abbrev cells : List Cell
  cells = x.plan.now.cells

  abbrev parts : List Parts
  parts = x.plan.now.parts

  abbrev behinds : List ℕ
  behinds = x.plan.now.behinds

  abbrev E : ℕ → Onward
  E n = ends_at x n

  abbrev f : ℕ
  f = (cell_at cells k).empty

  abbrev n : ℕ
  n = (cell_at cells k).next

  abbrev F : Onward
  F = moved place (ends_at x (cell_at cells k).empty) (ends_at x (cell_at cells k).next)

  abbrev At : Tree → Type 0
  At t = IsTreeAt x k t

  abbrev Found : Type 0
  Found = is_some (ends_at x k place) ≡ true

  pub at : (t : Tree) → At t → IsAt s ts cells parts behinds k t
  at t h = tree-on x place k t filled h

  utf8 : IsUtf8 s
  utf8 = filled.utf8

  bound : IsCharBoundary s place
  bound = filled.boundary

  goes-on : (t : Tree) (h : At t) → E k place ≡ onward s t F place
  goes-on t h = goes s ts cells parts behinds k t (at t h) place bound

  reached : (t : Tree) → At t → reaches F (matches s t place g) ≡ E k place
  reached t h = reaches-any s utf8 t (free s ts cells parts behinds k t (at t h)) F place g ∙ sym (goes-on t h)

  pub walks-by : (t : Tree) → At t → (end : ℕ) (h : Groups) → chosen F (matches s t place g) ≡ Some (end, h) → Walks x k place g end h
  walks-by t a end h q = record { is = ap (λ (y : Tree). chosen F (matches s y place g)) a.tree ∙ q }

  -- a match of a cell that is a part
  pub part-chosen : (m : ℕ) (a : Tree) (e d end : ℕ) (h : Groups) → IsPart ts cells m a e d → Walks x m place g end h → chosen (moved place (E e) (E d)) (matches s a place g) ≡ Some (end, h)
  part-chosen m a e d end h p w =
      ap (λ (y : Tree). chosen (moved place (E e) (E d)) (matches s y place g)) (sym p.tree)
      ∙ elim (either-bool (reads (item_tree ts p.item))) [
        | inl r ↦ chosen-reads s utf8 (item_tree ts p.item) (E e) (E (cell_at cells m).empty) (E d) place g r bound
        | inr r ↦ ap (λ (j : ℕ). chosen (moved place (E j) (E d)) (matches s (item_tree ts p.item) place g)) (sym (p.cell.empty_is r))
      ]
      ∙ ap (λ (j : ℕ). chosen (moved place (E (cell_at cells m).empty) (E j)) (matches s (item_tree ts p.item) place g)) (sym p.cell.next_is)
      ∙ ap (λ (i : CellPart). chosen (moved place (E (cell_at cells m).empty) (E (cell_at cells m).next)) (matches s (item_tree ts i) place g)) (sym p.cell.item_is)
      ∙ w.is

  pub ends-forward : (t : Tree) (K : Onward) (m : Member) → chosen K (matches s t place g) ≡ Some m → (place ≤ m.0) × IsCharBoundary s m.0
  ends-forward t K m q = chosen-each (λ y. (place ≤ y.0) × IsCharBoundary s y.0) K (matches s t place g) m (matches-forward s utf8 t place g bound) q

  -- a match that reads nothing and sets no group
  stays : (t : Tree) → At t → Found → Each (λ m. m.0 ≡ place) (matches s t place g) → Each (λ m. m.1 ≡ g) (matches s t place g) → Walks x k place g place g
  stays t a e p q = walks-by t a place g (chosen-stays F place g (matches s t place g) p q (ap is_some (reached t a) ∙ e))

  bare-stays : (t : Tree) → At t → Found → is_bare t ≡ true → Each (λ m. m.0 ≡ place) (matches s t place g) → Walks x k place g place g
  bare-stays t a e b p = stays t a e p (bare-groups s utf8 t b place g)

  pub walks-nothing : At nothing → Found → Walks x k place g place g
  walks-nothing a e = stays nothing a e (refl, tt) (refl, tt)

  only-stays : (b : Bool) → Each (λ m. m.0 ≡ place) (only_if b place g)
  only-stays true = (refl, tt)
  only-stays false = tt

  pub walks-anchor : (d : Anchor) → At (anchor d) → Found → Walks x k place g place g
  walks-anchor d a e = bare-stays (anchor d) a e refl (only-stays (Rattle.syntect_pattern_linear.specs.syntect_pattern.Matches.anchor_holds s d place))

  unless-groups : (ms : List Member) → Each (λ m. m.1 ≡ g) (look true place g ms)
  unless-groups [] = (refl, tt)
  unless-groups (m ∷ ms) = tt

  pub walks-behind : (negated : Bool) (b : Tree) → At (behind negated b) → Found → Walks x k place g place g
  walks-behind negated b a e = by negated a (and_right (plain b) (negated || is_bare b) (free s ts cells parts behinds k (behind negated b) (at (behind negated b) a)))
    where
      by : (n : Bool) → At (behind n b) → (n || is_bare b) ≡ true → Walks x k place g place g
      by true h z = stays (behind true b) h e (stays-look true place g _) (unless-groups _)
      by false h z = bare-stays (behind false b) h e z (stays-look false place g _)

  pub walks-bare_ahead : (negated : Bool) (b : Tree) → At (ahead negated b) → Found → (negated ≡ true) ⊎ (is_bare b ≡ true) → Walks x k place g place g
  walks-bare_ahead true b a e (inl z) = stays (ahead true b) a e (stays-look true place g _) (unless-groups (matches s b place g))
  walks-bare_ahead false b a e (inl z) = absurd cc
  walks-bare_ahead negated b a e (inr z) = bare-stays (ahead negated b) a e z (stays-look negated place g _)

  pub walks-char : (a : Set) → At (one_of a) → Found → (o : Option ℕ) → o ≡ after_char (holds a) (char_at s place) place → Walks x k place g (unwrap_or o place) g
  walks-char a h e o q =
      let c = at-one_of s ts cells parts behinds k place bound a (at (one_of a) h) in
      let r = onward-one_of s a F place in
      let j = then-some F (after_char (holds a) (char_at s place) place) (ap is_some (sym r ∙ sym (goes-on (one_of a) h)) ∙ e) in
      walks-by (one_of a) h (unwrap_or o place) g
      (chosen-past (holds a) (char_at s place) F place j.0 g j.1 j.2 ∙ ap (λ (p : Option ℕ). Some (unwrap_or p place, g)) (sym (q ∙ j.1)))

  -- -- Parts

  -- the cell of a part, from where the whole match ends and which is smaller
  pub record CanWalk (m : ℕ) : Type 0 where
    pub inside : IsIn x m
    pub real : is_end (cell_at cells m).item ≡ false
    pub found : is_some (ends_at x m place) ≡ true
    pub smaller : size_of x m < size_of x k

  pub can-walk : (m : ℕ) (a : Tree) (e d : ℕ) → IsPart ts cells m a e d → is_some (ends_at x m place) ≡ true → tree_size a < size_of x k → CanWalk m
  can-walk m a e d p q z = record {
    inside = p.cell.inside;
    real = ap is_end p.cell.item_is ∙ p.real;
    found = q;
    smaller = let w : size_of x m ≡ tree_size a = ap tree_size (ap (item_tree ts) p.cell.item_is ∙ p.tree) in omega arith;
  }

  pub size-is : (t : Tree) → At t → size_of x k ≡ tree_size t
  size-is t a = ap tree_size a.tree

  pub alt-first : (a b : Tree) → At (alt a b) → is_some (ends_at x (parts_at parts k).first place) ≡ true
      → CanWalk (parts_at parts k).first × ((end : ℕ) (h : Groups) → Walks x (parts_at parts k).first place g end h → Walks x k place g end h)
  alt-first a b h e =
      let p : IsPart ts cells (parts_at parts k).first a f n × IsPart ts cells (parts_at parts k).second b f n = step s ts cells parts behinds k (alt a b) (at (alt a b) h) in
      let fa : is_free a ≡ true = and_left (is_free a) (is_free b) (free s ts cells parts behinds k (alt a b) (at (alt a b) h)) in
      let some : is_some (reaches F (matches s a place g)) ≡ true =
      ap is_some (reaches-any s utf8 a fa F place g ∙ sym (part-goes s ts cells parts behinds k (alt a b) (at (alt a b) h) (parts_at parts k).first a f n place bound p.0)) ∙ e in (
        can-walk (parts_at parts k).first a f n p.0 e (let z = size-is (alt a b) h in omega arith),
        λ end l w. walks-by (alt a b) h end l (first-chosen F (matches s a place g) (matches s b place g) some ∙ part-chosen (parts_at parts k).first a f n end l p.0 w),
      )

  or-other : (o p : Option ℕ) → is_some o ≡ false → is_some (option_or o p) ≡ true → is_some p ≡ true
  or-other None p e q = q
  or-other (Some v) p e q = absurd cc

  pub alt-second : (a b : Tree) → At (alt a b) → Found → is_some (ends_at x (parts_at parts k).first place) ≡ false
      → CanWalk (parts_at parts k).second × ((end : ℕ) (h : Groups) → Walks x (parts_at parts k).second place g end h → Walks x k place g end h)
  alt-second a b h found e =
      let y = at (alt a b) h in
      let p : IsPart ts cells (parts_at parts k).first a f n × IsPart ts cells (parts_at parts k).second b f n = step s ts cells parts behinds k (alt a b) y in
      let fa : is_free a ≡ true = and_left (is_free a) (is_free b) (free s ts cells parts behinds k (alt a b) y) in
      let none : is_some (reaches F (matches s a place g)) ≡ false =
      ap is_some (reaches-any s utf8 a fa F place g ∙ sym (part-goes s ts cells parts behinds k (alt a b) y (parts_at parts k).first a f n place bound p.0)) ∙ e in
      let other : is_some (ends_at x (parts_at parts k).second place) ≡ true =
      or-other (ends_at x (parts_at parts k).first place) _ e (ap is_some (sym (at-alt s ts cells parts behinds k place bound a b y).0) ∙ found) in (
        can-walk (parts_at parts k).second b f n p.1 other (let z = size-is (alt a b) h in omega arith),
        λ end l w. walks-by (alt a b) h end l (second-chosen F (matches s a place g) (matches s b place g) none ∙ part-chosen (parts_at parts k).second b f n end l p.1 w),
      )

  pub group-walks : (d : ℕ) (a : Tree) → At (group d a) → Found
      → CanWalk (parts_at parts k).first × ((end : ℕ) (h : Groups) → Walks x (parts_at parts k).first place g end h → Walks x k place g end (slice_set h d (Some (place, end))))
  group-walks d a h found =
      let y = at (group d a) h in
      let p : IsPart ts cells (parts_at parts k).first a f n = step s ts cells parts behinds k (group d a) y in (
        can-walk (parts_at parts k).first a f n p (ap is_some (sym (at-group s ts cells parts behinds k place bound d a y).0) ∙ found) (let z = size-is (group d a) h in omega arith),
        λ end l w. walks-by (group d a) h end (slice_set l d (Some (place, end)))
            (chosen-close F d place (matches s a place g) ∙ ap (option_map (close d place)) (part-chosen (parts_at parts k).first a f n end l p w)),
      )

  -- a part that is matched on its own
  region-chosen : (t : Tree) (y : IsAt s ts cells parts behinds k t) (a : Tree) (end : ℕ) (l : Groups) → IsPart ts cells (parts_at parts k).first a 0 0
      → Walks x (parts_at parts k).first place g end l → chosen (λ j. Some j) (matches s a place g) ≡ Some (end, l)
  region-chosen t y a end l p w =
      chosen-forward s utf8 a (λ j. Some j) (moved place (E 0) (E 0)) place g bound
      (λ j z d. sym (moved-same place j (E 0) ∙ zero-ends s ts cells parts behinds k t y j))
      ∙ part-chosen (parts_at parts k).first a 0 0 end l p w

  pub atomic-walks : (a : Tree) → At (atomic a) → Found
      → CanWalk (parts_at parts k).first × ((end : ℕ) (h : Groups) → Walks x (parts_at parts k).first place g end h → Walks x k place g end h)
  atomic-walks a h found =
      let y = at (atomic a) h in
      let p : IsPart ts cells (parts_at parts k).first a 0 0 = step s ts cells parts behinds k (atomic a) y in
      let e = (at-atomic s ts cells parts behinds k place bound a y).0 in
      let j = then-some F (ends_at x (parts_at parts k).first place) (ap is_some (sym e) ∙ found) in (
        can-walk (parts_at parts k).first a 0 0 p (ap is_some j.1) (let z = size-is (atomic a) h in omega arith),
        λ end l w.
            let c = region-chosen (atomic a) y a end l p w in
            let ends_there : ends_at x (parts_at parts k).first place ≡ Some end =
            region s ts cells parts behinds k (atomic a) y (parts_at parts k).first a place bound p
            ∙ sym (reaches-any s utf8 a (free s ts cells parts behinds k (atomic a) y) (λ i. Some i) place g)
            ∙ reaches-chosen (λ i. Some i) (matches s a place g)
            ∙ ap (option_and_then (λ (m : Member). Some m.0)) c in
            let same : j.0 ≡ end = let q : Some j.0 ≡ Some end = sym j.1 ∙ ends_there in cc in
            walks-by (atomic a) h end l (chosen-first F (matches s a place g) (end, l) c (ap (λ (i : ℕ). is_some (F i)) (sym same) ∙ j.2)),
      )

  pub ahead-walks : (a : Tree) → At (ahead false a) → Found
      → CanWalk (parts_at parts k).first × ((end : ℕ) (h : Groups) → Walks x (parts_at parts k).first place g end h → Walks x k place g place h)
  ahead-walks a h found =
      let y = at (ahead false a) h in
      let p : IsPart ts cells (parts_at parts k).first a 0 0 = step s ts cells parts behinds k (ahead false a) y in
      let e = (at-ahead s ts cells parts behinds k place bound false a y).0 in
      let j = if-some (is_some (ends_at x (parts_at parts k).first place)) (ends_at x f place) (ap is_some (sym e) ∙ found) in (
        can-walk (parts_at parts k).first a 0 0 p j.0 (let z = size-is (ahead false a) h in omega arith),
        λ end l w.
            walks-by (ahead false a) h place l
            (chosen-stay F place g (matches s a place g) (end, l) (region-chosen (ahead false a) y a end l p w) (ap is_some (moved-at place (E f) (E n)) ∙ j.1)),
      )
