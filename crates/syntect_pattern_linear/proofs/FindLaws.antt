-- The least place that has a match.
use Rattle.std.proofs.Common.{◌≡◌, ℕ, zero, suc, mul-le-mul_left, ◌*◌, ◌+◌, ◌-◌, ◌<◌, ◌≤◌, Bool, true, false, List, [], ◌∷◌, length, get_or, refl, sym, ◌∙◌, ap, arith, Some, None}
use Rattle.std.specs.Prelude.{IsCharBoundary, slice_get, option_map, replicate, if◌then◌else◌, is_some}
use Rattle.std.specs.Option.{option_or}
use Rattle.syntect_pattern_linear.specs.syntect_pattern.Text.{is_boundary}
use Rattle.syntect_pattern_linear.specs.syntect_pattern.Trees.{Tree, nothing, group}
use Rattle.syntect_pattern_linear.specs.syntect_pattern.Matches.{Groups, Member, matches, unset, found_at, found_within, found}
use Rattle.syntect_pattern_linear.specs.syntect_pattern_table.Program.{trees_of, IsProgramOf}
use Rattle.syntect_pattern_plan.specs.Onward.{reaches, chosen, moved, is_free, onward}
use Rattle.syntect_pattern_plan.specs.Cells.{cell_at, item_tree, is_end}
use Rattle.syntect_pattern_plan.specs.Plan.{IsPart}
use Rattle.syntect_pattern_linear.specs.Ground.{IsGround, IsIn, ends_at}
use Rattle.syntect_pattern_linear.specs.Walk.{IsFilled, Walks}
use Rattle.syntect_pattern_linear.specs.Finds.{Covers}
use Rattle.syntect_pattern_linear.specs.declared.ground.Ground.{Ground}
use Rattle.syntect_pattern_plan.specs.declared.cells.Cell.{Cell}
use Rattle.syntect_pattern_plan.proofs.OnwardLaws.{moved-same, onward-alike}
use Rattle.syntect_pattern_linear.proofs.ChosenLaws.{reaches-any, chosen-forward}
use Rattle.syntect_pattern_plan.proofs.CellLaws.{ends-part, ends-end}
use Rattle.syntect_pattern_linear.specs.Steps.{stay_cost, read_cost, walk_cost, look_cost, Costs}
use Rattle.syntect_pattern_linear.proofs.CostLaws.{walks-on, costs-of}
use Rattle.syntect_pattern_linear.proofs.WalkLaws.{part-chosen}

pub covers-filled : (x : Ground) (marks : List (List Bool)) (begin place : ℕ) → Covers x marks begin → begin ≤ place → IsCharBoundary x.text.now place → IsFilled x marks place
covers-filled x marks begin place h l c = record {
  ground = record { utf8 = h.utf8; plan_is = h.plan_is; sights_are = h.sights_are; boundary = c };
  marks_are = h.marks_are;
  here = let a = h.count in let b = c.0 in omega arith;
}

first-member : (ms : List Member) → slice_get ms 0 ≡ chosen Some ms
first-member [] = refl
first-member (m ∷ ms) = refl

no-member : (ms : List Member) → is_some (reaches Some ms) ≡ false → slice_get ms 0 ≡ None
no-member [] e = refl
no-member (m ∷ ms) e = cc

-- the tree of the whole match
abbrev root_of : Ground → Tree
root_of x = get_or (trees_of x.program.now) x.program.now.root nothing

module _ (x : Ground) (place : ℕ) (on : IsGround x place) where
  abbrev s : List ℕ
  s = x.text.now

  abbrev ts : List Tree
  ts = trees_of x.program.now

  abbrev cells : List Cell
  cells = x.plan.now.cells

  abbrev root : Tree
  root = get_or ts x.program.now.root nothing

  part : IsPart ts cells 1 root 0 0
  part = on.plan_is.planned.root_is

  pub whole-inside : IsIn x 1
  whole-inside = part.cell.inside

  pub whole-real : is_end (cell_at cells 1).item ≡ false
  whole-real = ap is_end part.cell.item_is ∙ part.real

  root-free : is_free root ≡ true
  root-free = ap is_free (sym part.tree ∙ ap (item_tree ts) (sym part.cell.item_is)) ∙ on.plan_is.planned.cells_are.free 1

  zero-end : (i : ℕ) → ends_at x 0 i ≡ Some i
  zero-end i = ends-end s ts cells on.plan_is.planned.cells_are 0 i (ap (λ (c : Cell). is_end c.item) on.plan_is.planned.cells_are.last) on.plan_is.planned.cells_are.some

  -- where the whole match ends
  whole-ends : ends_at x 1 place ≡ onward s root Some place
  whole-ends =
      ends-part s ts cells on.plan_is.planned.cells_are on.utf8 1 root 0 0 place on.boundary part
      ∙ onward-alike s on.utf8 root (moved place (ends_at x 0) (ends_at x 0)) Some place on.boundary (λ j l d. moved-same place j (ends_at x 0) ∙ zero-end j)

  module _ (tree : Tree) (h : IsProgramOf x.program.now tree) (at : is_boundary x.text.now place ≡ true) where
    found-is : found_at s tree place ≡ option_map (λ (m : Member). m.1) (slice_get (matches s root place (replicate x.program.now.groups None)) 0)
    unfolding found_at
    found-is =
        ap (λ (b : Bool). if b then option_map (λ (m : Member). m.1) (slice_get (matches s (group 0 tree) place (unset s tree)) 0) else None) at
        ∙ ap (λ (t : Tree). option_map (λ (m : Member). m.1) (slice_get (matches s t place (unset s tree)) 0)) (sym h.root)
        ∙ ap (λ (n : ℕ). option_map (λ (m : Member). m.1) (slice_get (matches s root place (replicate n None)) 0)) (sym h.groups)

    pub found-none : is_some (ends_at x 1 place) ≡ false → None ≡ found_at s tree place
    found-none e =
        sym (found-is ∙ ap (option_map (λ (m : Member). m.1))
        (no-member (matches s root place (replicate x.program.now.groups None))
        (ap is_some (reaches-any s on.utf8 root root-free Some place (replicate x.program.now.groups None) ∙ sym whole-ends) ∙ e)))

module _ (x : Ground) (place : ℕ) (on : IsGround x place) where
  -- the steps of the walk along the whole match
  pub whole-cost : (before : ℕ) (g : Groups) (end : ℕ) (h : Groups) (after : ℕ) → Walks x 1 place g end h → Costs x 1 place before end after
      → after ≤ before + (walk_cost (root_of x) + look_cost (root_of x)) * (length x.text.now + 1)
  whole-cost before g end h after w c =
      let far = walks-on x 1 place g end h on w in
      let e : item_tree (trees_of x.program.now) (cell_at x.plan.now.cells 1).item ≡ (root_of x) = ap (item_tree (trees_of x.program.now)) (part x place on).cell.item_is ∙ (part x place on).tree in
      let s = costs-of x 1 place before end after (root_of x) e c in
      let short : end - place ≤ length x.text.now + 1 = omega (arith, far.1) in
      let one : 1 ≤ length x.text.now + 1 = omega arith in
      let m = mul-le-mul_left (read_cost (root_of x)) short in
      let o = mul-le-mul_left (stay_cost (root_of x)) one in
      let p : stay_cost (root_of x) * 1 ≡ stay_cost (root_of x) = grind arith in
      let n : suc (length x.text.now) ≡ length x.text.now + 1 = omega arith in
      let l : look_cost (root_of x) * suc (length x.text.now) ≡ look_cost (root_of x) * (length x.text.now + 1) = ap (λ (k : ℕ). look_cost (root_of x) * k) n in
      let d : (walk_cost (root_of x) + look_cost (root_of x)) * (length x.text.now + 1)
      ≡ stay_cost (root_of x) * (length x.text.now + 1) + read_cost (root_of x) * (length x.text.now + 1) + look_cost (root_of x) * (length x.text.now + 1) = grind arith in
      omega (arith, s, m, o, p, l, d)

  module _ (tree : Tree) (h : IsProgramOf x.program.now tree) (at : is_boundary x.text.now place ≡ true) where
    pub found-some : (end : ℕ) (g : Groups) → Walks x 1 place (replicate x.program.now.groups None) end g → Some g ≡ found_at x.text.now tree place
    found-some end g w =
        let c = part-chosen x 1 place (replicate x.program.now.groups None) on 1 (root_of x) 0 0 end g (part x place on) w in
        let first : chosen Some (matches x.text.now (root_of x) place (replicate x.program.now.groups None)) ≡ Some (end, g) =
        chosen-forward x.text.now on.utf8 (root_of x) Some (moved place (ends_at x 0) (ends_at x 0)) place (replicate x.program.now.groups None) on.boundary
        (λ j l d. sym (moved-same place j (ends_at x 0) ∙ zero-end x place on j)) ∙ c in
        sym (found-is x place on tree h at ∙ ap (option_map (λ (m : Member). m.1)) (first-member _ ∙ first))

module _ (s : List ℕ) (tree : Tree) where
  pub found_at-between : (i : ℕ) → is_boundary s i ≡ false → None ≡ found_at s tree i
  unfolding found_at
  found_at-between i at = sym (ap (λ (c : Bool). if c then option_map (λ (m : Member). m.1) (slice_get (matches s (group 0 tree) i (unset s tree)) 0) else None) at)

  pub found-here : (i : ℕ) (g : Groups) → i ≤ length s → found_at s tree i ≡ Some g → found s tree i ≡ Some g
  unfolding found
  found-here i g l e =
      ap (λ n. found_within s tree n i) (let n : suc (length s) - i ≡ suc (length s - i) = omega arith in n)
      ∙ ap (λ o. option_or o (found_within s tree (length s - i) (suc i))) e

  pub found-step : (i : ℕ) → i ≤ length s → found_at s tree i ≡ None → found s tree i ≡ found s tree (suc i)
  unfolding found
  found-step i l e =
      ap (λ n. found_within s tree n i) (let n : suc (length s) - i ≡ suc (length s - i) = omega arith in n)
      ∙ ap (λ o. option_or o (found_within s tree (length s - i) (suc i))) e
      ∙ ap (λ n. found_within s tree n (suc i)) (let n : length s - i ≡ suc (length s) - suc i = omega arith in n)

  -- places where no match begins are passed over
  found-skip : (n i : ℕ) → i + n ≤ suc (length s) → ((k : ℕ) → i ≤ k → k < i + n → found_at s tree k ≡ None) → found s tree i ≡ found s tree (i + n)
  found-skip zero i l h = ap (found s tree) (let e : i ≡ i + 0 = omega arith in e)
  found-skip (suc n) i l h =
      found-step i (omega arith) (h i (omega arith) (omega arith))
      ∙ found-skip n (suc i) (omega arith) (λ k p q. h k (omega arith) (omega arith))
      ∙ ap (found s tree) (let e : suc i + n ≡ i + suc n = omega arith in e)

  pub found-jump : (i j : ℕ) → i ≤ j → j ≤ suc (length s) → ((k : ℕ) → i ≤ k → k < j → found_at s tree k ≡ None) → found s tree i ≡ found s tree j
  found-jump i j l m h =
      let e : i + (j - i) ≡ j = omega arith in
      found-skip (j - i) i (omega arith) (λ k p q. h k p (omega arith)) ∙ ap (found s tree) e

  pub found-past : (i : ℕ) → length s < i → found s tree i ≡ None
  unfolding found
  found-past i l = ap (λ n. found_within s tree n i) (let n : suc (length s) - i ≡ 0 = omega arith in n)

-- what is paid for a match alone
pub paid-none : (b : Bool) (before after cost : ℕ) → b ≡ false → after ≤ before + (if b then cost else 0) → after ≤ before
paid-none true before after cost e l = cc
paid-none false before after cost e l = omega (arith, l)

pub paid-match : (b : Bool) (before after cost : ℕ) → b ≡ true → after ≤ before + (if b then cost else 0) → after ≤ before + cost
paid-match true before after cost e l = l
paid-match false before after cost e l = cc
