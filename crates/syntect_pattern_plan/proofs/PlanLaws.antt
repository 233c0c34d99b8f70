-- Plans that grow.
use Rattle.std.proofs.Common.{◌≡◌, ℕ, zero, suc, ◌+◌, ◌-◌, ◌<◌, ◌≤◌, add-zero, List, [], ◌∷◌, ◌++◌, length, Bool, true, Option, Some, None, refl, sym, ap, subst, ◌∙◌, arith, inl, inr, length-append}
use Rattle.std.specs.Prelude.{option_map, slice_index_or}
use Rattle.std.proofs.lemmas.List.Sums.{sum_by-append}
use Rattle.std.proofs.lemmas.Bool.{cases_lt}
use Rattle.std.proofs.lemmas.List.{get_or_append_left}
use Rattle.std.proofs.Math.Seq.{get_or-append_seam}
use Rattle.syntect_pattern_plan.specs.syntect_pattern.Trees.{Tree, nothing, one_of, anchor, same, seq, alt, repeat, group, atomic, ahead, behind}
use Rattle.syntect_pattern_plan.specs.Onward.{is_free}
use Rattle.syntect_pattern_plan.specs.Cells.{last_cell, cell_at, parts_at, item_tree}
use Rattle.syntect_pattern_plan.specs.Plan.{Grows, IsCell, IsPart, loop_cells, others, others_of, cells_of, plan_cells, IsTurn, TurnIs, LooksFor, IsStep, IsStepOf, IsPlanned}
use Rattle.syntect_pattern_plan.specs.Build.{IsSource, AreBuilt, source_cells, cell_cells, all_cells, Adds, Expands}
use Rattle.syntect_pattern_plan.specs.declared.cells.Source.{Source}
use Rattle.syntect_pattern_plan.specs.declared.cells.Source.TheVariants.{Own, Shared, Beside}
use Rattle.syntect_pattern_plan.specs.declared.cells.CellPart.{CellPart}
use Rattle.syntect_pattern_plan.specs.declared.cells.Cell.{Cell}
use Rattle.syntect_pattern_plan.specs.declared.cells.Parts.{Parts}

pub grows-join : (a b c : List Cell) → Grows a b → Grows b c → Grows a c
grows-join a b c x y = record { longer = omega (arith, x.longer, y.longer); kept = λ k l. y.kept k (omega (arith, l, x.longer)) ∙ x.kept k l }

pub grows-same : (a : List Cell) → Grows a a
grows-same a = record { longer = omega arith; kept = λ k l. refl }

module _ (ts : List Tree) (old new : List Cell) (g : Grows old new) where
  pub cell-grows : (k : ℕ) (item : CellPart) (e n : ℕ) → IsCell ts old k item e n → IsCell ts new k item e n
  cell-grows k item e n c =
      let same = g.kept k c.inside in
      record {
        inside = omega (arith, c.inside, g.longer);
        item_is = ap (λ (x : Cell). x.item) same ∙ c.item_is;
        next_is = ap (λ (x : Cell). x.next) same ∙ c.next_is;
        empty_is = λ r. ap (λ (x : Cell). x.empty) same ∙ c.empty_is r;
      }

  pub part-grows : (k : ℕ) (t : Tree) (e n : ℕ) → IsPart ts old k t e n → IsPart ts new k t e n
  part-grows k t e n p = record { item = p.item; real = p.real; cell = cell-grows k p.item e n p.cell; tree = p.tree }

  turn-grows : (most : Option ℕ) (P Q : Type 0) → (P → Q) → TurnIs most P → TurnIs most Q
  turn-grows None P Q f h = f h
  turn-grows (Some zero) P Q f h = tt
  turn-grows (Some (suc n)) P Q f h = f h

  loop-grows : (e n first : ℕ) (greedy : Bool) (least : ℕ) (most : Option ℕ) (a : Tree) → IsTurn ts old e n first greedy least most a → IsTurn ts new e n first greedy least most a
  loop-grows e n first greedy least most a h = record {
    more = h.more;
    first_is = part-grows first a e h.more h.first_is;
    more_is = part-grows h.more (repeat greedy (least - 1) (option_map (λ k. k - 1) most) a) n n h.more_is;
  }

  pub step-grows : (bs cs : List ℕ) → ((k : ℕ) (a : Tree) → LooksFor ts bs k a → LooksFor ts cs k a)
      → (e n : ℕ) (p : Parts) (t : Tree) → IsStep ts old bs e n p t → IsStep ts new cs e n p t
  step-grows bs cs looks e n p nothing h = tt
  step-grows bs cs looks e n p (one_of a) h = tt
  step-grows bs cs looks e n p (anchor a) h = tt
  step-grows bs cs looks e n p (same fold k) h = tt
  step-grows bs cs looks e n p (seq a b) h = record {
    at = h.at;
    behind_it = h.behind_it;
    first_is = part-grows p.first a h.at h.behind_it h.first_is;
    second_is = part-grows h.behind_it b n n h.second_is;
    again_is = λ r. part-grows h.at b e n (h.again_is r);
  }
  step-grows bs cs looks e n p (alt a b) h = (part-grows p.first a e n h.0, part-grows p.second b e n h.1)
  step-grows bs cs looks e n p (repeat greedy least most a) h = turn-grows most _ _ (loop-grows e n p.first greedy least most a) h
  step-grows bs cs looks e n p (group k a) h = part-grows p.first a e n h
  step-grows bs cs looks e n p (atomic a) h = part-grows p.first a 0 0 h
  step-grows bs cs looks e n p (ahead negated a) h = part-grows p.first a 0 0 h
  step-grows bs cs looks e n p (behind negated a) h = looks p.first a h

  -- the parts of a cell that was there are still its parts
  pub step_of-grows : (bs cs : List ℕ) → ((k : ℕ) (a : Tree) → LooksFor ts bs k a → LooksFor ts cs k a)
      → (k : ℕ) (p : Parts) → k < length old → IsStepOf ts old bs k p → IsStepOf ts new cs k p
  step_of-grows bs cs looks k p l h =
      let P : Cell → Type 0 = λ c. IsStep ts new cs c.empty c.next p (item_tree ts c.item) in
      subst P (sym (g.kept k l)) (step-grows bs cs looks (cell_at old k).empty (cell_at old k).next p (item_tree ts (cell_at old k).item) h)

-- the parts of a cell by its tree
pub step-is : (ts : List Tree) (cells : List Cell) (bs : List ℕ) (k : ℕ) (p : Parts) (c : Cell) (t : Tree) → cell_at cells k ≡ c → item_tree ts c.item ≡ t
    → IsStep ts cells bs c.empty c.next p t → IsStepOf ts cells bs k p
step-is ts cells bs k p c t e f h =
    let P : Cell → Type 0 = λ x. IsStep ts cells bs x.empty x.next p (item_tree ts x.item) in
    let Q : Tree → Type 0 = λ x. IsStep ts cells bs c.empty c.next p x in
    subst P (sym e) (subst Q (sym f) h)

pub turn-is : (most : Option ℕ) (P : Type 0) → P → TurnIs most P
turn-is None P h = h
turn-is (Some zero) P h = tt
turn-is (Some (suc n)) P h = h

step-push : (ts : List Tree) (cells : List Cell) (bs : List ℕ) (ps : List Parts) (p : Parts) (n : ℕ) → n ≡ length ps
    → ((k : ℕ) → k < n → IsStepOf ts cells bs k (parts_at ps k)) → IsStepOf ts cells bs n p
    → (k : ℕ) → k < n + 1 → IsStepOf ts cells bs k (parts_at (ps ++ p ∷ []) k)
step-push ts cells bs ps p n e h here k l =
    elim (cases_lt k n) [
      | inl a ↦ let P : Parts → Type 0 = λ x. IsStepOf ts cells bs k x in subst P (sym (get_or_append_left ps (p ∷ []) _ k (omega (arith, a)))) (h k a)
      | inr a ↦
          let same : k ≡ length ps = omega (arith, a) in
          let P : Parts → Type 0 = λ x. IsStepOf ts cells bs k x in
          let Q : ℕ → Type 0 = λ x. IsStepOf ts cells bs x p in
          subst P (sym (ap (parts_at (ps ++ p ∷ [])) same ∙ get_or-append_seam ps p [] _)) (subst Q (e ∙ sym same) here)
    ]

-- one more cell has its parts
pub planned-more : (ts : List Tree) (old new : List Cell) (ps qs : List Parts) (p : Parts) (bs cs : List ℕ) (root : ℕ) → IsPlanned ts old ps bs root
    → length ps < length old → Expands ts old bs (length ps) p new cs → qs ≡ ps ++ p ∷ [] → IsPlanned ts new qs cs root
planned-more ts old new ps qs p bs cs root h l x e =
    let grows = x.extends.grows in
    let here : IsStepOf ts new cs (length ps) p =
    step-is ts new cs (length ps) p (cell_at old (length ps)) (item_tree ts (cell_at old (length ps)).item) (grows.kept (length ps) l) refl x.step in
    let all : (k : ℕ) → k < length ps + 1 → IsStepOf ts new cs k (parts_at (ps ++ p ∷ []) k) =
    step-push ts new cs ps p (length ps) refl
    (λ k a. step_of-grows ts old new grows bs cs x.looks k (parts_at ps k) (omega (arith, a, l)) (h.steps k a)) here in
    let long : length qs ≡ length ps + 1 = ap length e ∙ length-append ps (p ∷ []) ∙ omega arith in
    record {
      cells_are = x.extends.built.cells_are;
      steps = λ k a. let P : List Parts → Type 0 = λ y. IsStepOf ts new cs k (parts_at y k) in subst P (sym e) (all k (omega arith));
      root_is = part-grows ts old new grows 1 (slice_index_or ts root nothing) 0 0 h.root_is;
    }

only-last : (ts : List Tree) (cells : List Cell) → cells ≡ last_cell ∷ [] → AreBuilt ts cells
only-last ts cells e = subst (λ (x : List Cell). AreBuilt ts x) (sym e) (record {
  cells_are = record {
    some = omega arith;
    last = refl;
    empty = λ k p l. absurd (omega arith);
    next = λ k p l. absurd (omega arith);
    free = free;
  };
  sources = source;
})
  where
    free : (k : ℕ) → is_free (item_tree ts (cell_at (last_cell ∷ []) k).item) ≡ true
    free zero = refl
    free (suc k) = refl

    source : (k : ℕ) → k < length (last_cell ∷ []) → IsSource ts (last_cell ∷ []) k (cell_at (last_cell ∷ []) k) (cell_at (last_cell ∷ []) k).source
    source zero l = refl
    source (suc k) l = absurd (omega arith)

-- the end and the whole pattern
module _ (ts : List Tree) (old new : List Cell) (root k : ℕ) (e : old ≡ last_cell ∷ []) (free : is_free (slice_index_or ts root nothing) ≡ true)
    (h : AreBuilt ts old → 0 < length old → is_free (slice_index_or ts root nothing) ≡ true
    → Adds ts old (slice_index_or ts root nothing) 0 0 (cells_of (slice_index_or ts root nothing)) k new) where
  some : 0 < length old
  some = omega (arith, ap length e)

  added : Adds ts old (slice_index_or ts root nothing) 0 0 (cells_of (slice_index_or ts root nothing)) k new
  added = h (only-last ts old e) some free

  pub built-begin : AreBuilt ts new
  built-begin = added.extends.built

  pub planned-begin : (ps : List Parts) (bs : List ℕ) → k ≡ length old → ps ≡ [] → IsPlanned ts new ps bs root
  planned-begin ps bs number n =
      let one : k ≡ 1 = number ∙ ap length e in
      record {
        cells_are = built-begin.cells_are;
        steps = λ j a. absurd (let z : length ps ≡ 0 = ap length n in omega arith);
        root_is = subst (λ (x : ℕ). IsPart ts new x (slice_index_or ts root nothing) 0 0) one added.part;
      }

  pub begin-cost : all_cells ts new ≡ plan_cells (slice_index_or ts root nothing)
  begin-cost = let o : all_cells ts old ≡ 1 = ap (all_cells ts) e in omega (arith, added.cost, o)

-- -- How many cells there are

-- what the first cells take
abbrev pub done_cells : List Tree → List Cell → ℕ → ℕ
done_cells ts cells zero = 0
done_cells ts cells (suc n) = done_cells ts cells n + cell_cells ts (cell_at cells n)

done-grows : (ts : List Tree) (old new : List Cell) → Grows old new → (n : ℕ) → n ≤ length old → done_cells ts new n ≡ done_cells ts old n
done-grows ts old new g zero l = refl
done-grows ts old new g (suc n) l = let a = done-grows ts old new g n (omega arith) in let b = ap (cell_cells ts) (g.kept n (omega arith)) in omega (arith, a, b)

done-cons : (ts : List Tree) (c : Cell) (cells : List Cell) (n : ℕ) → done_cells ts (c ∷ cells) (suc n) ≡ cell_cells ts c + done_cells ts cells n
done-cons ts c cells zero = omega arith
done-cons ts c cells (suc n) = let a = done-cons ts c cells n in omega (arith, a)

all-done : (ts : List Tree) (cells : List Cell) → all_cells ts cells ≡ done_cells ts cells (length cells)
all-done ts [] = refl
all-done ts (c ∷ cells) = let s = sum_by-append (cell_cells ts) (c ∷ []) cells in let a = all-done ts cells in let b = done-cons ts c cells (length cells) in omega (arith, a, b)

turn-some : (w least : ℕ) (most : Option ℕ) → 0 < loop_cells w least most
turn-some w zero None = omega arith
turn-some w (suc least) None = omega arith
turn-some w least (Some m) = omega arith

own-some : (t : Tree) → 0 < cells_of t
own-some nothing = omega arith
own-some (one_of a) = omega arith
own-some (anchor a) = omega arith
own-some (same fold n) = omega arith
own-some (seq x y) = omega arith
own-some (alt x y) = omega arith
own-some (repeat greedy least most a) = turn-some (cells_of a + others_of a) least most
own-some (group n a) = omega arith
own-some (atomic a) = omega arith
own-some (ahead negated a) = omega arith
own-some (behind negated a) = omega arith

others-some : (t : Tree) → 0 < others t
others-some nothing = omega arith
others-some (one_of a) = omega arith
others-some (anchor a) = omega arith
others-some (same fold n) = omega arith
others-some (seq x y) = omega arith
others-some (alt x y) = omega arith
others-some (repeat greedy least None a) = omega arith
others-some (repeat greedy least (Some zero) a) = omega arith
others-some (repeat greedy least (Some (suc m)) a) = omega arith
others-some (group n a) = omega arith
others-some (atomic a) = omega arith
others-some (ahead negated a) = omega arith
others-some (behind negated a) = omega arith

source-some : (s : Source) (t : Tree) → 0 < source_cells s t
source-some Own t = own-some t
source-some (Shared p) t = omega arith
source-some (Beside p) t = others-some t

done-more : (ts : List Tree) (cells : List Cell) (n m : ℕ) → done_cells ts cells n + m ≤ done_cells ts cells (n + m)
done-more ts cells n zero = let e = ap (done_cells ts cells) (add-zero n) in omega (arith, e)
done-more ts cells n (suc m) =
    let a = done-more ts cells n m in
    let s = source-some (cell_at cells (n + m)).source (item_tree ts (cell_at cells (n + m)).item) in
    let e : done_cells ts cells (n + suc m) ≡ done_cells ts cells (suc (n + m)) = ap (done_cells ts cells) (let q : n + suc m ≡ suc (n + m) = omega arith in q) in
    omega (arith, a, s, e)

-- the cells that have their parts and those that wait, against what the pattern takes
pub record Counts (ts : List Tree) (cells : List Cell) (parts : ℕ) (total : ℕ) : Type 0 where
  pub sum : parts + all_cells ts cells ≡ total + done_cells ts cells parts

pub counts-begin : (ts : List Tree) (cells : List Cell) (total : ℕ) → all_cells ts cells ≡ total → Counts ts cells 0 total
counts-begin ts cells total e = record { sum = omega (arith, e) }

pub counts-more : (ts : List Tree) (old new : List Cell) (bs cs : List ℕ) (n total : ℕ) (p : Parts) → n < length old → Expands ts old bs n p new cs → Counts ts old n total → Counts ts new (n + 1) total
counts-more ts old new bs cs n total p l x h =
    let d = done-grows ts old new x.extends.grows n (omega arith) in
    let k = ap (cell_cells ts) (x.extends.grows.kept n l) in
    let e : done_cells ts new (n + 1) ≡ done_cells ts new (suc n) = ap (done_cells ts new) (let q : n + 1 ≡ suc n = omega arith in q) in
    record { sum = omega (arith, h.sum, x.cost, d, k, e) }

-- there are no more cells than that
pub counts-most : (ts : List Tree) (cells : List Cell) (n total : ℕ) → n ≤ length cells → Counts ts cells n total → length cells ≤ total
counts-most ts cells n total l h =
    let a = all-done ts cells in
    let m = done-more ts cells n (length cells - n) in
    let e : done_cells ts cells (n + (length cells - n)) ≡ done_cells ts cells (length cells) = ap (done_cells ts cells) (let q : n + (length cells - n) ≡ length cells = omega arith in q) in
    omega (arith, h.sum, a, m, e, l)

pub counts-all : (ts : List Tree) (cells : List Cell) (total : ℕ) → Counts ts cells (length cells) total → length cells ≡ total
counts-all ts cells total h = let a = all-done ts cells in omega (arith, h.sum, a)
