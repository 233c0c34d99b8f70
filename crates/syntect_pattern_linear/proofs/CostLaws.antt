-- The steps of a walk.
use Rattle.std.proofs.Common.{◌≡◌, ◌⊎◌, inl, inr, ℕ, zero, suc, ◌+◌, ◌-◌, ◌*◌, ◌<◌, ◌≤◌, List, length, Bool, true, false, Option, Some, None, refl, sym, ap, subst, ◌∙◌, arith, mul-le-mul_left}
use Rattle.std.specs.Prelude.{◌||◌, if◌then◌else◌, option_map, IsCharBoundary}
use Rattle.std.proofs.lemmas.Bool.Decides.{nat_tests}
use Rattle.syntect_pattern_linear.specs.syntect_pattern.Trees.{Tree, nothing, one_of, anchor, same, seq, alt, repeat, group, atomic, ahead, behind}
use Rattle.syntect_pattern_linear.specs.syntect_pattern.Matches.{Groups, Member, matches}
use Rattle.syntect_pattern_linear.specs.syntect_pattern_table.Program.{trees_of}
use Rattle.syntect_pattern_linear.proofs.syntect_pattern_proofs.TurnLaws.{matches-forward}
use Rattle.syntect_pattern_plan.specs.Onward.{is_calm, is_free, is_once, has_turn}
use Rattle.syntect_pattern_plan.specs.Cells.{cell_at, parts_at, item_tree}
use Rattle.syntect_pattern_plan.specs.Plan.{IsPart, IsSequence}
use Rattle.syntect_pattern_linear.specs.Ground.{IsGround}
use Rattle.syntect_pattern_linear.specs.Step.{IsTreeAt}
use Rattle.syntect_pattern_linear.specs.Walk.{Walks}
use Rattle.syntect_pattern_linear.specs.Steps.{walk_cost, look_cost, Within, Costs}
use Rattle.syntect_pattern_linear.specs.declared.ground.Ground.{Ground}
use Rattle.syntect_pattern_plan.specs.declared.cells.Cell.{Cell}
use Rattle.syntect_pattern_plan.proofs.TreeLaws.{and_left, and_right}
use Rattle.syntect_pattern_linear.proofs.StepLaws.{step, free}
use Rattle.syntect_pattern_linear.proofs.GroundLaws.{tree-on}
use Rattle.syntect_pattern_linear.proofs.WalkLaws.{look_left}
use Rattle.syntect_pattern_plan.proofs.ChosenLaws.{chosen-each}

-- a walk goes on
pub walks-on : (x : Ground) (k place : ℕ) (g : Groups) (end : ℕ) (h : Groups) → IsGround x place → Walks x k place g end h → (place ≤ end) × (end ≤ length x.text.now)
walks-on x k place g end h f w =
    let t : Tree = item_tree (trees_of x.program.now) (cell_at x.plan.now.cells k).item in
    let m = chosen-each (λ (y : Member). (place ≤ y.0) × IsCharBoundary x.text.now y.0) _ (matches x.text.now t place g) (end, h) (matches-forward x.text.now f.utf8 t place g f.boundary) w.is in
    (m.0, m.1.0)

part-tree : (ts : List Tree) (cells : List Cell) (m : ℕ) (a : Tree) (e d : ℕ) → IsPart ts cells m a e d → item_tree ts (cell_at cells m).item ≡ a
part-tree ts cells m a e d p = ap (item_tree ts) p.cell.item_is ∙ p.tree

-- the steps by the tree
pub costs-is : (x : Ground) (k place before end after : ℕ) (t : Tree) → item_tree (trees_of x.program.now) (cell_at x.plan.now.cells k).item ≡ t
    → Within (length x.text.now) t place end before after → Costs x k place before end after
costs-is x k place before end after t e h = record { steps = let P : Tree → Type 0 = λ v. Within (length x.text.now) v place end before after in subst P (sym e) h }

pub costs-of : (x : Ground) (k place before end after : ℕ) (t : Tree) → item_tree (trees_of x.program.now) (cell_at x.plan.now.cells k).item ≡ t
    → Costs x k place before end after → Within (length x.text.now) t place end before after
costs-of x k place before end after t e h = let P : Tree → Type 0 = λ v. Within (length x.text.now) v place end before after in subst P e h.steps

-- -- Numbers

pub seq-cost : (s t r q l k n x y z b0 b1 b2 : ℕ) → y ≤ x → z ≤ x → b1 ≤ b0 + (s + r * y + l * n) → b2 ≤ b1 + (t + q * z + k * n)
    → suc b2 ≤ b0 + (suc (s + t) + (r + q) * x + (l + k) * n)
seq-cost s t r q l k n x y z b0 b1 b2 low high h i =
    let a = mul-le-mul_left r low in
    let b = mul-le-mul_left q high in
    let e : (r + q) * x ≡ r * x + q * x = grind arith in
    let f : (l + k) * n ≡ l * n + k * n = grind arith in
    omega arith

pub left-cost : (s t r q l k n y b0 b1 : ℕ) → b1 ≤ b0 + (s + r * y + l * n) → suc b1 ≤ b0 + (suc (s + t) + (r + q) * y + (l + k) * n)
left-cost s t r q l k n y b0 b1 h =
    let e : (r + q) * y ≡ r * y + q * y = grind arith in
    let f : (l + k) * n ≡ l * n + k * n = grind arith in
    omega arith

pub right-cost : (s t r q l k n y b0 b1 : ℕ) → b1 ≤ b0 + (t + q * y + k * n) → suc b1 ≤ b0 + (suc (s + t) + (r + q) * y + (l + k) * n)
right-cost s t r q l k n y b0 b1 h =
    let e : (r + q) * y ≡ r * y + q * y = grind arith in
    let f : (l + k) * n ≡ l * n + k * n = grind arith in
    omega arith

-- a lookahead that sets groups
pub look-costs : (s r l n y b0 b1 : ℕ) → y < n → b1 ≤ b0 + (s + r * y + l * n) → suc b1 ≤ b0 + (1 + 0 * 0 + ((s + r) + l) * n)
look-costs s r l n y b0 b1 p h =
    let one : 1 ≤ n = omega arith in
    let within : y ≤ n = omega arith in
    let a = mul-le-mul_left s one in
    let b = mul-le-mul_left r within in
    let d : s * 1 ≡ s = grind arith in
    let f : ((s + r) + l) * n ≡ s * n + (r * n + l * n) = grind arith in
    omega arith

-- turns
pub turn-cost : (s r l y z old new b0 b1 b2 : ℕ) → 0 < z → l + new ≤ old → b1 + old ≤ b0 + (s + r) * y + l → b2 ≤ b1 + (s + r * z + l) → b2 + new ≤ b0 + (s + r) * (y + z) + l
turn-cost s r l y z old new b0 b1 b2 p q h k =
    let one : 1 ≤ z = omega arith in
    let a = mul-le-mul_left s one in
    let d : s * 1 ≡ s = grind arith in
    let f : (s + r) * (y + z) ≡ (s + r) * y + (s * z + r * z) = grind arith in
    omega arith

pub last-cost : (s r l y old new b0 b1 b2 : ℕ) → l + new ≤ old → b1 + old ≤ b0 + (s + r) * y + l → b2 ≤ b1 + (s + r * 0 + l) → suc b2 ≤ b0 + (suc s + (s + r) * y + l)
last-cost s r l y old new b0 b1 b2 q h k = let e : r * 0 ≡ 0 = grind arith in omega arith

left-most : (most : Option ℕ) (l : ℕ) → look_left most l ≤ l
left-most most l = by (has_turn most)
  where
    by : (b : Bool) → (if b then l else 0) ≤ l
    by true = omega arith
    by false = omega arith

none-times : (l n : ℕ) → l ≡ 0 → l * n ≡ 0
none-times l n z = let e : 0 * n ≡ 0 = grind arith in ap (λ (k : ℕ). k * n) z ∙ e

no-looks : (l n : ℕ) → l ≡ 0 → l * n + l * n ≤ l * n
no-looks l n z = let none = none-times l n z in omega (arith, none)

-- before the first turn
pub no-turn : (most : Option ℕ) (l b c : ℕ) → b + look_left most l ≤ b + c + l
no-turn most l b c = let w = left-most most l in omega (arith, w)

pub calm-look : (t : Tree) → is_calm t ≡ true → look_cost t ≡ 0
calm-look nothing e = refl
calm-look (one_of a) e = refl
calm-look (anchor a) e = refl
calm-look (same fold n) e = refl
calm-look (seq a b) e = let p = calm-look a (and_left _ _ e) in let q = calm-look b (and_right (is_calm a) _ e) in omega arith
calm-look (alt a b) e = let p = calm-look a (and_left _ _ e) in let q = calm-look b (and_right (is_calm a) _ e) in omega arith
calm-look (repeat greedy least most a) e = calm-look a e
calm-look (group n a) e = calm-look a e
calm-look (atomic a) e = calm-look a e
calm-look (ahead negated a) e = ap (λ (b : Bool). if b then 0 else walk_cost a + look_cost a) e
calm-look (behind negated a) e = refl

-- where a turn is taken, it may take this for lookaheads, and then there is none left to take, or
-- they take nothing
pub looks-left : (most : Option ℕ) (l n : ℕ) → has_turn most ≡ true → (is_once most ≡ true) ⊎ (l ≡ 0)
    → l * n + look_left (option_map (λ j. j - 1) most) (l * n) ≤ look_left most (l * n)
looks-left None l n e (inl o) = absurd cc
looks-left None l n e (inr z) = no-looks l n z
looks-left (Some zero) l n e h = absurd cc
looks-left (Some (suc m)) l n e (inl o) =
    let none : suc m - 1 ≡ 0 = grind (arith, nat_tests) in
    let left : look_left (Some (suc m - 1)) (l * n) ≡ 0 = ap (λ (k : ℕ). look_left (Some k) (l * n)) none in
    omega (arith, left)
looks-left (Some (suc m)) l n e (inr z) =
    let none = none-times l n z in
    let left = left-most (Some (suc m - 1)) (l * n) in
    omega (arith, left, none)

-- -- The trees of parts

module _ (x : Ground) (k place : ℕ) (r : IsGround x place) where
  abbrev ts : List Tree
  ts = trees_of x.program.now

  abbrev cells : List Cell
  cells = x.plan.now.cells

  abbrev tree_of : ℕ → Tree
  tree_of m = item_tree (trees_of x.program.now) (cell_at x.plan.now.cells m).item

  abbrev first : ℕ
  first = (parts_at x.plan.now.parts k).first

  abbrev second : ℕ
  second = (parts_at x.plan.now.parts k).second

  st : (t : Tree) → IsTreeAt x k t → Rattle.syntect_pattern_plan.specs.Plan.IsStep ts cells x.plan.now.behinds (cell_at cells k).empty (cell_at cells k).next (parts_at x.plan.now.parts k) t
  st t h = step x.text.now ts cells x.plan.now.parts x.plan.now.behinds k t (tree-on x place k t r h)

  pub seq-tree : (a b : Tree) → IsTreeAt x k (seq a b) → tree_of first ≡ a
  seq-tree a b h = let p : IsSequence ts cells (cell_at cells k).empty (cell_at cells k).next first a b = st (seq a b) h in part-tree ts cells first a p.at p.behind_it p.first_is

  pub alt-trees : (a b : Tree) → IsTreeAt x k (alt a b) → (tree_of first ≡ a) × (tree_of second ≡ b)
  alt-trees a b h =
      let p : IsPart ts cells first a (cell_at cells k).empty (cell_at cells k).next × IsPart ts cells second b (cell_at cells k).empty (cell_at cells k).next = st (alt a b) h in
      (part-tree ts cells first a _ _ p.0, part-tree ts cells second b _ _ p.1)

  pub ahead-tree : (negated : Bool) (a : Tree) → IsTreeAt x k (ahead negated a) → tree_of first ≡ a
  ahead-tree negated a h = let p : IsPart ts cells first a 0 0 = st (ahead negated a) h in part-tree ts cells first a 0 0 p

  -- a loop takes one turn at most, or its lookaheads take nothing
  pub loop-looks : (greedy : Bool) (least : ℕ) (most : Option ℕ) (a : Tree) → IsTreeAt x k (repeat greedy least most a) → (is_once most ≡ true) ⊎ (look_cost a ≡ 0)
  loop-looks greedy least most a h =
      once-or (is_once most) a
      (and_right (is_free a) (is_once most || is_calm a) (free x.text.now ts cells x.plan.now.parts x.plan.now.behinds k (repeat greedy least most a) (tree-on x place k (repeat greedy least most a) r h)))
    where
      once-or : (b : Bool) (t : Tree) → (b || is_calm t) ≡ true → (b ≡ true) ⊎ (look_cost t ≡ 0)
      once-or true t e = inl refl
      once-or false t e = inr (calm-look t e)
