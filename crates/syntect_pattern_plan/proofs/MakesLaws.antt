-- The cells of parts.
use Rattle.std.proofs.Common.{◌≡◌, ℕ, zero, suc, ◌-◌, ◌<◌, List, length, Bool, true, Option, Some, None, refl, sym, ap, subst, ◌∙◌, arith}
use Rattle.std.specs.Prelude.{◌||◌, option_map}
use Rattle.syntect_pattern_plan.specs.syntect_pattern.Trees.{Tree, seq, alt, repeat, group}
use Rattle.syntect_pattern_plan.specs.Onward.{is_free, is_calm, is_once}
use Rattle.syntect_pattern_plan.specs.Cells.{cell_at, item_tree}
use Rattle.syntect_pattern_plan.specs.Plan.{IsPart, IsTurn, LooksFor, IsStep, IsStepOf, others, others_of, cells_of}
use Rattle.syntect_pattern_plan.specs.Build.{IsSame, IsShared, IsBeside, IsSource, AreBuilt, source_cells, cell_cells, Adds, AddsMore, Makes, Expands}
use Rattle.syntect_pattern_plan.specs.declared.cells.Source.{Source}
use Rattle.syntect_pattern_plan.specs.declared.cells.Source.TheVariants.{Beside}
use Rattle.syntect_pattern_plan.specs.declared.cells.Cell.{Cell}
use Rattle.syntect_pattern_plan.specs.declared.cells.Parts.{Parts}
use Rattle.syntect_pattern_plan.proofs.TreeLaws.{and_left, and_right}
use Rattle.syntect_pattern_plan.proofs.PlanLaws.{part-grows, turn-is}
use Rattle.syntect_pattern_plan.proofs.BuildLaws.{extends-join, extends-same, same-part, part-next, part-free}

-- no cell more
pub makes-none : (ts : List Tree) (old : List Cell) (bs cs : List ℕ) (f g : ℕ) (t : Tree) (cost : ℕ) (p : Parts) → ((n : ℕ) (a : Tree) → LooksFor ts bs n a → LooksFor ts cs n a)
    → AreBuilt ts old → IsStep ts old cs f g p t → cost ≡ 1 → Makes ts old bs f g t cost p old cs
makes-none ts old bs cs f g t cost p looks b s e = record { extends = extends-same ts old b; looks = looks; step = s; cost = omega (arith, e) }

-- -- The same goes on at the place and after it

module _ (ts : List Tree) (old : List Cell) (bs : List ℕ) (number g : ℕ) (b : AreBuilt ts old) where
  next-inside : (t : Tree) → IsSame ts old number t g → g < length old
  next-inside t h = part-next ts old b.cells_are number t g g (same-part ts old number t g h)

  tree-free : (t : Tree) → IsSame ts old number t g → is_free t ≡ true
  tree-free t h = part-free ts old b.cells_are number t g g (same-part ts old number t g h)

  pub makes-seq : (mid new : List Cell) (x y : Tree) (behind first : ℕ)
      → (AreBuilt ts old → g < length old → is_free y ≡ true → Adds ts old y g g (cells_of y) behind mid)
      → (AreBuilt ts mid → behind < length mid → is_free x ≡ true → Adds ts mid x behind behind (cells_of x) first new)
      → IsSame ts old number (seq x y) g → Makes ts old bs g g (seq x y) (cells_of (seq x y)) (record { first = first; second = 0 }) new bs
  makes-seq mid new x y behind first h1 h2 h =
      let free : is_free (seq x y) ≡ true = tree-free (seq x y) h in
      let m = h1 b (next-inside (seq x y) h) (and_right (is_free x) (is_free y) free) in
      let n = h2 m.extends.built m.part.cell.inside (and_left (is_free x) (is_free y) free) in
      let second = part-grows ts mid new n.extends.grows behind y g g m.part in
      record {
        extends = extends-join ts old mid new m.extends n.extends;
        looks = λ n a h. h;
        step = record { at = behind; behind_it = behind; first_is = n.part; second_is = second; again_is = λ r. second };
        cost = let p = m.cost in let q = n.cost in omega (arith, p, q);
      }

  pub makes-alt : (mid new : List Cell) (x y : Tree) (first second : ℕ)
      → (AreBuilt ts old → g < length old → is_free x ≡ true → Adds ts old x g g (cells_of x) first mid)
      → (AreBuilt ts mid → g < length mid → is_free y ≡ true → Adds ts mid y g g (cells_of y) second new)
      → IsSame ts old number (alt x y) g → Makes ts old bs g g (alt x y) (cells_of (alt x y)) (record { first = first; second = second }) new bs
  makes-alt mid new x y first second h1 h2 h =
      let free : is_free (alt x y) ≡ true = tree-free (alt x y) h in
      let inside = next-inside (alt x y) h in
      let m = h1 b inside (and_left (is_free x) (is_free y) free) in
      let n = h2 m.extends.built (let l = m.extends.grows.longer in omega (arith, l, inside)) (and_right (is_free x) (is_free y) free) in
      record {
        extends = extends-join ts old mid new m.extends n.extends;
        looks = λ n a h. h;
        step = (part-grows ts mid new n.extends.grows first x g g m.part, n.part);
        cost = let p = m.cost in let q = n.cost in omega (arith, p, q);
      }

  -- one part
  pub makes-part : (new : List Cell) (t x : Tree) (p : Parts) (e : ℕ) → cells_of t ≡ suc (cells_of x) → is_free t ≡ is_free x
      → (IsPart ts new p.first x e e → IsStep ts new bs g g p t) → e < length old
      → (AreBuilt ts old → e < length old → is_free x ≡ true → Adds ts old x e e (cells_of x) p.first new)
      → IsSame ts old number t g → Makes ts old bs g g t (cells_of t) p new bs
  makes-part new t x p e w f made l h1 h =
      let m = h1 b l (sym f ∙ tree-free t h) in
      record {
        extends = m.extends;
        looks = λ n a h. h;
        step = made m.part;
        cost = let q = m.cost in omega (arith, q, w);
      }

  pub makes-turns : (mid far new : List Cell) (greedy : Bool) (least : ℕ) (most : Option ℕ) (a : Tree) (more turn first : ℕ)
      → (AreBuilt ts old → IsSame ts old number (repeat greedy least most a) g → AddsMore ts old g greedy least most a more mid)
      → (AreBuilt ts mid → more < length mid → is_free a ≡ true → Adds ts mid a more more (cells_of a) turn far)
      → ((e n : ℕ) → AreBuilt ts far → g < length far → IsPart ts far turn a e n → Adds ts far a g n (others_of a) first new)
      → IsSame ts old number (repeat greedy least most a) g
      → Makes ts old bs g g (repeat greedy least most a) (cells_of (repeat greedy least most a)) (record { first = first; second = 0 }) new bs
  makes-turns mid far new greedy least most a more turn first h1 h2 h3 h =
      let free : is_free a ≡ true = and_left (is_free a) (is_once most || is_calm a) (tree-free (repeat greedy least most a) h) in
      let inside = next-inside (repeat greedy least most a) h in
      let m = h1 b h in
      let n = h2 m.extends.built m.part.cell.inside free in
      let o = h3 more more n.extends.built (let k = m.extends.grows.longer in let l = n.extends.grows.longer in omega (arith, k, l, inside)) n.part in
      let all = extends-join ts mid far new n.extends o.extends in
      let rest : Tree = repeat greedy (least - 1) (option_map (λ k. k - 1) most) a in
      record {
        extends = extends-join ts old mid new m.extends all;
        looks = λ n a h. h;
        step = turn-is most _ (record { more = more; first_is = o.part; more_is = part-grows ts mid new all.grows more rest g g m.part });
        cost = let p = m.cost in let q = n.cost in let r = o.cost in omega (arith, p, q, r);
      }

-- -- Something else goes on at the place

module _ (ts : List Tree) (old : List Cell) (bs : List ℕ) (empty g : ℕ) (parts : Parts) (b : AreBuilt ts old) (l : empty < length old) where
  pub beside-seq : (mid new : List Cell) (x y : Tree) (behind at first : ℕ) → behind ≡ (cell_at old parts.first).next
      → ((e n : ℕ) → AreBuilt ts old → empty < length old → IsPart ts old behind y e n → Adds ts old y empty n (others_of y) at mid)
      → ((e n : ℕ) → AreBuilt ts mid → at < length mid → IsPart ts mid parts.first x e n → Adds ts mid x at n (others_of x) first new)
      → IsStep ts old bs g g parts (seq x y) → Makes ts old bs empty g (seq x y) (others (seq x y)) (record { first = first; second = 0 }) new bs
  beside-seq mid new x y behind at first e h1 h2 s =
      let on : s.behind_it ≡ behind = sym s.first_is.cell.next_is ∙ sym e in
      let P : ℕ → Type 0 = λ k. IsPart ts old k y g g in
      let m = h1 g g b l (subst P on s.second_is) in
      let n = h2 s.at s.behind_it m.extends.built m.part.cell.inside (part-grows ts old mid m.extends.grows parts.first x s.at s.behind_it s.first_is) in
      let all = extends-join ts old mid new m.extends n.extends in
      record {
        extends = all;
        looks = λ n a h. h;
        step = record {
          at = at;
          behind_it = s.behind_it;
          first_is = n.part;
          second_is = part-grows ts old new all.grows s.behind_it y g g s.second_is;
          again_is = λ r. part-grows ts mid new n.extends.grows at y empty g m.part;
        };
        cost = let p = m.cost in let q = n.cost in omega (arith, p, q);
      }

  pub beside-alt : (mid new : List Cell) (x y : Tree) (first second : ℕ)
      → ((e n : ℕ) → AreBuilt ts old → empty < length old → IsPart ts old parts.first x e n → Adds ts old x empty n (others_of x) first mid)
      → ((e n : ℕ) → AreBuilt ts mid → empty < length mid → IsPart ts mid parts.second y e n → Adds ts mid y empty n (others_of y) second new)
      → IsStep ts old bs g g parts (alt x y) → Makes ts old bs empty g (alt x y) (others (alt x y)) (record { first = first; second = second }) new bs
  beside-alt mid new x y first second h1 h2 s =
      let m = h1 g g b l s.0 in
      let n = h2 g g m.extends.built (let k = m.extends.grows.longer in omega (arith, k, l)) (part-grows ts old mid m.extends.grows parts.second y g g s.1) in
      record {
        extends = extends-join ts old mid new m.extends n.extends;
        looks = λ n a h. h;
        step = (part-grows ts mid new n.extends.grows first x empty g m.part, n.part);
        cost = let p = m.cost in let q = n.cost in omega (arith, p, q);
      }

  pub beside-group : (new : List Cell) (k : ℕ) (x : Tree) (first : ℕ)
      → ((e n : ℕ) → AreBuilt ts old → empty < length old → IsPart ts old parts.first x e n → Adds ts old x empty n (others_of x) first new)
      → IsStep ts old bs g g parts (group k x) → Makes ts old bs empty g (group k x) (others (group k x)) (record { first = first; second = 0 }) new bs
  beside-group new k x first h1 s =
      let m = h1 g g b l s in
      record { extends = m.extends; looks = λ n a h. h; step = m.part; cost = let q = m.cost in omega (arith, q) }

  turn-beside : (new : List Cell) (greedy : Bool) (least : ℕ) (most : Option ℕ) (a : Tree) (first : ℕ) → others (repeat greedy least most a) ≡ suc (others_of a)
      → ((e n : ℕ) → AreBuilt ts old → empty < length old → IsPart ts old parts.first a e n → Adds ts old a empty n (others_of a) first new)
      → IsTurn ts old g g parts.first greedy least most a
      → Makes ts old bs empty g (repeat greedy least most a) (others (repeat greedy least most a)) (record { first = first; second = 0 }) new bs
  turn-beside new greedy least most a first w h1 s =
      let m = h1 g s.more b l s.first_is in
      let rest : Tree = repeat greedy (least - 1) (option_map (λ k. k - 1) most) a in
      record {
        extends = m.extends;
        looks = λ n a h. h;
        step = turn-is most _ (record { more = s.more; first_is = m.part; more_is = part-grows ts old new m.extends.grows s.more rest g g s.more_is });
        cost = let q = m.cost in omega (arith, q, w);
      }

  pub beside-turns : (new : List Cell) (greedy : Bool) (least : ℕ) (most : Option ℕ) (a : Tree) (first : ℕ) → (most ≡ Some 0 → ⊥)
      → ((e n : ℕ) → AreBuilt ts old → empty < length old → IsPart ts old parts.first a e n → Adds ts old a empty n (others_of a) first new)
      → IsStep ts old bs g g parts (repeat greedy least most a)
      → Makes ts old bs empty g (repeat greedy least most a) (others (repeat greedy least most a)) (record { first = first; second = 0 }) new bs
  beside-turns new greedy least None a first some h1 s = turn-beside new greedy least None a first refl h1 s
  beside-turns new greedy least (Some zero) a first some h1 s = absurd (some refl)
  beside-turns new greedy least (Some (suc m)) a first some h1 s = turn-beside new greedy least (Some (suc m)) a first refl h1 s

-- -- The parts that are there

-- the parts of a cell by its tree and what goes on
pub step-same : (ts : List Tree) (cells : List Cell) (bs : List ℕ) (k : ℕ) (p : Parts) (t : Tree) (g : ℕ) → IsSame ts cells k t g → IsStepOf ts cells bs k p → IsStep ts cells bs g g p t
step-same ts cells bs k p t g h s =
    let P : Tree → Type 0 = λ x. IsStep ts cells bs g g p x in
    let Q : ℕ → Type 0 = λ x. IsStep ts cells bs x g p (item_tree ts (cell_at cells k).item) in
    let R : ℕ → Type 0 = λ x. IsStep ts cells bs (cell_at cells k).empty x p (item_tree ts (cell_at cells k).item) in
    subst P h.tree (subst Q h.empty (subst R h.next s))

-- a loop that takes a turn at least has the parts of the loop after it
pub makes-shared : (ts : List Tree) (cells : List Cell) (bs : List ℕ) (k : ℕ) (c : Cell) (q : ℕ) (p : Parts) → AreBuilt ts cells → IsShared ts cells k c q → IsStepOf ts cells bs q p
    → Makes ts cells bs c.empty c.next (item_tree ts c.item) 1 p cells bs
makes-shared ts cells bs k c q p b h s =
    let one : IsTurn ts cells c.next c.next p.first h.greedy 1 None h.body = step-same ts cells bs q p (repeat h.greedy 1 None h.body) c.next h.same s in
    let none : IsTurn ts cells c.next c.next p.first h.greedy 0 None h.body = record { more = one.more; first_is = one.first_is; more_is = one.more_is } in
    let P : Tree → Type 0 = λ x. IsStep ts cells bs c.next c.next p x in
    let Q : ℕ → Type 0 = λ x. IsStep ts cells bs x c.next p (item_tree ts c.item) in
    makes-none ts cells bs bs c.empty c.next (item_tree ts c.item) 1 p (λ n a h. h) b (subst Q (sym h.alike) (subst P (sym h.tree) none)) refl

-- a cell whose parts stand beside those of another one
pub expands-beside : (ts : List Tree) (old new : List Cell) (bs cs : List ℕ) (k : ℕ) (c : Cell) (q : ℕ) (parts p : Parts) → cell_at old k ≡ c → c.source ≡ Beside q
    → AreBuilt ts old → k < length old → (q < k → IsStepOf ts old bs q parts)
    → ((g : ℕ) → AreBuilt ts old → c.empty < length old → IsStep ts old bs g g parts (item_tree ts c.item)
    → Makes ts old bs c.empty g (item_tree ts c.item) (others (item_tree ts c.item)) p new cs)
    → Expands ts old bs k p new cs
expands-beside ts old new bs cs k c q parts p is from b inside steps make =
    let S : Cell → Type 0 = λ x. IsSource ts old k x x.source in
    let T : Source → Type 0 = λ s. IsSource ts old k c s in
    let beside : IsBeside ts old k c q = subst T from (subst S is (b.sources k inside)) in
    let low = beside.below in
    let below = b.cells_are.empty k (omega (arith, low)) inside in
    let at : c.empty < length old = let e = ap (λ (x : Cell). x.empty) is in omega (arith, below, inside, e) in
    let made = make c.next b at (step-same ts old bs q parts (item_tree ts c.item) c.next beside.same (steps low)) in
    let P : Source → Type 0 = λ s. Makes ts old bs c.empty c.next (item_tree ts c.item) (source_cells s (item_tree ts c.item)) p new cs in
    let Q : Cell → Type 0 = λ x. Makes ts old bs x.empty x.next (item_tree ts x.item) (cell_cells ts x) p new cs in
    subst Q (sym is) (subst P (sym from) made)
