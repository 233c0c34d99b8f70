-- Cells that a plan gets.
use Rattle.std.proofs.Common.{◌≡◌, ℕ, zero, suc, ◌+◌, ◌-◌, ◌*◌, ◌<◌, List, [], ◌∷◌, ◌++◌, length, Bool, true, false, Option, Some, None, refl, sym, ap, subst, ◌∙◌, arith, inl, inr, length-append}
use Rattle.std.specs.Prelude.{Result, Ok, Err, IfOk, option_map, slice_index_or, ◌&&◌, ◌==◌, if◌then◌else◌, is_none}
use Rattle.std.proofs.lemmas.List.Sums.{sum_by-append}
use Rattle.std.proofs.lemmas.Bool.{cases_lt}
use Rattle.std.proofs.lemmas.List.{get_or_append_left, get_or_past}
use Rattle.std.proofs.Math.Seq.{get_or-append_seam}
use Rattle.syntect_pattern_plan.specs.syntect_pattern.Trees.{Tree, nothing, repeat}
use Rattle.syntect_pattern_plan.specs.Onward.{reads, is_free}
use Rattle.syntect_pattern_plan.specs.Cells.{last_cell, cell_at, item_tree, is_end, beside_or, partner_of}
use Rattle.syntect_pattern_plan.specs.Plan.{AreCells, Grows, IsPart, loop_cells, others, others_of, cells_of}
use Rattle.syntect_pattern_plan.specs.Build.{IsSame, IsShared, IsSource, AreBuilt, Extends, source_cells, cell_cells, all_cells, Adds, AddsMore, turn_source}
use Rattle.syntect_pattern_plan.specs.declared.cells.CellPart.TheVariants.{Node, Turns}
use Rattle.syntect_pattern_plan.specs.declared.cells.Source.{Source}
use Rattle.syntect_pattern_plan.specs.declared.cells.Source.TheVariants.{Own, Shared, Beside}
use Rattle.syntect_pattern_plan.specs.declared.cells.Cell.{Cell}
use Rattle.syntect_pattern_plan.proofs.TreeLaws.{and_left, free-turn}
use Rattle.syntect_pattern_plan.proofs.CellLaws.{either-bool, real-inside}
use Rattle.syntect_pattern_plan.proofs.PlanLaws.{grows-join, grows-same}

-- an answer of which both hold
pub ok-both : {A E : Type 0} (r : Result A E) (P Q R : A → Type 0) → ((x : A) → P x → Q x → R x) → IfOk r P → IfOk r Q → IfOk r R
ok-both (Ok x) P Q R f h i = f x h i
ok-both (Err x) P Q R f h i = tt

pub extends-join : (ts : List Tree) (a b c : List Cell) → Extends ts a b → Extends ts b c → Extends ts a c
extends-join ts a b c x y = record { grows = grows-join a b c x.grows y.grows; built = y.built }

pub extends-same : (ts : List Tree) (a : List Cell) → AreBuilt ts a → Extends ts a a
extends-same ts a b = record { grows = grows-same a; built = b }

-- -- What goes on from cells

module _ (ts : List Tree) (cells : List Cell) where
  pub same-part : (k : ℕ) (t : Tree) (g : ℕ) → IsSame ts cells k t g → IsPart ts cells k t g g
  same-part k t g s = record {
    item = (cell_at cells k).item;
    real = s.real;
    cell = record { inside = s.inside; item_is = refl; next_is = s.next; empty_is = λ r. s.empty };
    tree = s.tree;
  }

  pub part-same : (k : ℕ) (t : Tree) (f g : ℕ) → IsPart ts cells k t f g → (cell_at cells k).empty ≡ (cell_at cells k).next → IsSame ts cells k t g
  part-same k t f g p e = record {
    inside = p.cell.inside;
    real = ap is_end p.cell.item_is ∙ p.real;
    tree = ap (item_tree ts) p.cell.item_is ∙ p.tree;
    empty = e ∙ p.cell.next_is;
    next = p.cell.next_is;
  }

  pub same-more : (k : ℕ) (t u : Tree) (f g : ℕ) → t ≡ u → f ≡ g → IsSame ts cells k t f → IsSame ts cells k u g
  same-more k t u f g e n s =
      let P : Tree → Type 0 = λ x. IsSame ts cells k x g in
      let Q : ℕ → Type 0 = λ x. IsSame ts cells k t x in
      subst P e (subst Q n s)

  -- the cell of the same item before what goes on after it alone
  pub partner-is : AreBuilt ts cells → (k : ℕ) (t : Tree) (f g : ℕ) → IsPart ts cells k t f g → IsSame ts cells (partner_of cells k) t g
  partner-is b k t f g p = by (cell_at cells k).source (b.sources k p.cell.inside)
    where
      by : (s : Source) → IsSource ts cells k (cell_at cells k) s → IsSame ts cells (beside_or k s) t g
      by Own h = part-same k t f g p h
      by (Shared q) h = part-same k t f g p h.alike
      by (Beside q) h = same-more q (item_tree ts (cell_at cells k).item) t (cell_at cells k).next g (ap (item_tree ts) p.cell.item_is ∙ p.tree) p.cell.next_is h.same

  pub part-next : AreCells ts cells → (k : ℕ) (t : Tree) (f g : ℕ) → IsPart ts cells k t f g → g < length cells
  part-next h k t f g p =
      let real : is_end (cell_at cells k).item ≡ false = ap is_end p.cell.item_is ∙ p.real in
      let l = h.next k (real-inside ts cells h k real) p.cell.inside in
      let i = p.cell.inside in
      let n = p.cell.next_is in
      omega (arith, l, i, n)

  pub part-free : AreCells ts cells → (k : ℕ) (t : Tree) (f g : ℕ) → IsPart ts cells k t f g → is_free t ≡ true
  part-free h k t f g p = ap is_free (sym (ap (item_tree ts) p.cell.item_is ∙ p.tree)) ∙ h.free k

module _ (ts : List Tree) (old new : List Cell) (g : Grows old new) where
  pub same-grows : (k : ℕ) (t : Tree) (n : ℕ) → IsSame ts old k t n → IsSame ts new k t n
  same-grows k t n s =
      let e = g.kept k s.inside in
      record {
        inside = let l = s.inside in let m = g.longer in omega (arith, l, m);
        real = ap (λ (c : Cell). is_end c.item) e ∙ s.real;
        tree = ap (λ (c : Cell). item_tree ts c.item) e ∙ s.tree;
        empty = ap (λ (c : Cell). c.empty) e ∙ s.empty;
        next = ap (λ (c : Cell). c.next) e ∙ s.next;
      }

  source-grows : (k : ℕ) (c : Cell) (s : Source) → IsSource ts old k c s → IsSource ts new k c s
  source-grows k c Own h = h
  source-grows k c (Shared p) h = record {
    greedy = h.greedy;
    body = h.body;
    below = h.below;
    alike = h.alike;
    tree = h.tree;
    same = same-grows p (repeat h.greedy 1 None h.body) c.next h.same;
  }
  source-grows k c (Beside p) h = record { below = h.below; same = same-grows p (item_tree ts c.item) c.next h.same }

-- -- One cell more

module _ (ts : List Tree) (old new : List Cell) (c : Cell) (n : new ≡ old ++ c ∷ []) where
  grown : length new ≡ length old + 1
  grown = ap length n ∙ length-append old (c ∷ [])

  kept : (j : ℕ) → j < length old → cell_at new j ≡ cell_at old j
  kept j l = ap (λ (x : List Cell). cell_at x j) n ∙ get_or_append_left old (c ∷ []) last_cell j l

  here : cell_at new (length old) ≡ c
  here = ap (λ (x : List Cell). cell_at x (length old)) n ∙ get_or-append_seam old c [] last_cell

  -- what holds of the cells that were there and of the new one
  each : (P : ℕ → Cell → Type 0) → ((j : ℕ) → j < length old → P j (cell_at old j)) → P (length old) c → (j : ℕ) → j < length new → P j (cell_at new j)
  each P h one j l = elim (cases_lt j (length old)) [
    | inl m ↦ let Q : Cell → Type 0 = λ x. P j x in subst Q (sym (kept j m)) (h j m)
    | inr m ↦
        let same : j ≡ length old = omega (arith, l, m, grown) in
        let Q : Cell → Type 0 = λ x. P (length old) x in
        let R : ℕ → Type 0 = λ i. P i (cell_at new i) in
        subst R (sym same) (subst Q (sym here) one)
  ]

  grows-one : Grows old new
  grows-one = record { longer = omega (arith, grown); kept = kept }

  cost-push : all_cells ts new ≡ all_cells ts old + cell_cells ts c
  cost-push = let a = sum_by-append (cell_cells ts) old (c ∷ []) in let b = ap (all_cells ts) n in omega (arith, a, b)

  free-each : AreCells ts old → is_free (item_tree ts c.item) ≡ true → (j : ℕ) → is_free (item_tree ts (cell_at new j).item) ≡ true
  free-each o f j = elim (cases_lt j (length new)) [
    | inl l ↦ each (λ i x. is_free (item_tree ts x.item) ≡ true) (λ i m. o.free i) f j l
    | inr m ↦ ap (λ (x : Cell). is_free (item_tree ts x.item)) (get_or_past new j last_cell m)
  ]

  cells-one : AreCells ts old → c.empty < length old → c.next < length old → is_free (item_tree ts c.item) ≡ true → AreCells ts new
  cells-one o e x f = record {
    some = let z = o.some in omega (arith, z, grown);
    last = kept 0 o.some ∙ o.last;
    empty = λ j pos l. each (λ i y. 0 < i → y.empty < i) (λ i m q. o.empty i q m) (λ q. e) j l pos;
    next = λ j pos l. each (λ i y. 0 < i → y.next < i) (λ i m q. o.next i q m) (λ q. x) j l pos;
    free = free-each o f;
  }

  pub adds-push : (k : ℕ) → AreBuilt ts old → c.empty < length old → c.next < length old → is_free (item_tree ts c.item) ≡ true → is_end c.item ≡ false
      → IsSource ts old (length old) c c.source → k ≡ length old → Adds ts old (item_tree ts c.item) c.empty c.next (cell_cells ts c) k new
  adds-push k b e x f r s number =
      let at : cell_at new k ≡ c = ap (cell_at new) number ∙ here in
      record {
        extends = record {
          grows = grows-one;
          built = record {
            cells_are = cells-one b.cells_are e x f;
            sources =
                each (λ i y. IsSource ts new i y y.source)
                (λ i l. source-grows ts old new grows-one i (cell_at old i) (cell_at old i).source (b.sources i l))
                (source-grows ts old new grows-one (length old) c c.source s);
          };
        };
        part = record {
          item = c.item;
          real = r;
          cell = record {
            inside = omega (arith, number, grown);
            item_is = ap (λ (y : Cell). y.item) at;
            next_is = ap (λ (y : Cell). y.next) at;
            empty_is = λ z. ap (λ (y : Cell). y.empty) at;
          };
          tree = refl;
        };
        cost = cost-push;
      }

-- a cell for a node before the same at its place and after it
pub adds-own : (ts : List Tree) (old new : List Cell) (node g k : ℕ) → k ≡ length old → new ≡ old ++ (record { item = Node node; empty = g; next = g; source = Own }) ∷ []
    → AreBuilt ts old → g < length old → is_free (slice_index_or ts node nothing) ≡ true
    → Adds ts old (slice_index_or ts node nothing) g g (cells_of (slice_index_or ts node nothing)) k new
adds-own ts old new node g k e n b l f = adds-push ts old new (record { item = Node node; empty = g; next = g; source = Own }) n k b l l f refl refl e

others-none : (t : Tree) → reads t ≡ true → others_of t ≡ 0
others-none t r = ap (λ (b : Bool). if b then 0 else others t) r

others-all : (t : Tree) → reads t ≡ false → others t ≡ others_of t
others-all t r = sym (ap (λ (b : Bool). if b then 0 else others t) r)

-- what reads has a cell already
pub adds-here : (ts : List Tree) (old : List Cell) (t : Tree) (empty f g k : ℕ) → reads t ≡ true → AreBuilt ts old → IsPart ts old k t f g → Adds ts old t empty g (others_of t) k old
adds-here ts old t empty f g k r b p = record {
  extends = extends-same ts old b;
  part = record {
    item = p.item;
    real = p.real;
    cell = record {
      inside = p.cell.inside;
      item_is = p.cell.item_is;
      next_is = p.cell.next_is;
      empty_is = λ z. let y : true ≡ false = sym r ∙ ap reads (sym p.tree) ∙ z in cc;
    };
    tree = p.tree;
  };
  cost = let o = others-none t r in omega (arith, o);
}

-- a cell for a node before something else at its place
pub adds-beside : (ts : List Tree) (old new : List Cell) (node cell empty next partner k f g : ℕ) → reads (slice_index_or ts node nothing) ≡ false
    → next ≡ (cell_at old cell).next → partner ≡ partner_of old cell → k ≡ length old
    → new ≡ old ++ (record { item = Node node; empty = empty; next = next; source = Beside partner }) ∷ []
    → AreBuilt ts old → empty < length old → IsPart ts old cell (slice_index_or ts node nothing) f g
    → Adds ts old (slice_index_or ts node nothing) empty g (others_of (slice_index_or ts node nothing)) k new
adds-beside ts old new node cell empty next partner k f g r e q number n b l p =
    let t : Tree = slice_index_or ts node nothing in
    let c : Cell = record { item = Node node; empty = empty; next = next; source = Beside partner } in
    let on : next ≡ g = e ∙ p.cell.next_is in
    let one = partner-is ts old b cell t f g p in
    let P : ℕ → Type 0 = λ x. IsSame ts old x t next in
    let same : IsSame ts old partner t next = subst P (sym q) (same-more ts old (partner_of old cell) t t g next refl (sym on) one) in
    let inside : next < length old = let i = part-next ts old b.cells_are cell t f g p in omega (arith, i, on) in
    let a = adds-push ts old new c n k b l inside (part-free ts old b.cells_are cell t f g p) refl (record { below = same.inside; same = same }) number in
    let Q : ℕ → Type 0 = λ x. Adds ts old t empty x (others t) k new in
    let R : ℕ → Type 0 = λ x. Adds ts old t empty g x k new in
    subst R (others-all t r) (subst Q on a)

-- -- The loop after a turn

and-none : (b : Bool) (most : Option ℕ) → (b && is_none most) ≡ true → most ≡ None
and-none b None e = refl
and-none b (Some m) e = absurd (no b e)
  where
    no : (b : Bool) → (b && false) ≡ true → ⊥
    no true e = cc
    no false e = cc

one-is : (least : ℕ) → (least == 1) ≡ true → least ≡ 1
one-is least e = grind arith

-- a loop that takes a turn at least and has no limit has its parts from the loop before it
turn-cost : (ts : List Tree) (greedy : Bool) (number least : ℕ) (most : Option ℕ) (a : Tree) → (most ≡ Some 0 → ⊥) → ((least == 0) && is_none most) ≡ false
    → suc (source_cells (turn_source number least most) (repeat greedy (least - 1) (option_map (λ j. j - 1) most) a) + (cells_of a + others_of a))
    ≡ cells_of (repeat greedy least most a)
turn-cost ts greedy number zero None a some test = cc
turn-cost ts greedy number (suc zero) None a some test = omega arith
turn-cost ts greedy number (suc (suc least)) None a some test =
    let w : ℕ = cells_of a + others_of a in
    let far : (suc (suc least) == 1) ≡ false = grind arith in
    let own : source_cells (turn_source number (suc (suc least)) None) (repeat greedy (suc (suc least) - 1) None a) ≡ loop_cells w (suc least) None =
    ap (λ (b : Bool). source_cells (if b && true then Shared number else Own) (repeat greedy (suc (suc least) - 1) None a)) far
    ∙ ap (λ (l : ℕ). loop_cells w l None) (let q : suc (suc least) - 1 ≡ suc least = omega arith in q) in
    let e : suc (suc least) * suc w ≡ suc w + suc least * suc w = grind arith in
    omega (arith, own, e)
turn-cost ts greedy number least (Some zero) a some test = absurd (some refl)
turn-cost ts greedy number least (Some (suc m)) a some test =
    let w : ℕ = cells_of a + others_of a in
    let far : ((least == 1) && false) ≡ false = and-false (least == 1) in
    let own : source_cells (turn_source number least (Some (suc m))) (repeat greedy (least - 1) (Some (suc m - 1)) a) ≡ loop_cells w (least - 1) (Some m) =
    ap (λ (b : Bool). source_cells (if b then Shared number else Own) (repeat greedy (least - 1) (Some (suc m - 1)) a)) far
    ∙ ap (λ (l : ℕ). loop_cells w (least - 1) (Some l)) (let q : suc m - 1 ≡ m = omega arith in q) in
    let e : suc m * suc w ≡ suc w + m * suc w = grind arith in
    omega (arith, own, e)
  where
    and-false : (b : Bool) → (b && false) ≡ false
    and-false true = refl
    and-false false = refl

module _ (ts : List Tree) (old new : List Cell) (number next : ℕ) (greedy : Bool) (least : ℕ) (most : Option ℕ) (body : ℕ) where
  abbrev tree : Tree
  tree = slice_index_or ts body nothing

  abbrev cell_with : ℕ → Option ℕ → Source → Cell
  cell_with taken limit s = record { item = Turns greedy taken limit body; empty = next; next = next; source = s }

  abbrev cell_of : Source → Cell
  cell_of s = cell_with (least - 1) (option_map (λ j. j - 1) most) s

  more-source : IsSame ts old number (repeat greedy least most tree) next
      → (s : Source) → IsSource ts old (length old) (cell_of s) (turn_source number least most)
  more-source h s = elim (either-bool ((least == 1) && is_none most)) [
    | inl y ↦
        let none : most ≡ None = and-none (least == 1) most y in
        let one : least ≡ 1 = one-is least (and_left (least == 1) (is_none most) y) in
        let same : repeat greedy least most tree ≡ repeat greedy 1 None tree = ap (λ (l : ℕ). repeat greedy l most tree) one ∙ ap (λ (o : Option ℕ). repeat greedy 1 o tree) none in
        let shared : IsShared ts old (length old) (cell_of s) number =
        record {
          greedy = greedy;
          body = tree;
          below = h.inside;
          alike = refl;
          tree = ap (λ (l : ℕ). repeat greedy (l - 1) (option_map (λ j. j - 1) most) tree) one ∙ ap (λ (o : Option ℕ). repeat greedy 0 (option_map (λ j. j - 1) o) tree) none;
          same = same-more ts old number (repeat greedy least most tree) (repeat greedy 1 None tree) next next same refl h;
        } in
        let P : Bool → Type 0 = λ b. IsSource ts old (length old) (cell_of s) (if b then Shared number else Own) in
        subst P (sym y) shared
    | inr y ↦
        let P : Bool → Type 0 = λ b. IsSource ts old (length old) (cell_of s) (if b then Shared number else Own) in
        subst P (sym y) refl
  ]

  -- the loop's own cell
  pub more-here : least ≡ 0 → most ≡ None → AreBuilt ts old → IsSame ts old number (repeat greedy least most tree) next → AddsMore ts old next greedy least most tree number old
  more-here l m b h =
      let same : repeat greedy least most tree ≡ repeat greedy (least - 1) (option_map (λ j. j - 1) most) tree =
      ap (λ (k : ℕ). repeat greedy k most tree) (let q : least ≡ least - 1 = omega (arith, l) in q)
      ∙ ap (λ (o : Option ℕ). repeat greedy (least - 1) o tree) (m ∙ ap (option_map (λ j. j - 1)) (sym m)) in
      record {
        extends = extends-same ts old b;
        part = same-part ts old number (repeat greedy (least - 1) (option_map (λ j. j - 1) most) tree) next (same-more ts old number _ _ next next same refl h);
        cost =
            let w : ℕ = cells_of tree + others_of tree in
            let e : cells_of (repeat greedy least most tree) ≡ suc w = ap (λ (k : ℕ). loop_cells w k most) l ∙ ap (loop_cells w 0) m in
            omega (arith, e);
      }

  -- a cell more
  pub more-adds : (more : ℕ) (s : Source) (taken : ℕ) (limit : Option ℕ) → ((least == 0) && is_none most) ≡ false → (most ≡ Some 0 → ⊥) → s ≡ turn_source number least most
      → taken ≡ least - 1 → limit ≡ option_map (λ j. j - 1) most → more ≡ length old
      → new ≡ old ++ cell_with taken limit s ∷ []
      → AreBuilt ts old → IsSame ts old number (repeat greedy least most tree) next → AddsMore ts old next greedy least most tree more new
  more-adds more s taken limit test some from k o number_is n b h =
      let c : Cell = cell_of (turn_source number least most) in
      let same : cell_with taken limit s ≡ c = ap (λ (i : ℕ). cell_with i limit s) k ∙ ap (λ (i : Option ℕ). cell_with (least - 1) i s) o ∙ ap cell_of from in
      let p = same-part ts old number (repeat greedy least most tree) next h in
      let inside = part-next ts old b.cells_are number (repeat greedy least most tree) next next p in
      let free = part-free ts old b.cells_are number (repeat greedy least most tree) next next p in
      let a = adds-push ts old new c (n ∙ ap (λ (x : Cell). old ++ x ∷ []) same) more b inside inside (free-turn greedy least (least - 1) most tree free) refl (more-source h (turn_source number least most)) number_is in
      record {
        extends = a.extends;
        part = a.part;
        cost = let e = turn-cost ts greedy number least most tree some test in let q = a.cost in omega (arith, e, q);
      }
