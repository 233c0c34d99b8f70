-- What goes on from cells.
use Rattle.std.proofs.Common.{◌≡◌, ℕ, zero, suc, ◌+◌, ◌<◌, List, [], ◌∷◌, ◌++◌, length, get_or, Bool, true, false, Some, refl, sym, ap, ◌∙◌, arith, inl, inr, ◌⊎◌}
use Rattle.std.specs.Prelude.{if◌then◌else◌, IsUtf8, IsCharBoundary}
use Rattle.syntect_pattern_plan.specs.syntect_pattern.Trees.{Tree}
use Rattle.syntect_pattern_plan.specs.Onward.{Onward, moved, reads, onward}
use Rattle.syntect_pattern_plan.specs.Cells.{last_cell, cell_at, item_tree, is_end, tree_size, item_end, cell_end, ends_from, ends, item_height, cell_height, heights_from, height}
use Rattle.syntect_pattern_plan.specs.Plan.{AreCells, IsPart}
use Rattle.syntect_pattern_plan.specs.declared.cells.CellPart.{CellPart}
use Rattle.syntect_pattern_plan.specs.declared.cells.CellPart.TheVariants.{End, Node, Turns}
use Rattle.syntect_pattern_plan.specs.declared.cells.Cell.{Cell}
use Rattle.syntect_pattern_plan.proofs.FoldLaws.{made_from, DependsOn, made}
use Rattle.syntect_pattern_plan.proofs.OnwardLaws.{onward-reads}

pub either-bool : (b : Bool) → (b ≡ true) ⊎ (b ≡ false)
either-bool true = inl refl
either-bool false = inr refl

module _ (ts : List Tree) (cells : List Cell) (h : AreCells ts cells) where
  -- a cell that is no end is none of those
  pub real-inside : (k : ℕ) → is_end (cell_at cells k).item ≡ false → 0 < k
  real-inside zero e = absurd (let f : is_end (cell_at cells 0).item ≡ true = ap (λ (c : Cell). is_end c.item) h.last in cc)
  real-inside (suc k) e = omega arith

  heights-made : (xs : List ℕ) (cs : List Cell) → heights_from ts xs cs ≡ made_from ℕ Cell 0 last_cell (cell_height ts) xs cs
  heights-made xs [] = refl
  heights-made xs (c ∷ cs) = heights-made (xs ++ cell_height ts xs c ∷ []) cs

  height-item : (a b : ℕ) (item : CellPart) → a ≡ b → item_height ts a item ≡ item_height ts b item
  height-item a b item e = ap (λ (n : ℕ). item_height ts n item) e

  height-depends : (j : ℕ) → j < length cells → DependsOn ℕ Cell 0 last_cell (cell_height ts) j (cell_at cells j)
  height-depends zero l xs ys e = rw h.last refl
  height-depends (suc j) l xs ys e = height-item _ _ (cell_at cells (suc j)).item (e (cell_at cells (suc j)).empty (h.empty (suc j) (omega arith) l))

  height-is : (k : ℕ) → k < length cells → height ts cells k ≡ item_height ts (height ts cells (cell_at cells k).empty) (cell_at cells k).item
  unfolding height
  height-is k l =
      ap (λ (xs : List ℕ). get_or xs k 0) (heights-made [] cells)
      ∙ made ℕ Cell 0 last_cell (cell_height ts) cells height-depends k l
      ∙ ap (λ (xs : List ℕ). cell_height ts xs (cell_at cells k)) (sym (heights-made [] cells))

  pub height-end : height ts cells 0 ≡ 0
  height-end = height-is 0 h.some ∙ ap (λ (c : Cell). item_height ts (height ts cells c.empty) c.item) h.last

  item-high : (rest : ℕ) (item : CellPart) → is_end item ≡ false → item_height ts rest item ≡ tree_size (item_tree ts item) + (if reads (item_tree ts item) then 0 else rest)
  item-high rest End e = cc
  item-high rest (Node n) e = refl
  item-high rest (Turns greedy least most n) e = refl

  -- how high the cell of a part is
  pub height-part : (k : ℕ) (t : Tree) (f g : ℕ) → IsPart ts cells k t f g → height ts cells k ≡ tree_size t + (if reads t then 0 else height ts cells f)
  height-part k t f g p =
      height-is k p.cell.inside
      ∙ ap (item_height ts (height ts cells (cell_at cells k).empty)) p.cell.item_is
      ∙ item-high (height ts cells (cell_at cells k).empty) p.item p.real
      ∙ by (reads (item_tree ts p.item)) refl
      ∙ ap (λ (x : Tree). tree_size x + (if reads x then 0 else height ts cells f)) p.tree
    where
      by : (b : Bool) → reads (item_tree ts p.item) ≡ b
          → tree_size (item_tree ts p.item) + (if b then 0 else height ts cells (cell_at cells k).empty) ≡ tree_size (item_tree ts p.item) + (if b then 0 else height ts cells f)
      by true e = refl
      by false e = ap (λ (n : ℕ). tree_size (item_tree ts p.item) + height ts cells n) (p.cell.empty_is e)

module _ (s : List ℕ) (ts : List Tree) (cells : List Cell) (h : AreCells ts cells) where
  ends-made : (xs : List Onward) (cs : List Cell) → ends_from s ts xs cs ≡ made_from Onward Cell Some last_cell (cell_end s ts) xs cs
  ends-made xs [] = refl
  ends-made xs (c ∷ cs) = ends-made (xs ++ cell_end s ts xs c ∷ []) cs

  ends-depends : (j : ℕ) → j < length cells → DependsOn Onward Cell Some last_cell (cell_end s ts) j (cell_at cells j)
  ends-depends zero l xs ys e = rw h.last refl
  ends-depends (suc j) l xs ys e =
      ap (λ (f : Onward). item_end s ts f (get_or xs (cell_at cells (suc j)).next Some) (cell_at cells (suc j)).item) (e (cell_at cells (suc j)).empty (h.empty (suc j) (omega arith) l))
      ∙ ap (λ (g : Onward). item_end s ts (get_or ys (cell_at cells (suc j)).empty Some) g (cell_at cells (suc j)).item) (e (cell_at cells (suc j)).next (h.next (suc j) (omega arith) l))

  pub ends-is : (k : ℕ) → k < length cells
      → ends s ts cells k ≡ item_end s ts (ends s ts cells (cell_at cells k).empty) (ends s ts cells (cell_at cells k).next) (cell_at cells k).item
  unfolding ends
  ends-is k l =
      ap (λ (xs : List Onward). get_or xs k Some) (ends-made [] cells)
      ∙ made Onward Cell Some last_cell (cell_end s ts) cells ends-depends k l
      ∙ ap (λ (xs : List Onward). cell_end s ts xs (cell_at cells k)) (sym (ends-made [] cells))

  item-goes : (f g : Onward) (item : CellPart) (i : ℕ) → is_end item ≡ false → item_end s ts f g item i ≡ onward s (item_tree ts item) (moved i f g) i
  item-goes f g End i e = cc
  item-goes f g (Node n) i e = refl
  item-goes f g (Turns greedy least most n) i e = refl

  -- a cell that is the end
  pub ends-end : (k i : ℕ) → is_end (cell_at cells k).item ≡ true → k < length cells → ends s ts cells k i ≡ Some i
  ends-end k i e l = ap (λ (f : Onward). f i) (ends-is k l) ∙ by (cell_at cells k).item e
    where
      by : (item : CellPart) → is_end item ≡ true → item_end s ts (ends s ts cells (cell_at cells k).empty) (ends s ts cells (cell_at cells k).next) item i ≡ Some i
      by End e = refl
      by (Node n) e = cc
      by (Turns greedy least most n) e = cc

  -- what goes on from the cell of a part
  pub ends-part : IsUtf8 s → (k : ℕ) (t : Tree) (f g i : ℕ) → IsCharBoundary s i → IsPart ts cells k t f g
      → ends s ts cells k i ≡ onward s t (moved i (ends s ts cells f) (ends s ts cells g)) i
  ends-part u k t f g i c p =
      ap (λ (o : Onward). o i) (ends-is k p.cell.inside)
      ∙ ap (λ (x : CellPart). item_end s ts (ends s ts cells (cell_at cells k).empty) (ends s ts cells (cell_at cells k).next) x i) p.cell.item_is
      ∙ item-goes _ _ p.item i p.real
      ∙ ap (λ (n : ℕ). onward s (item_tree ts p.item) (moved i (ends s ts cells (cell_at cells k).empty) (ends s ts cells n)) i) p.cell.next_is
      ∙ elim (either-bool (reads (item_tree ts p.item))) [
        | inl r ↦ onward-reads s u (item_tree ts p.item) (ends s ts cells (cell_at cells k).empty) (ends s ts cells f) (ends s ts cells g) i r c
        | inr r ↦ ap (λ (n : ℕ). onward s (item_tree ts p.item) (moved i (ends s ts cells n) (ends s ts cells g)) i) (p.cell.empty_is r)
      ]
      ∙ ap (λ (x : Tree). onward s x (moved i (ends s ts cells f) (ends s ts cells g)) i) p.tree
