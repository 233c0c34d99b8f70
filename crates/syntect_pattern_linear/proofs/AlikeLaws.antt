-- From places that are alike the same cells lead on.
use Rattle.std.proofs.Common.{◌≡◌, ℕ, zero, suc, ◌+◌, ◌-◌, ◌<◌, List, [], length, get_or, Bool, true, false, Option, Some, None, refl, sym, ap, subst, ◌∙◌, arith, inl, inr, ◌∷◌}
use Rattle.std.specs.Prelude.{if◌then◌else◌, ◌==◌, ◌&&◌, ◌||◌, not, is_some, option_and_then, IsCharBoundary}
use Rattle.std.proofs.lemmas.Bool.{cases_lt}
use Rattle.std.specs.Option.{option_or}
use Rattle.std.specs.Char.{len_utf8}
use Rattle.syntect_pattern_linear.specs.syntect_pattern.Text.{char_at}
use Rattle.syntect_pattern_linear.specs.syntect_pattern.Sets.{holds}
use Rattle.syntect_pattern_linear.specs.syntect_pattern.Matches.{anchor_holds, is_newline}
use Rattle.syntect_pattern_linear.specs.syntect_pattern.Trees.{Tree, nothing, one_of, anchor, same, seq, alt, repeat, group, atomic, ahead, behind}
use Rattle.syntect_pattern_linear.specs.syntect_pattern.declared.anchor.Anchor.{Anchor}
use Rattle.syntect_pattern_linear.specs.syntect_pattern_table.Program.{trees_of}
use Rattle.syntect_pattern_linear.specs.syntect_pattern_steps.Steps.{after_char}
use Rattle.syntect_pattern_plan.specs.Onward.{prefer_end, has_turn, end_if}
use Rattle.syntect_pattern_plan.specs.Cells.{cell_at, parts_at, item_tree, cell_tree, is_end}
use Rattle.syntect_pattern_plan.proofs.CellLaws.{ends-end}
use Rattle.syntect_pattern_linear.specs.Alike.{IsLoose, is_atomic, AreAlike, IsSpot, SeesAlike}
use Rattle.syntect_pattern_linear.specs.Ground.{IsGround, IsIn, ends_at, height_of}
use Rattle.syntect_pattern_linear.specs.Marks.{IsMarked}
use Rattle.syntect_pattern_plan.specs.Sights.{row_flag}
use Rattle.syntect_pattern_linear.specs.Step.{IsTreeAt}
use Rattle.syntect_pattern_linear.specs.declared.alike.Spot.{Spot}
use Rattle.syntect_pattern_linear.specs.declared.ground.Ground.{Ground}
use Rattle.syntect_pattern_linear.proofs.StepLaws.{free}
use Rattle.syntect_pattern_linear.proofs.GroundLaws.{tree-on, nothing-goes, anchor-goes, seq-goes, alt-goes, group-goes, ahead-goes, behind-goes, char-on, next-inside, loop-goes}

-- ends of two places of which there is one at both or at neither
some-if : (b d : Bool) (o u : Option ℕ) → b ≡ d → is_some o ≡ is_some u → is_some (end_if b o) ≡ is_some (end_if d u)
some-if true true o u e h = h
some-if false false o u e h = refl
some-if true false o u e h = cc
some-if false true o u e h = cc

some-or : (a o b u : Option ℕ) → is_some a ≡ is_some b → is_some o ≡ is_some u → is_some (option_or a o) ≡ is_some (option_or b u)
some-or None o None u e h = h
some-or (Some i) o (Some j) u e h = refl
some-or None o (Some j) u e h = cc
some-or (Some i) o None u e h = cc

some-prefer : (greedy : Bool) (a o b u : Option ℕ) → is_some a ≡ is_some b → is_some o ≡ is_some u → is_some (prefer_end greedy a o) ≡ is_some (prefer_end greedy b u)
some-prefer true a o b u e h = some-or a o b u e h
some-prefer false a o b u e h = some-or o a u b h e

some-while : (b : Bool) (o u : Option ℕ) → (b ≡ true → is_some o ≡ is_some u) → is_some (end_if b o) ≡ is_some (end_if b u)
some-while true o u h = h refl
some-while false o u h = refl

module _ (x : Ground) (marks : List (List Bool)) (p q : ℕ) (r : IsMarked x marks p) (later : p < q) (b : IsCharBoundary x.text.now q) (loose : IsLoose x) (a : AreAlike x marks p q) where
  there : IsGround x q
  there = record { utf8 = r.ground.utf8; plan_is = r.ground.plan_is; sights_are = r.ground.sights_are; boundary = b }

  abbrev Same : ℕ → Type 0
  Same k = is_some (ends_at x k p) ≡ is_some (ends_at x k q)

  abbrev first : ℕ → ℕ
  first k = (parts_at x.plan.now.parts k).first

  abbrev second : ℕ → ℕ
  second k = (parts_at x.plan.now.parts k).second

  abbrev empty : ℕ → ℕ
  empty k = (cell_at x.plan.now.cells k).empty

  abbrev next : ℕ → ℕ
  next k = (cell_at x.plan.now.cells k).next

  -- past the character the rows say the same
  past : (k : ℕ) → IsIn x k → is_some (ends_at x k (p + len_utf8 a.c)) ≡ is_some (ends_at x k (q + len_utf8 a.c))
  past k i =
      let l = r.later in
      let m = a.here_on.0 in
      let n = a.there_on.0 in
      let y : 0 < len_utf8 a.c = grind arith in
      sym (r.marks_are (p + len_utf8 a.c) k (omega (arith, l, m, y)) a.here_on i)
      ∙ ap (λ (row : List Bool). get_or row k false) a.rows
      ∙ r.marks_are (q + len_utf8 a.c) k (omega (arith, l, n, y, later)) a.there_on i

  read : (k : ℕ) (test : Bool) → IsIn x k
      → is_some (option_and_then (λ j. ends_at x k j) (if test then Some (p + len_utf8 a.c) else None)) ≡ is_some (option_and_then (λ j. ends_at x k j) (if test then Some (q + len_utf8 a.c) else None))
  read k true i = past k i
  read k false i = refl

  by-tree : (n k : ℕ) → ((j : ℕ) → height_of x j < n → IsIn x j → Same j) → (t : Tree) → IsTreeAt x k t → height_of x k < suc n → is_atomic t ≡ false → Same k
  by-tree n k ih nothing h l f =
      let g = nothing-goes x p k r.ground h (empty k) refl in
      let e = nothing-goes x q k there h (empty k) refl in
      ap is_some g.0 ∙ ih (empty k) (let m = g.1.lower in omega (arith, m, l)) g.1.there ∙ sym (ap is_some e.0)
  by-tree n k ih (one_of t) h l f =
      let g = char-on x p k r.ground t h (next k) (after_char (holds t) (char_at x.text.now p) p) refl refl in
      let e = char-on x q k there t h (next k) (after_char (holds t) (char_at x.text.now q) q) refl refl in
      let at = λ (o : Option ℕ) (i : ℕ). is_some (option_and_then (λ j. ends_at x (next k) j) (after_char (holds t) o i)) in
      ap is_some g ∙ ap (λ (o : Option ℕ). is_some (option_and_then (λ j. ends_at x (next k) j) (after_char (holds t) o p))) a.here
      ∙ read (next k) (holds t a.c) (next-inside x p k r.ground (one_of t) h (next k) refl)
      ∙ sym (ap is_some e ∙ ap (λ (o : Option ℕ). is_some (option_and_then (λ j. ends_at x (next k) j) (after_char (holds t) o q))) a.there)
  by-tree n k ih (anchor d) h l f =
      let g = anchor-goes x p k r.ground d h (empty k) refl in
      let e = anchor-goes x q k there d h (empty k) refl in
      ap is_some g.0
      ∙ some-if _ _ _ _ (a.anchors d) (ih (empty k) (let m = g.1.lower in omega (arith, m, l)) g.1.there)
      ∙ sym (ap is_some e.0)
  by-tree n k ih (same fold d) h l f = absurd (let z = free x.text.now (trees_of x.program.now) x.plan.now.cells x.plan.now.parts x.plan.now.behinds k (same fold d) (tree-on x p k (same fold d) r.ground h) in let y : false ≡ true = z in cc)
  by-tree n k ih (seq t u) h l f =
      let g = seq-goes x p k r.ground t u h (first k) refl in
      let e = seq-goes x q k there t u h (first k) refl in
      ap is_some g.0 ∙ ih (first k) (let m = g.1.lower in omega (arith, m, l)) g.1.there ∙ sym (ap is_some e.0)
  by-tree n k ih (alt t u) h l f =
      let g = alt-goes x p k r.ground t u h (first k) (second k) refl refl in
      let e = alt-goes x q k there t u h (first k) (second k) refl refl in
      ap is_some g.0
      ∙ some-or _ _ _ _ (ih (first k) (let m = g.1.lower in omega (arith, m, l)) g.1.there) (ih (second k) (let m = g.2.lower in omega (arith, m, l)) g.2.there)
      ∙ sym (ap is_some e.0)
  by-tree n k ih (repeat greedy least most t) h l f =
      let g = loop-goes x p k r.ground greedy least most t h (first k) (empty k) refl refl in
      let e = loop-goes x q k there greedy least most t h (first k) (empty k) refl refl in
      ap is_some g.0
      ∙ some-prefer greedy _ _ _ _
      (some-while (has_turn most) _ _ (λ z. let w = g.1 z in let m = w.lower in ih (first k) (omega (arith, m, l)) w.there))
      (some-while (least == 0) _ _ (λ z. let w = g.2 z in let m = w.lower in ih (empty k) (omega (arith, m, l)) w.there))
      ∙ sym (ap is_some e.0)
  by-tree n k ih (group d t) h l f =
      let g = group-goes x p k r.ground d t h (first k) refl in
      let e = group-goes x q k there d t h (first k) refl in
      ap is_some g.0 ∙ ih (first k) (let m = g.1.lower in omega (arith, m, l)) g.1.there ∙ sym (ap is_some e.0)
  by-tree n k ih (atomic t) h l f = absurd (let y : true ≡ false = f in cc)
  by-tree n k ih (ahead negated t) h l f =
      let g = ahead-goes x p k r.ground negated t h (first k) (empty k) refl refl in
      let e = ahead-goes x q k there negated t h (first k) (empty k) refl refl in
      let seen = ih (first k) (let m = g.1.lower in omega (arith, m, l)) g.1.there in
      ap is_some g.0
      ∙ some-if _ _ _ _ (ap (λ (z : Bool). if negated then not z else z) seen) (ih (empty k) (let m = g.2.lower in omega (arith, m, l)) g.2.there)
      ∙ sym (ap is_some e.0)
  by-tree n k ih (behind negated t) h l f =
      let g = behind-goes x p k r.ground negated t h (first k) (empty k) (row_flag x.sights.now (first k) p) refl refl refl in
      let e = behind-goes x q k there negated t h (first k) (empty k) (row_flag x.sights.now (first k) q) refl refl refl in
      ap is_some g.0
      ∙ some-if _ _ _ _ (ap (λ (z : Bool). if negated then not z else z) (a.sights (first k))) (ih (empty k) (let m = g.1.lower in omega (arith, m, l)) g.1.there)
      ∙ sym (ap is_some e.0)

  by-cell : (n k : ℕ) → ((j : ℕ) → height_of x j < n → IsIn x j → Same j) → height_of x k < suc n → IsIn x k → (d : Bool) → is_end (cell_at x.plan.now.cells k).item ≡ d → Same k
  by-cell n k ih h i true e =
      let c = r.ground.plan_is.planned.cells_are in
      ap is_some (ends-end x.text.now (trees_of x.program.now) x.plan.now.cells c k p e i)
      ∙ sym (ap is_some (ends-end x.text.now (trees_of x.program.now) x.plan.now.cells c k q e i))
  by-cell n k ih h i false e = by-tree n k ih (item_tree (trees_of x.program.now) (cell_at x.plan.now.cells k).item) (record { inside = i; real = e; tree = refl }) h (loose k i)

  leads-alike : (n k : ℕ) → height_of x k < n → IsIn x k → Same k
  leads-alike zero k h i = absurd (omega (arith, h))
  leads-alike (suc n) k h i = by-cell n k (leads-alike n) h i (is_end (cell_at x.plan.now.cells k).item) refl

  -- the row of the one place is the other's
  pub row-alike : (k : ℕ) → IsIn x k → get_or (get_or marks (length x.text.now - q) []) k false ≡ is_some (ends_at x k p)
  row-alike k i =
      let l = r.later in
      r.marks_are q k (let n = b.0 in omega (arith, l, later, n)) b i ∙ sym (leads-alike (suc (height_of x k)) k (omega arith) i)

no-zero : (n : ℕ) → 0 < n → (n == 0) ≡ false
no-zero n h = grind arith

no-same : (m n : ℕ) → m < n → (m == n) ≡ false
no-same m n h = grind arith

and-no : (b d : Bool) → d ≡ false → (b && d) ≡ false
and-no true d e = e
and-no false d e = refl

-- spots of which all that was compared is equal
module _ (x : Ground) (marks : List (List Bool)) (v w : Spot) (here : IsSpot x.text.now v.place v) (there : IsSpot x.text.now w.place w) (c : v.c ≡ w.c) where
  abbrev s : List ℕ
  s = x.text.now

  same-char : char_at s v.place ≡ char_at s w.place
  same-char = here.char ∙ ap (λ (d : ℕ). Some d) c ∙ sym there.char

  no-end : (v.place == length s) ≡ (w.place == length s)
  no-end = no-same v.place (length s) (let e = here.early in omega (arith, e)) ∙ sym (no-same w.place (length s) (let e = there.early in omega (arith, e)))

  stands-alike : v.at_edge ≡ w.at_edge → v.at_line ≡ w.at_line → (a : Anchor) → anchor_holds s a v.place ≡ anchor_holds s a w.place
  stands-alike e l Anchor.LineStart = sym here.line ∙ l ∙ there.line
  stands-alike e l Anchor.LineEnd = ap (λ (b : Bool). b || is_newline (char_at s v.place)) no-end ∙ ap (λ (o : Option ℕ). (w.place == length s) || is_newline o) same-char
  stands-alike e l Anchor.TextStart = no-zero v.place here.inner ∙ sym (no-zero w.place there.inner)
  stands-alike e l Anchor.TextEnd = no-end
  stands-alike e l Anchor.LastLineEnd =
      ap (λ (b : Bool). b || (is_newline (char_at s v.place) && v.place + 1 == length s)) no-end
      ∙ ap (λ (b : Bool). (w.place == length s) || b)
      (and-no (is_newline (char_at s v.place)) (v.place + 1 == length s) (no-same (v.place + 1) (length s) here.early)
      ∙ sym (and-no (is_newline (char_at s w.place)) (w.place + 1 == length s) (no-same (w.place + 1) (length s) there.early)))
  stands-alike e l Anchor.WordEdge = sym here.edge ∙ e ∙ there.edge
  stands-alike e l Anchor.NoWordEdge = ap not (sym here.edge ∙ e ∙ there.edge)

  pub alike : v.at_edge ≡ w.at_edge → v.at_line ≡ w.at_line → get_or marks v.row [] ≡ get_or marks w.row [] → SeesAlike x v.place w.place → AreAlike x marks v.place w.place
  alike e l r z = record {
    c = v.c;
    here = here.char;
    there = there.char ∙ ap (λ (d : ℕ). Some d) (sym c);
    here_on = here.on;
    there_on = subst (λ (d : ℕ). IsCharBoundary s (w.place + len_utf8 d)) (sym c) there.on;
    rows = ap (λ (i : ℕ). get_or marks i []) (sym here.row_is) ∙ r ∙ ap (λ (i : ℕ). get_or marks i []) (there.row_is ∙ ap (λ (d : ℕ). length s - (w.place + len_utf8 d)) (sym c));
    anchors = stands-alike e l;
    sights = z;
  }

-- flags of rows that are there, and of the others
flags-beyond : (sights : List (List Bool)) (i p q : ℕ) → (i < length sights → row_flag sights i p ≡ row_flag sights i q) → row_flag sights i p ≡ row_flag sights i q
flags-beyond [] i p q h = refl
flags-beyond (row ∷ rows) zero p q h = h (omega arith)
flags-beyond (row ∷ rows) (suc i) p q h = flags-beyond rows i p q (λ l. h (omega (arith, l)))

pub sees-alike : (x : Ground) (p q n : ℕ) → n ≡ length x.sights.now → ((i : ℕ) → i < n → row_flag x.sights.now i p ≡ row_flag x.sights.now i q) → SeesAlike x p q
sees-alike x p q n e h i = flags-beyond x.sights.now i p q (λ l. h i (omega (arith, e, l)))

-- one row more
pub more-flags : (x : Ground) (p q n : ℕ) → ((i : ℕ) → i < n → row_flag x.sights.now i p ≡ row_flag x.sights.now i q) → row_flag x.sights.now n p ≡ row_flag x.sights.now n q
    → (i : ℕ) → i < n + 1 → row_flag x.sights.now i p ≡ row_flag x.sights.now i q
more-flags x p q n h e i l = elim (cases_lt i n) [
  | inl a ↦ h i a
  | inr a ↦ let same : i ≡ n = omega (arith, a, l) in subst (λ (j : ℕ). row_flag x.sights.now j p ≡ row_flag x.sights.now j q) (sym same) e
]

pub more-loose : (x : Ground) (n : ℕ) → ((k : ℕ) → k < n → is_atomic (cell_tree (trees_of x.program.now) x.plan.now.cells k) ≡ false)
    → is_atomic (cell_tree (trees_of x.program.now) x.plan.now.cells n) ≡ false → (k : ℕ) → k < n + 1 → is_atomic (cell_tree (trees_of x.program.now) x.plan.now.cells k) ≡ false
more-loose x n h e k l = elim (cases_lt k n) [
  | inl a ↦ h k a
  | inr a ↦ let same : k ≡ n = omega (arith, a, l) in subst (λ (j : ℕ). is_atomic (cell_tree (trees_of x.program.now) x.plan.now.cells j) ≡ false) (sym same) e
]
