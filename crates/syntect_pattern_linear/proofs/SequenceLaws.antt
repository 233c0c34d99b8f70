-- Along the match, where one part follows another.
use Rattle.std.proofs.Common.{◌≡◌, ℕ, ◌<◌, List, Bool, true, false, Option, Some, refl, sym, ap, subst, ◌∙◌, arith, inl, inr}
use Rattle.std.specs.Prelude.{if◌then◌else◌, ◌==◌, is_some, IsUtf8, IsCharBoundary}
use Rattle.syntect_pattern_linear.specs.syntect_pattern.Trees.{Tree, seq}
use Rattle.syntect_pattern_linear.specs.syntect_pattern.Matches.{Groups, Member, matches}
use Rattle.syntect_pattern_linear.specs.syntect_pattern_table.Program.{trees_of}
use Rattle.syntect_pattern_plan.specs.Onward.{Onward, chosen, moved, reads, is_free}
use Rattle.syntect_pattern_plan.specs.Cells.{cell_at, parts_at, item_tree, is_end}
use Rattle.syntect_pattern_linear.specs.Ground.{IsGround, IsIn, ends_at}
use Rattle.syntect_pattern_linear.specs.Step.{IsTreeAt}
use Rattle.syntect_pattern_linear.specs.Walk.{Walks}
use Rattle.syntect_pattern_linear.specs.declared.ground.Ground.{Ground}
use Rattle.syntect_pattern_plan.specs.declared.cells.Cell.{Cell}
use Rattle.syntect_pattern_plan.specs.Plan.{IsPart, IsSequence}
use Rattle.syntect_pattern_plan.proofs.TreeLaws.{behind-matches, and_right}
use Rattle.syntect_pattern_plan.proofs.CellLaws.{either-bool}
use Rattle.syntect_pattern_plan.proofs.OnwardLaws.{moved-at, moved-past, following, at-or-past, same-place, other-place}
use Rattle.syntect_pattern_linear.proofs.ChosenLaws.{chosen-reads, chosen-forward, chosen-seq, chosen-past_place}
use Rattle.syntect_pattern_linear.proofs.StepLaws.{IsAt, free, step, following-is, at-seq}
use Rattle.syntect_pattern_linear.proofs.GroundLaws.{tree-on}
use Rattle.syntect_pattern_linear.proofs.WalkLaws.{size_of, ground-on, CanWalk, can-walk, size-is, part-chosen, ends-forward, walks-by}
use Rattle.syntect_pattern_plan.proofs.ChosenLaws.{chosen-each, chosen-leads}

-- A cell that goes on at a later place.
pub record GoesTo (x : Ground) (k place : ℕ) (g : Groups) (b : Tree) (m mid : ℕ) (h : Groups) : Type 0 where
  pub filled : IsGround x mid
  pub is_tree : item_tree (trees_of x.program.now) (cell_at x.plan.now.cells m).item ≡ b
  pub inside : IsIn x m
  pub real : is_end (cell_at x.plan.now.cells m).item ≡ false
  pub found : is_some (ends_at x m mid) ≡ true
  pub smaller : size_of x m < size_of x k
  pub same : (end : ℕ) (l : Groups) → Walks x m mid h end l → Walks x k place g end l

module _ (x : Ground) (k place : ℕ) (g : Groups) (filled : IsGround x place) (a b : Tree) (here : IsTreeAt x k (seq a b)) where
  abbrev ts : List Tree
  ts = trees_of x.program.now

  abbrev cells : List Cell
  cells = x.plan.now.cells

  abbrev E : ℕ → Onward
  E n = ends_at x n

  abbrev f : ℕ
  f = (cell_at cells k).empty

  abbrev n : ℕ
  n = (cell_at cells k).next

  abbrev first : ℕ
  first = (parts_at x.plan.now.parts k).first

  y : IsAt x.text.now (trees_of x.program.now) x.plan.now.cells x.plan.now.parts x.plan.now.behinds k (seq a b)
  y = tree-on x place k (seq a b) filled here

  st : IsSequence ts cells f n first a b
  st = step x.text.now ts cells x.plan.now.parts x.plan.now.behinds k (seq a b) y

  fb : is_free b ≡ true
  fb = and_right (is_free a) (is_free b) (free x.text.now ts cells x.plan.now.parts x.plan.now.behinds k (seq a b) y)

  u : IsUtf8 x.text.now
  u = filled.utf8

  pub seq-first : is_some (ends_at x k place) ≡ true → CanWalk x k place g filled first
  seq-first found =
      can-walk x k place g filled first a st.at st.behind_it st.first_is
      (ap is_some (sym (at-seq x.text.now ts cells x.plan.now.parts x.plan.now.behinds k place filled.boundary a b y).0) ∙ found)
      (let z = size-is x k place g filled (seq a b) here in omega arith)

  following-next : (j : ℕ) → IsCharBoundary x.text.now j → following x.text.now u b (E n) (E n) j ≡ E st.behind_it j
  following-next j d = following-is x.text.now ts cells x.plan.now.parts x.plan.now.behinds k (seq a b) y st.behind_it b n n j d st.second_is

  -- the first part is chosen by what follows it
  followed : (m : Member) → chosen (moved place (E st.at) (E st.behind_it)) (matches x.text.now a place g) ≡ Some m
      → chosen (moved place (following x.text.now u b (E f) (E n)) (following x.text.now u b (E n) (E n))) (matches x.text.now a place g) ≡ Some m
  followed m q =
      elim (either-bool (reads a)) [
        | inl r ↦
            chosen-reads x.text.now u a (following x.text.now u b (E f) (E n)) (E st.at) (following x.text.now u b (E n) (E n)) place g r filled.boundary
            ∙ chosen-forward x.text.now u a (moved place (E st.at) (following x.text.now u b (E n) (E n))) (moved place (E st.at) (E st.behind_it)) place g filled.boundary
            (λ j l d. ap (λ (o : Option ℕ). if j == place then E st.at j else o) (following-next j d))
            ∙ q
        | inr r ↦
            chosen-forward x.text.now u a (moved place (following x.text.now u b (E f) (E n)) (following x.text.now u b (E n) (E n))) (moved place (E st.at) (E st.behind_it)) place g filled.boundary
            (λ j l d.
            ap (λ (o : Option ℕ). if j == place then o else following x.text.now u b (E n) (E n) j)
            (following-is x.text.now ts cells x.plan.now.parts x.plan.now.behinds k (seq a b) y st.at b f n j d (st.again_is r))
            ∙ ap (λ (o : Option ℕ). if j == place then E st.at j else o) (following-next j d))
            ∙ q
      ]

  second-walks : (m mid : ℕ) (h : Groups) (e : ℕ) → IsGround x mid → IsPart ts cells m b e n → is_some (ends_at x m mid) ≡ true
      → chosen (moved place (E f) (E n)) (matches x.text.now (seq a b) place g) ≡ chosen (moved mid (E e) (E n)) (matches x.text.now b mid h)
      → GoesTo x k place g b m mid h
  second-walks m mid h e fill p found alike =
      let c = can-walk x k mid h fill m b e n p found (let z = size-is x k place g filled (seq a b) here in omega arith) in
      record {
        filled = fill;
        is_tree = ap (item_tree ts) p.cell.item_is ∙ p.tree;
        inside = c.inside;
        real = c.real;
        found = found;
        smaller = c.smaller;
        same = λ end l w. walks-by x k place g filled (seq a b) here end l (alike ∙ part-chosen x k mid h fill m b e n end l p w);
      }

  pub seq-second : (m mid : ℕ) (h : Groups) → Walks x first place g mid h → m ≡ (if mid == place then (cell_at cells first).empty else (cell_at cells first).next)
      → GoesTo x k place g b m mid h
  seq-second m mid h w q =
      let c = part-chosen x k place g filled first a st.at st.behind_it mid h st.first_is w in
      let on = ends-forward x k place g filled a (moved place (E st.at) (E st.behind_it)) (mid, h) c in
      let leads_on : is_some (moved place (E st.at) (E st.behind_it) mid) ≡ true = chosen-leads (moved place (E st.at) (E st.behind_it)) (matches x.text.now a place g) (mid, h) c in
      let all = chosen-seq x.text.now u a b fb (E f) (E n) place g (mid, h) filled.boundary (followed (mid, h) c) in
      let fill = ground-on x place mid filled on.1 in
      elim (at-or-past place mid on.0) [
        | inl z ↦
            let stays : reads a ≡ false = elim (either-bool (reads a)) [
              | inl r ↦ absurd (let l = chosen-each (λ v. place < v.0) _ (matches x.text.now a place g) (mid, h) (behind-matches x.text.now u a r place g filled.boundary) c in omega arith)
              | inr r ↦ r
            ] in
            let is : m ≡ st.at =
            q ∙ ap (λ (c : Bool). if c then (cell_at cells first).empty else (cell_at cells first).next) (let t : (mid == place) ≡ true = rw (z, same-place place) refl in t)
            ∙ st.first_is.cell.empty_is (ap reads st.first_is.tree ∙ stays) in
            let some : is_some (ends_at x st.at mid) ≡ true =
            ap (λ (j : ℕ). is_some (ends_at x st.at j)) z ∙ sym (ap is_some (moved-at place (E st.at) (E st.behind_it))) ∙ sym (ap (λ (j : ℕ). is_some (moved place (E st.at) (E st.behind_it) j)) z) ∙ leads_on in
            let P : ℕ → Type 0 = λ j. GoesTo x k place g b j mid h in
            subst P (sym is)
            (second-walks st.at mid h f fill (st.again_is stays) some
            (all ∙ ap (λ (j : ℕ). chosen (moved j (E f) (E n)) (matches x.text.now b mid h)) (sym z)))
        | inr l ↦
            let is : m ≡ st.behind_it =
            q ∙ ap (λ (c : Bool). if c then (cell_at cells first).empty else (cell_at cells first).next) (other-place place mid l) ∙ st.first_is.cell.next_is in
            let some : is_some (ends_at x st.behind_it mid) ≡ true = sym (ap is_some (moved-past place mid (E st.at) (E st.behind_it) l)) ∙ leads_on in
            let P : ℕ → Type 0 = λ j. GoesTo x k place g b j mid h in
            subst P (sym is)
            (second-walks st.behind_it mid h n fill st.second_is some
            (all ∙ chosen-past_place x.text.now u b (E f) (E n) place mid h l on.1))
      ]
