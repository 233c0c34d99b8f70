-- Along the match, turn by turn.
use Rattle.std.proofs.Common.{◌≡◌, ℕ, zero, suc, ◌+◌, ◌*◌, ◌-◌, ◌<◌, ◌≤◌, List, length, Bool, true, false, Option, Some, None, refl, sym, ap, subst, ◌∙◌, arith, inl, inr, ◌⊎◌}
use Rattle.std.specs.Prelude.{if◌then◌else◌, ◌==◌, not, is_some, option_map, IsUtf8}
use Rattle.syntect_pattern_linear.specs.syntect_pattern.Trees.{Tree, repeat}
use Rattle.syntect_pattern_linear.specs.syntect_pattern.Matches.{Groups, Member, after_turn, turns, matches}
use Rattle.syntect_pattern_linear.specs.syntect_pattern_table.Program.{trees_of}
use Rattle.syntect_pattern_plan.specs.Onward.{Onward, chosen, moved, onward, is_free, end_if, has_turn, turn_end, prefer_end}
use Rattle.syntect_pattern_plan.specs.Cells.{cell_at, parts_at, item_tree, is_end, tree_size}
use Rattle.syntect_pattern_linear.specs.Ground.{IsGround, ends_at}
use Rattle.syntect_pattern_linear.specs.Step.{IsTreeAt}
use Rattle.syntect_pattern_linear.specs.Walk.{Walks}
use Rattle.syntect_pattern_linear.specs.declared.ground.Ground.{Ground}
use Rattle.syntect_pattern_plan.specs.declared.cells.Cell.{Cell}
use Rattle.syntect_pattern_plan.specs.Plan.{IsTurn, TurnIs}
use Rattle.syntect_pattern_plan.proofs.OnwardLaws.{moved-past}
use Rattle.syntect_pattern_linear.proofs.ChosenLaws.{chosen-forward, chosen-turn, chosen-empty, chosen-more, chosen-leave, turned}
use Rattle.syntect_pattern_linear.proofs.StepLaws.{IsAt, free, step, following-is, at-repeat, turn-ends}
use Rattle.syntect_pattern_linear.proofs.GroundLaws.{tree-on, turn-if}
use Rattle.syntect_pattern_linear.proofs.WalkLaws.{look_left, size_of, ground-on, CanWalk, can-walk, size-is, part-chosen, ends-forward, walks-by}
use Rattle.syntect_pattern_plan.proofs.ChosenLaws.{chosen-leads, if-some}
use Rattle.syntect_pattern_linear.specs.Steps.{look_cost}
use Rattle.syntect_pattern_linear.proofs.CostLaws.{looks-left, loop-looks}

module _ (x : Ground) (k place : ℕ) (g : Groups) (filled : IsGround x place) (greedy : Bool) (least : ℕ) (most : Option ℕ) (a : Tree) (here : IsTreeAt x k (repeat greedy least most a)) where
  abbrev ts : List Tree
  ts = trees_of x.program.now

  abbrev cells : List Cell
  cells = x.plan.now.cells

  abbrev E : ℕ → Onward
  E n = ends_at x n

  abbrev f : ℕ
  f = (cell_at cells k).empty

  abbrev n : ℕ
  n = (cell_at cells k).next

  abbrev first : ℕ
  first = (parts_at x.plan.now.parts k).first

  abbrev t : Tree
  t = repeat greedy least most a

  abbrev less : Option ℕ
  less = option_map (λ j. j - 1) most

  y : IsAt x.text.now (trees_of x.program.now) x.plan.now.cells x.plan.now.parts x.plan.now.behinds k (repeat greedy least most a)
  y = tree-on x place k (repeat greedy least most a) filled here

  fr : is_free (repeat greedy least most a) ≡ true
  fr = free x.text.now ts cells x.plan.now.parts x.plan.now.behinds k (repeat greedy least most a) y

  u : IsUtf8 x.text.now
  u = filled.utf8

  abbrev turn_found : Option ℕ
  turn_found = end_if (has_turn most) (ends_at x (parts_at x.plan.now.parts k).first place)

  abbrev leave_found : Option ℕ
  leave_found = end_if (least == 0) (ends_at x (cell_at x.plan.now.cells k).empty place)

  -- the loop takes a turn there
  abbrev pub takes : Bool
  takes = if greedy then is_some (end_if (has_turn most) (ends_at x (parts_at x.plan.now.parts k).first place))
      else not (is_some (end_if (least == 0) (ends_at x (cell_at x.plan.now.cells k).empty place)))

  ends-is : ends_at x k place ≡ prefer_end greedy turn_found leave_found
  ends-is =
      (at-repeat x.text.now ts cells x.plan.now.parts x.plan.now.behinds k place filled.boundary greedy least most a y).0
      ∙ ap (λ (o : Option ℕ). prefer_end greedy o leave_found) (turn-if x place k filled most (ends_at x first place))

  choice : (b : Bool) (o p : Option ℕ) → is_some (prefer_end b o p) ≡ true → (if b then is_some o else not (is_some p)) ≡ true → (is_some o ≡ true) × ((b ≡ true) ⊎ (is_some p ≡ false))
  choice true o p e q = (q, inl refl)
  choice false o None e q = (e, inr refl)
  choice false o (Some v) e q = absurd (let z : false ≡ true = q in cc)

  other-choice : (b : Bool) (o p : Option ℕ) → is_some (prefer_end b o p) ≡ true → (if b then is_some o else not (is_some p)) ≡ false → (is_some p ≡ true) × ((b ≡ false) ⊎ (is_some o ≡ false))
  other-choice true None p e q = (e, inr refl)
  other-choice true (Some v) p e q = absurd (let z : true ≡ false = q in cc)
  other-choice false o (Some v) e q = (refl, inl refl)
  other-choice false o None e q = absurd (let z : true ≡ false = q in cc)

  turn_step : (m : Option ℕ) → has_turn m ≡ true → TurnIs m (IsTurn ts cells f n first greedy least most a) → IsTurn ts cells f n first greedy least most a
  turn_step None e h = h
  turn_step (Some zero) e h = absurd cc
  turn_step (Some (suc j)) e h = h

  -- what the search finds of a turn
  turn-is-some : is_some turn_found ≡ true → is_some (turn_end most (onward x.text.now a (turned x.text.now u greedy least most a fr (E f) (E n) place g filled.boundary) place)) ≡ true
  turn-is-some e =
      ap is_some
      (turn-ends x.text.now ts cells x.plan.now.parts x.plan.now.behinds k place filled.boundary greedy least most a y most (step x.text.now ts cells x.plan.now.parts x.plan.now.behinds k (repeat greedy least most a) y)
      ∙ turn-if x place k filled most (ends_at x first place))
      ∙ e

  turn-is-none : is_some turn_found ≡ false → is_some (turn_end most (onward x.text.now a (turned x.text.now u greedy least most a fr (E f) (E n) place g filled.boundary) place)) ≡ false
  turn-is-none e =
      ap is_some
      (turn-ends x.text.now ts cells x.plan.now.parts x.plan.now.behinds k place filled.boundary greedy least most a y most (step x.text.now ts cells x.plan.now.parts x.plan.now.behinds k (repeat greedy least most a) y)
      ∙ turn-if x place k filled most (ends_at x first place))
      ∙ e

  pub turn-leaves : is_some (ends_at x k place) ≡ true → takes ≡ false → Walks x k place g place g
  turn-leaves found e =
      let c = other-choice greedy turn_found leave_found (ap is_some (sym ends-is) ∙ found) e in
      walks-by x k place g filled (repeat greedy least most a) here place g
      (chosen-leave x.text.now u greedy least most a fr (E f) (E n) place g filled.boundary c.0
      (elim c.1 [ inl z ↦ inl z | inr z ↦ inr (turn-is-none z) ]))

  is-turn : takes ≡ true → is_some (ends_at x k place) ≡ true → IsTurn ts cells f n first greedy least most a
  is-turn e found =
      let c = choice greedy turn_found leave_found (ap is_some (sym ends-is) ∙ found) e in
      turn_step most (if-some (has_turn most) (ends_at x first place) c.0).0 (step x.text.now ts cells x.plan.now.parts x.plan.now.behinds k (repeat greedy least most a) y)

  pub turn-first : is_some (ends_at x k place) ≡ true → takes ≡ true → CanWalk x k place g filled first
  turn-first found e =
      let c = choice greedy turn_found leave_found (ap is_some (sym ends-is) ∙ found) e in
      let h = is-turn e found in
      can-walk x k place g filled first a f h.more h.first_is (if-some (has_turn most) (ends_at x first place) c.0).1
      (let z = size-is x k place g filled (repeat greedy least most a) here in omega arith)

  pub turn-tree : is_some (ends_at x k place) ≡ true → takes ≡ true → item_tree ts (cell_at cells first).item ≡ a
  turn-tree found e = let h = is-turn e found in ap (item_tree ts) h.first_is.cell.item_is ∙ h.first_is.tree

  -- what lookaheads take in the turn, and may take in later ones, was left for them
  pub turn-looks : is_some (ends_at x k place) ≡ true → takes ≡ true → (size : ℕ)
      → look_cost a * size + look_left (option_map (λ j. j - 1) most) (look_cost a * size) ≤ look_left most (look_cost a * size)
  turn-looks found e size =
      let c = choice greedy turn_found leave_found (ap is_some (sym ends-is) ∙ found) e in
      let has : has_turn most ≡ true = (if-some (has_turn most) (ends_at x first place) c.0).0 in
      looks-left most (look_cost a) size has (loop-looks x k place filled greedy least most a here)

  turn-chosen : (found : is_some (ends_at x k place) ≡ true) (e : takes ≡ true) (m : Member) → Walks x first place g m.0 m.1
      → chosen (turned x.text.now u greedy least most a fr (E f) (E n) place g filled.boundary) (matches x.text.now a place g) ≡ Some m
  turn-chosen found e m w =
      let h = is-turn e found in
      chosen-forward x.text.now u a (turned x.text.now u greedy least most a fr (E f) (E n) place g filled.boundary) (moved place (E f) (E h.more)) place g filled.boundary
      (λ j l d. ap (λ (o : Option ℕ). if j == place then E f j else o)
      (following-is x.text.now ts cells x.plan.now.parts x.plan.now.behinds k (repeat greedy least most a) y h.more (repeat greedy (least - 1) (option_map (λ j. j - 1) most) a) n n j d h.more_is))
      ∙ part-chosen x k place g filled first a f h.more m.0 m.1 h.first_is w

  turn-all : (found : is_some (ends_at x k place) ≡ true) (e : takes ≡ true) (m : Member) → Walks x first place g m.0 m.1
      → chosen (moved place (E f) (E n)) (matches x.text.now (repeat greedy least most a) place g)
      ≡ chosen (moved place (E f) (E n)) (after_turn (m.0 == place) (turns (matches x.text.now a) greedy (length x.text.now - place) (least - 1) (option_map (λ j. j - 1) most)) m.0 m.1)
  turn-all found e m w =
      let c = choice greedy turn_found leave_found (ap is_some (sym ends-is) ∙ found) e in
      chosen-turn x.text.now u greedy least most a fr (E f) (E n) place g filled.boundary m (turn-is-some c.0) c.1 (turn-chosen found e m w)

  pub turn-stays : is_some (ends_at x k place) ≡ true → takes ≡ true → (end : ℕ) (h : Groups) → Walks x first place g end h → end ≡ place → Walks x k place g end h
  turn-stays found e end h w z =
      walks-by x k place g filled (repeat greedy least most a) here end h
      (turn-all found e (end, h) w
      ∙ chosen-empty x.text.now u greedy least most a fr (E f) (E n) place g filled.boundary (end, h) z (turn-chosen found e (end, h) w))

  -- the loop goes on after a turn
  pub record TurnsTo (m end : ℕ) (h : Groups) : Type 0 where
    pub filled_there : IsGround x end
    pub later : place < end
    pub is_loop : IsTreeAt x m (repeat greedy (least - 1) (option_map (λ j. j - 1) most) a)
    pub found : is_some (ends_at x m end) ≡ true
    pub size : size_of x m ≡ size_of x k
    pub same : (e : ℕ) (l : Groups) → Walks x m end h e l → Walks x k place g e l

  pub turn-goes : (found : is_some (ends_at x k place) ≡ true) (e : takes ≡ true) (end : ℕ) (h : Groups) → Walks x first place g end h → (end ≡ place → ⊥)
      → (m : ℕ) → m ≡ (cell_at cells first).next → TurnsTo m end h
  turn-goes found e end h w ne m q =
      let st = is-turn e found in
      let rest : Tree = repeat greedy (least - 1) (option_map (λ j. j - 1) most) a in
      let c = part-chosen x k place g filled first a f st.more end h st.first_is w in
      let on = ends-forward x k place g filled a (moved place (E f) (E st.more)) (end, h) c in
      let past : place < end = let l = on.0 in omega (arith, ne) in
      let fill = ground-on x place end filled on.1 in
      let is : m ≡ st.more = q ∙ st.first_is.cell.next_is in
      let some : is_some (ends_at x st.more end) ≡ true =
      sym (ap is_some (moved-past place end (E f) (E st.more) past)) ∙ chosen-leads (moved place (E f) (E st.more)) (matches x.text.now a place g) (end, h) c in
      let tree : item_tree ts (cell_at cells st.more).item ≡ rest = ap (item_tree ts) st.more_is.cell.item_is ∙ st.more_is.tree in
      let P : ℕ → Type 0 = λ j. TurnsTo j end h in
      subst P (sym is) (record {
        filled_there = fill;
        later = past;
        is_loop = record { inside = st.more_is.cell.inside; real = ap is_end st.more_is.cell.item_is ∙ st.more_is.real; tree = tree };
        found = some;
        size = ap tree_size tree ∙ sym (size-is x k place g filled (repeat greedy least most a) here);
        same = λ v l w2. walks-by x k place g filled (repeat greedy least most a) here v l
            (turn-all found e (end, h) w
            ∙ chosen-more x.text.now u greedy least most a fr (E f) (E n) place g filled.boundary (end, h) past on.1
            ∙ part-chosen x k end h fill st.more rest n n v l st.more_is w2);
      })
