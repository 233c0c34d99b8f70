use Rattle.std.proofs.Common.{◌≡◌, suc, ◌≤◌, ◌+◌, ◌*◌, ℕ, ◌-◌, Bool, true, false, refl, sym, ap, subst, ◌∙◌, arith, get_or, inl, inr, length}
use Rattle.std.specs.Prelude.{if◌then◌else◌, ◌||◌, is_some, Option, option_map}
use Rattle.syntect_pattern_linear.specs.syntect_pattern.Sets.{range}
use Rattle.syntect_pattern_linear.specs.syntect_pattern.Trees.{Tree, nothing, seq, alt, ahead}
use Rattle.syntect_pattern_linear.specs.syntect_pattern.Matches.{Groups}
use Rattle.syntect_pattern_linear.specs.syntect_pattern_table.Program.{trees_of}
use Rattle.syntect_pattern_linear.specs.syntect_pattern_table.Table.{node_tree, set_of}
use Rattle.syntect_pattern_plan.specs.Onward.{is_bare}
use Rattle.syntect_pattern_plan.specs.Cells.{cell_at, parts_at, item_tree}
use Rattle.syntect_pattern_plan.specs.Facts.{facts_at}
use Rattle.syntect_pattern_linear.specs.Ground.{ends_at}
use Rattle.syntect_pattern_linear.specs.Step.{IsTreeAt}
use Rattle.syntect_pattern_linear.specs.Walk.{Walks}
use Rattle.std.proofs.lemmas.Result.{IfOk-weaker}
use Rattle.syntect_pattern_plan.proofs.BuildLaws.{ok-both}
use Rattle.syntect_pattern_linear.proofs.syntect_count_proofs.MeterLaws.{advances-none, advances-on}
use Rattle.syntect_pattern_plan.specs.declared.facts.Facts.{Facts}
use Rattle.syntect_pattern_linear.proofs.GroundLaws.{first-is, second-is, tree-more, item-is}
use Rattle.syntect_pattern_linear.proofs.WalkLaws.{walks-nothing, walks-anchor, walks-behind, walks-bare_ahead, walks-char, alt-first, alt-second, group-walks, atomic-walks, ahead-walks, CanWalk, look_left, filled-on, follow, loop-is}
use Rattle.syntect_pattern_linear.proofs.SequenceLaws.{seq-first, seq-second}
use Rattle.syntect_pattern_linear.proofs.LoopLaws.{turn-leaves, turn-first, turn-stays, turn-goes, turn-tree, turn-looks}
use Rattle.syntect_pattern_linear.specs.Steps.{stay_cost, read_cost, walk_cost, look_cost}
use Rattle.syntect_pattern_linear.proofs.CostLaws.{walks-on, costs-is, costs-of, seq-cost, left-cost, right-cost, look-costs, turn-cost, last-cost, no-turn, seq-tree, alt-trees, ahead-tree}
use Rattle.syntect_pattern_linear.proofs.walk.+walk.Goals as goal

pub walk_node-returns-in-Nothing-clause-walks : goal.walk_node-returns-in-Nothing-clause-walks
walk_node-returns-in-Nothing-clause-walks t c =
    let x = c.args.ground.now in
    let ts = trees_of x.program.now in
    let g = c.args.groups.now.items in
    let first = first-is _ _ c.parts_at-parts.result c.args.cell c.parts_at-parts.ensures c.as_slice.ensures in
    let second = second-is _ _ c.parts_at-parts.result c.args.cell c.parts_at-parts.ensures c.as_slice.ensures in
    walks-nothing x c.args.cell c.args.place g c.requires.filled.ground (tree-more x c.args.cell _ _ (ap (node_tree ts) c.in-Nothing.is) c.requires.node) c.requires.found

pub walk_node-returns-in-Anchor-clause-walks : goal.walk_node-returns-in-Anchor-clause-walks
walk_node-returns-in-Anchor-clause-walks t c =
    let x = c.args.ground.now in
    let ts = trees_of x.program.now in
    let g = c.args.groups.now.items in
    let first = first-is _ _ c.parts_at-parts.result c.args.cell c.parts_at-parts.ensures c.as_slice.ensures in
    let second = second-is _ _ c.parts_at-parts.result c.args.cell c.parts_at-parts.ensures c.as_slice.ensures in
    walks-anchor x c.args.cell c.args.place g c.requires.filled.ground c.in-Anchor.field-0 (tree-more x c.args.cell _ _ (ap (node_tree ts) c.in-Anchor.is) c.requires.node) c.requires.found

pub walk_node-returns-in-Behind-clause-walks : goal.walk_node-returns-in-Behind-clause-walks
walk_node-returns-in-Behind-clause-walks t c =
    let x = c.args.ground.now in
    let ts = trees_of x.program.now in
    let g = c.args.groups.now.items in
    let first = first-is _ _ c.parts_at-parts.result c.args.cell c.parts_at-parts.ensures c.as_slice.ensures in
    let second = second-is _ _ c.parts_at-parts.result c.args.cell c.parts_at-parts.ensures c.as_slice.ensures in
    walks-behind x c.args.cell c.args.place g c.requires.filled.ground c.in-Behind.negated (get_or ts c.in-Behind.body nothing) (tree-more x c.args.cell _ _ (ap (node_tree ts) c.in-Behind.is) c.requires.node) c.requires.found

pub walk_node-returns-in-Char-clause-walks : goal.walk_node-returns-in-Char-clause-walks
walk_node-returns-in-Char-clause-walks t c =
    let x = c.args.ground.now in
    let ts = trees_of x.program.now in
    let g = c.args.groups.now.items in
    let first = first-is _ _ c.parts_at-parts.result c.args.cell c.parts_at-parts.ensures c.as_slice.ensures in
    let second = second-is _ _ c.parts_at-parts.result c.args.cell c.parts_at-parts.ensures c.as_slice.ensures in
    let w = walks-char x c.args.cell c.args.place g c.requires.filled.ground (range c.in-Char.wanted c.in-Char.wanted) (tree-more x c.args.cell _ _ (ap (node_tree ts) c.in-Char.is) c.requires.node) c.requires.found c.past_char.result c.past_char.ensures.value in
    subst (λ (e : ℕ). Walks x c.args.cell c.args.place g e g) (sym c.unwrap_or.ensures) w

pub walk_node-returns-in-Class-clause-walks : goal.walk_node-returns-in-Class-clause-walks
walk_node-returns-in-Class-clause-walks t c =
    let x = c.args.ground.now in
    let ts = trees_of x.program.now in
    let g = c.args.groups.now.items in
    let first = first-is _ _ c.parts_at-parts.result c.args.cell c.parts_at-parts.ensures c.as_slice.ensures in
    let second = second-is _ _ c.parts_at-parts.result c.args.cell c.parts_at-parts.ensures c.as_slice.ensures in
    let w = walks-char x c.args.cell c.args.place g c.requires.filled.ground (set_of c.in-Class.class) (tree-more x c.args.cell _ _ (ap (node_tree ts) c.in-Class.is) c.requires.node) c.requires.found c.past_class.result c.past_class.ensures.value in
    subst (λ (e : ℕ). Walks x c.args.cell c.args.place g e g) (sym c.unwrap_or-in-Class.ensures) w

pub walk_node-returns-then-leads-clause-walks : goal.walk_node-returns-then-leads-clause-walks
walk_node-returns-then-leads-clause-walks t c =
    let x = c.args.ground.now in
    let ts = trees_of x.program.now in
    let g = c.args.groups.now.items in
    let first = first-is _ _ c.parts_at-parts.result c.args.cell c.parts_at-parts.ensures c.as_slice.ensures in
    let second = second-is _ _ c.parts_at-parts.result c.args.cell c.parts_at-parts.ensures c.as_slice.ensures in
    let a = alt-first x c.args.cell c.args.place g c.requires.filled.ground (get_or ts c.in-Alternation.field-0 nothing) (get_or ts c.in-Alternation.field-1 nothing) (tree-more x c.args.cell _ _ (ap (node_tree ts) c.in-Alternation.is) c.requires.node) (sym (c.leads.ensures ∙ ap (λ (j : ℕ). is_some (ends_at x j c.args.place)) first) ∙ c.if-leads.true) in
    IfOk-weaker c.walk-then-leads.result _ _
    (λ end w. a.1 end c.walk-then-leads.new.groups.items (subst (λ (j : ℕ). Walks x j c.args.place g end c.walk-then-leads.new.groups.items) first w))
    c.walk-then-leads.ensures.walks

pub walk_node-walk-requires-in-Alternation : goal.walk_node-walk-requires-in-Alternation
walk_node-walk-requires-in-Alternation t c =
    let x = c.args.ground.now in
    let ts = trees_of x.program.now in
    let g = c.args.groups.now.items in
    let first = first-is _ _ c.parts_at-parts.result c.args.cell c.parts_at-parts.ensures c.as_slice.ensures in
    let second = second-is _ _ c.parts_at-parts.result c.args.cell c.parts_at-parts.ensures c.as_slice.ensures in
    let a = alt-second x c.args.cell c.args.place g c.requires.filled.ground (get_or ts c.in-Alternation.field-0 nothing) (get_or ts c.in-Alternation.field-1 nothing) (tree-more x c.args.cell _ _ (ap (node_tree ts) c.in-Alternation.is) c.requires.node) c.requires.found (sym (c.leads.ensures ∙ ap (λ (j : ℕ). is_some (ends_at x j c.args.place)) first) ∙ c.if-leads.false) in
    let w : CanWalk x c.args.cell c.args.place g c.requires.filled.ground c.parts_at-parts.result.second = subst (λ (j : ℕ). CanWalk x c.args.cell c.args.place g c.requires.filled.ground j) (sym second) a.0 in
    (omega (arith, c.decreases, w.smaller), (c.requires.filled, (w.inside, (w.real, w.found))))

pub walk_node-returns-else-leads-clause-walks : goal.walk_node-returns-else-leads-clause-walks
walk_node-returns-else-leads-clause-walks t c =
    let x = c.args.ground.now in
    let ts = trees_of x.program.now in
    let g = c.args.groups.now.items in
    let first = first-is _ _ c.parts_at-parts.result c.args.cell c.parts_at-parts.ensures c.as_slice.ensures in
    let second = second-is _ _ c.parts_at-parts.result c.args.cell c.parts_at-parts.ensures c.as_slice.ensures in
    let a = alt-second x c.args.cell c.args.place g c.requires.filled.ground (get_or ts c.in-Alternation.field-0 nothing) (get_or ts c.in-Alternation.field-1 nothing) (tree-more x c.args.cell _ _ (ap (node_tree ts) c.in-Alternation.is) c.requires.node) c.requires.found (sym (c.leads.ensures ∙ ap (λ (j : ℕ). is_some (ends_at x j c.args.place)) first) ∙ c.if-leads.false) in
    IfOk-weaker c.walk-in-Alternation.result _ _
    (λ end w. a.1 end c.walk-in-Alternation.new.groups.items (subst (λ (j : ℕ). Walks x j c.args.place g end c.walk-in-Alternation.new.groups.items) second w))
    c.walk-in-Alternation.ensures.walks

pub walk_node-walk-requires-in-Group : goal.walk_node-walk-requires-in-Group
walk_node-walk-requires-in-Group t c =
    let x = c.args.ground.now in
    let ts = trees_of x.program.now in
    let g = c.args.groups.now.items in
    let first = first-is _ _ c.parts_at-parts.result c.args.cell c.parts_at-parts.ensures c.as_slice.ensures in
    let second = second-is _ _ c.parts_at-parts.result c.args.cell c.parts_at-parts.ensures c.as_slice.ensures in
    let a = group-walks x c.args.cell c.args.place g c.requires.filled.ground c.in-Group.number (get_or ts c.in-Group.body nothing) (tree-more x c.args.cell _ _ (ap (node_tree ts) c.in-Group.is) c.requires.node) c.requires.found in
    let w : CanWalk x c.args.cell c.args.place g c.requires.filled.ground c.parts_at-parts.result.first = subst (λ (j : ℕ). CanWalk x c.args.cell c.args.place g c.requires.filled.ground j) (sym first) a.0 in
    (omega (arith, c.decreases, w.smaller), (c.requires.filled, (w.inside, (w.real, w.found))))

pub walk_node-returns-in_ok-end-in-Group-clause-walks : goal.walk_node-returns-in_ok-end-in-Group-clause-walks
walk_node-returns-in_ok-end-in-Group-clause-walks t c =
    let x = c.args.ground.now in
    let ts = trees_of x.program.now in
    let g = c.args.groups.now.items in
    let first = first-is _ _ c.parts_at-parts.result c.args.cell c.parts_at-parts.ensures c.as_slice.ensures in
    let second = second-is _ _ c.parts_at-parts.result c.args.cell c.parts_at-parts.ensures c.as_slice.ensures in
    let a = group-walks x c.args.cell c.args.place g c.requires.filled.ground c.in-Group.number (get_or ts c.in-Group.body nothing) (tree-more x c.args.cell _ _ (ap (node_tree ts) c.in-Group.is) c.requires.node) c.requires.found in
    subst (λ (h : Groups). Walks x c.args.cell c.args.place g c.in_ok-end-in-Group.end h) (sym c.close.ensures)
    (a.1 c.in_ok-end-in-Group.end c.walk-in-Group.new.groups.items (subst (λ (j : ℕ). Walks x j c.args.place g c.in_ok-end-in-Group.end c.walk-in-Group.new.groups.items) first c.in_ok-end-in-Group.ensures.walks))

pub walk_node-walk-requires-in-Atomic : goal.walk_node-walk-requires-in-Atomic
walk_node-walk-requires-in-Atomic t c =
    let x = c.args.ground.now in
    let ts = trees_of x.program.now in
    let g = c.args.groups.now.items in
    let first = first-is _ _ c.parts_at-parts.result c.args.cell c.parts_at-parts.ensures c.as_slice.ensures in
    let second = second-is _ _ c.parts_at-parts.result c.args.cell c.parts_at-parts.ensures c.as_slice.ensures in
    let a = atomic-walks x c.args.cell c.args.place g c.requires.filled.ground (get_or ts c.in-Atomic.field-0 nothing) (tree-more x c.args.cell _ _ (ap (node_tree ts) c.in-Atomic.is) c.requires.node) c.requires.found in
    let w : CanWalk x c.args.cell c.args.place g c.requires.filled.ground c.parts_at-parts.result.first = subst (λ (j : ℕ). CanWalk x c.args.cell c.args.place g c.requires.filled.ground j) (sym first) a.0 in
    (omega (arith, c.decreases, w.smaller), (c.requires.filled, (w.inside, (w.real, w.found))))

pub walk_node-returns-in-Atomic-clause-walks : goal.walk_node-returns-in-Atomic-clause-walks
walk_node-returns-in-Atomic-clause-walks t c =
    let x = c.args.ground.now in
    let ts = trees_of x.program.now in
    let g = c.args.groups.now.items in
    let first = first-is _ _ c.parts_at-parts.result c.args.cell c.parts_at-parts.ensures c.as_slice.ensures in
    let second = second-is _ _ c.parts_at-parts.result c.args.cell c.parts_at-parts.ensures c.as_slice.ensures in
    let a = atomic-walks x c.args.cell c.args.place g c.requires.filled.ground (get_or ts c.in-Atomic.field-0 nothing) (tree-more x c.args.cell _ _ (ap (node_tree ts) c.in-Atomic.is) c.requires.node) c.requires.found in
    IfOk-weaker c.walk-in-Atomic.result _ _
    (λ end w. a.1 end c.walk-in-Atomic.new.groups.items (subst (λ (j : ℕ). Walks x j c.args.place g end c.walk-in-Atomic.new.groups.items) first w))
    c.walk-in-Atomic.ensures.walks

pub walk_node-returns-then-negated-clause-walks : goal.walk_node-returns-then-negated-clause-walks
walk_node-returns-then-negated-clause-walks t c =
    let x = c.args.ground.now in
    let ts = trees_of x.program.now in
    let g = c.args.groups.now.items in
    let first = first-is _ _ c.parts_at-parts.result c.args.cell c.parts_at-parts.ensures c.as_slice.ensures in
    let second = second-is _ _ c.parts_at-parts.result c.args.cell c.parts_at-parts.ensures c.as_slice.ensures in
    let b = (get_or ts c.in-Ahead.body nothing) in
    let at : IsTreeAt x c.args.cell (ahead c.in-Ahead.negated b) = (tree-more x c.args.cell _ _ (ap (node_tree ts) c.in-Ahead.is) c.requires.node) in
    walks-bare_ahead x c.args.cell c.args.place g c.requires.filled.ground c.in-Ahead.negated b at c.requires.found (inl c.if-negated.true)

pub walk_node-returns-then-facts_at-clause-walks : goal.walk_node-returns-then-facts_at-clause-walks
walk_node-returns-then-facts_at-clause-walks t c =
    let x = c.args.ground.now in
    let ts = trees_of x.program.now in
    let g = c.args.groups.now.items in
    let first = first-is _ _ c.parts_at-parts.result c.args.cell c.parts_at-parts.ensures c.as_slice.ensures in
    let second = second-is _ _ c.parts_at-parts.result c.args.cell c.parts_at-parts.ensures c.as_slice.ensures in
    let b = (get_or ts c.in-Ahead.body nothing) in
    let at : IsTreeAt x c.args.cell (ahead c.in-Ahead.negated b) = (tree-more x c.args.cell _ _ (ap (node_tree ts) c.in-Ahead.is) c.requires.node) in
    let bare : is_bare b ≡ true =
    sym (ap (λ (f : Facts). f.bare) (c.facts_at.ensures ∙ ap (λ l. facts_at l c.in-Ahead.body) c.as_slice-in-Ahead.ensures ∙ c.requires.filled.ground.plan_is.facts_are c.in-Ahead.body)) ∙ c.if-facts_at.true in
    walks-bare_ahead x c.args.cell c.args.place g c.requires.filled.ground c.in-Ahead.negated b at c.requires.found (inr bare)

pub walk_node-walk-requires-in-Ahead : goal.walk_node-walk-requires-in-Ahead
walk_node-walk-requires-in-Ahead t c =
    let x = c.args.ground.now in
    let ts = trees_of x.program.now in
    let g = c.args.groups.now.items in
    let first = first-is _ _ c.parts_at-parts.result c.args.cell c.parts_at-parts.ensures c.as_slice.ensures in
    let second = second-is _ _ c.parts_at-parts.result c.args.cell c.parts_at-parts.ensures c.as_slice.ensures in
    let b = (get_or ts c.in-Ahead.body nothing) in
    let at : IsTreeAt x c.args.cell (ahead c.in-Ahead.negated b) = (tree-more x c.args.cell _ _ (ap (node_tree ts) c.in-Ahead.is) c.requires.node) in
    let a = ahead-walks x c.args.cell c.args.place g c.requires.filled.ground b (tree-more x c.args.cell _ _ (ap (λ (n : Bool). ahead n b) c.if-negated.false) at) c.requires.found in
    let w : CanWalk x c.args.cell c.args.place g c.requires.filled.ground c.parts_at-parts.result.first = subst (λ (j : ℕ). CanWalk x c.args.cell c.args.place g c.requires.filled.ground j) (sym first) a.0 in
    (omega (arith, c.decreases, w.smaller), (c.requires.filled, (w.inside, (w.real, w.found))))

pub walk_node-returns-in_ok-walk-in-Ahead-clause-walks : goal.walk_node-returns-in_ok-walk-in-Ahead-clause-walks
walk_node-returns-in_ok-walk-in-Ahead-clause-walks t c =
    let x = c.args.ground.now in
    let ts = trees_of x.program.now in
    let g = c.args.groups.now.items in
    let first = first-is _ _ c.parts_at-parts.result c.args.cell c.parts_at-parts.ensures c.as_slice.ensures in
    let second = second-is _ _ c.parts_at-parts.result c.args.cell c.parts_at-parts.ensures c.as_slice.ensures in
    let b = (get_or ts c.in-Ahead.body nothing) in
    let at : IsTreeAt x c.args.cell (ahead c.in-Ahead.negated b) = (tree-more x c.args.cell _ _ (ap (node_tree ts) c.in-Ahead.is) c.requires.node) in
    let a = ahead-walks x c.args.cell c.args.place g c.requires.filled.ground b (tree-more x c.args.cell _ _ (ap (λ (n : Bool). ahead n b) c.if-negated.false) at) c.requires.found in
    a.1 c.in_ok-walk-in-Ahead.field-0 c.walk-in-Ahead.new.groups.items (subst (λ (j : ℕ). Walks x j c.args.place g c.in_ok-walk-in-Ahead.field-0 c.walk-in-Ahead.new.groups.items) first c.in_ok-walk-in-Ahead.ensures.walks)

pub walk_node-walk-requires : goal.walk_node-walk-requires
walk_node-walk-requires t c =
    let x = c.args.ground.now in
    let ts = trees_of x.program.now in
    let g = c.args.groups.now.items in
    let first = first-is _ _ c.parts_at-parts.result c.args.cell c.parts_at-parts.ensures c.as_slice.ensures in
    let second = second-is _ _ c.parts_at-parts.result c.args.cell c.parts_at-parts.ensures c.as_slice.ensures in
    let w : CanWalk x c.args.cell c.args.place g c.requires.filled.ground c.parts_at-parts.result.first = subst (λ (j : ℕ). CanWalk x c.args.cell c.args.place g c.requires.filled.ground j) (sym first) (seq-first x c.args.cell c.args.place g c.requires.filled.ground (get_or ts c.in-Sequence.field-0 nothing) (get_or ts c.in-Sequence.field-1 nothing) (tree-more x c.args.cell _ _ (ap (node_tree ts) c.in-Sequence.is) c.requires.node) c.requires.found) in
    (omega (arith, c.decreases, w.smaller), (c.requires.filled, (w.inside, (w.real, w.found))))

pub walk_node-walk-requires-in-Sequence : goal.walk_node-walk-requires-in-Sequence
walk_node-walk-requires-in-Sequence t c =
    let x = c.args.ground.now in
    let ts = trees_of x.program.now in
    let g = c.args.groups.now.items in
    let first = first-is _ _ c.parts_at-parts.result c.args.cell c.parts_at-parts.ensures c.as_slice.ensures in
    let second = second-is _ _ c.parts_at-parts.result c.args.cell c.parts_at-parts.ensures c.as_slice.ensures in
    let p = (parts_at x.plan.now.parts c.args.cell).first in
    let after = c.follows-second.ensures ∙ ap (λ (j : ℕ). follow x j c.in_ok-middle-in-Sequence.middle c.args.place) first in
    let s = seq-second x c.args.cell c.args.place g c.requires.filled.ground (get_or ts c.in-Sequence.field-0 nothing) (get_or ts c.in-Sequence.field-1 nothing) (tree-more x c.args.cell _ _ (ap (node_tree ts) c.in-Sequence.is) c.requires.node) c.follows-second.result c.in_ok-middle-in-Sequence.middle c.walk.new.groups.items
    (subst (λ (j : ℕ). Walks x j c.args.place g c.in_ok-middle-in-Sequence.middle c.walk.new.groups.items) first c.in_ok-middle-in-Sequence.ensures.walks) after in
    (omega (arith, c.decreases, s.smaller), (filled-on x c.args.marks.now c.args.place c.in_ok-middle-in-Sequence.middle c.requires.filled (walks-on x c.parts_at-parts.result.first c.args.place g c.in_ok-middle-in-Sequence.middle c.walk.new.groups.items c.requires.filled.ground c.in_ok-middle-in-Sequence.ensures.walks).0 s.filled, (s.inside, (s.real, s.found))))

pub walk_node-returns-in_ok-middle-in-Sequence-clause-walks : goal.walk_node-returns-in_ok-middle-in-Sequence-clause-walks
walk_node-returns-in_ok-middle-in-Sequence-clause-walks t c =
    let x = c.args.ground.now in
    let ts = trees_of x.program.now in
    let g = c.args.groups.now.items in
    let first = first-is _ _ c.parts_at-parts.result c.args.cell c.parts_at-parts.ensures c.as_slice.ensures in
    let second = second-is _ _ c.parts_at-parts.result c.args.cell c.parts_at-parts.ensures c.as_slice.ensures in
    let p = (parts_at x.plan.now.parts c.args.cell).first in
    let after = c.follows-second.ensures ∙ ap (λ (j : ℕ). follow x j c.in_ok-middle-in-Sequence.middle c.args.place) first in
    let s = seq-second x c.args.cell c.args.place g c.requires.filled.ground (get_or ts c.in-Sequence.field-0 nothing) (get_or ts c.in-Sequence.field-1 nothing) (tree-more x c.args.cell _ _ (ap (node_tree ts) c.in-Sequence.is) c.requires.node) c.follows-second.result c.in_ok-middle-in-Sequence.middle c.walk.new.groups.items
    (subst (λ (j : ℕ). Walks x j c.args.place g c.in_ok-middle-in-Sequence.middle c.walk.new.groups.items) first c.in_ok-middle-in-Sequence.ensures.walks) after in
    IfOk-weaker c.walk-in-Sequence.result _ _ (λ end w. s.same end c.walk-in-Sequence.new.groups.items w) c.walk-in-Sequence.ensures.walks

pub walk-returns-in-None-clause-walks : goal.walk-returns-in-None-clause-walks
walk-returns-in-None-clause-walks t c =
    let x = c.args.ground.now in
    let ts = trees_of x.program.now in
    let item = item-is _ _ c.cell_at-at.result c.args.cell c.cell_at-at.ensures c.as_slice.ensures in
    walks-nothing x c.args.cell c.args.place c.args.groups.now.items c.requires.filled.ground
    (record {
      inside = c.requires.cell;
      real = c.requires.real;
      tree = ap (item_tree ts) (sym item ∙ c.in-Node.is) ∙ c.in-None.ensures.is;
    }) c.requires.found

pub walk_turns-returns-clause-walks : goal.walk_turns-returns-clause-walks
walk_turns-returns-clause-walks t c =
    let x = c.args.ground.now in
    let g = c.turns.groups.items in
    let i = c.turns.invariant in
    let test = sym c.takes_turn.ensures in
    i.goes.same c.turns.at g (turn-leaves x c.turns.turn c.turns.at g i.filled.ground c.args.greedy c.turns.least c.turns.most i.goes.body i.goes.is_loop i.goes.found (test ∙ c.turns-test.false))

pub walk_turns-walk-requires : goal.walk_turns-walk-requires
walk_turns-walk-requires t c =
    let x = c.args.ground.now in
    let g = c.turns.groups.items in
    let i = c.turns.invariant in
    let test = sym c.takes_turn.ensures in
    let first = first-is _ _ c.parts_at-first.result c.turns.turn c.parts_at-first.ensures c.as_slice.ensures in
    let w : CanWalk x c.turns.turn c.turns.at g i.filled.ground c.parts_at-first.result.first =
    subst (λ (j : ℕ). CanWalk x c.turns.turn c.turns.at g i.filled.ground j) (sym first) (turn-first x c.turns.turn c.turns.at g i.filled.ground c.args.greedy c.turns.least c.turns.most i.goes.body i.goes.is_loop i.goes.found (test ∙ c.turns-test.true)) in
    (omega (arith, c.decreases, w.smaller, i.goes.size), (i.filled, (w.inside, (w.real, w.found))))

pub walk_turns-returns-then-end-at-clause-walks : goal.walk_turns-returns-then-end-at-clause-walks
walk_turns-returns-then-end-at-clause-walks t c =
    let x = c.args.ground.now in
    let g = c.turns.groups.items in
    let i = c.turns.invariant in
    let test = sym c.takes_turn.ensures in
    let first = first-is _ _ c.parts_at-first.result c.turns.turn c.parts_at-first.ensures c.as_slice.ensures in
    i.goes.same c.in_ok-end.end c.walk.new.groups.items (turn-stays x c.turns.turn c.turns.at g i.filled.ground c.args.greedy c.turns.least c.turns.most i.goes.body i.goes.is_loop i.goes.found (test ∙ c.turns-test.true) c.in_ok-end.end c.walk.new.groups.items (subst (λ (j : ℕ). Walks x j c.turns.at g c.in_ok-end.end c.walk.new.groups.items) first c.in_ok-end.ensures.walks) c.if-end-at.true)

pub walk_turns-turns-preserved : goal.walk_turns-turns-preserved
walk_turns-turns-preserved t c =
    let x = c.args.ground.now in
    let g = c.turns.groups.items in
    let i = c.turns.invariant in
    let test = sym c.takes_turn.ensures in
    let first = first-is _ _ c.parts_at-first.result c.turns.turn c.parts_at-first.ensures c.as_slice.ensures in
    let after = c.follows-turn.ensures ∙ ap (λ (j : ℕ). (cell_at x.plan.now.cells j).next) first in
    let n = turn-goes x c.turns.turn c.turns.at g i.filled.ground c.args.greedy c.turns.least c.turns.most i.goes.body i.goes.is_loop i.goes.found (test ∙ c.turns-test.true) c.in_ok-end.end c.walk.new.groups.items (subst (λ (j : ℕ). Walks x j c.turns.at g c.in_ok-end.end c.walk.new.groups.items) first c.in_ok-end.ensures.walks) c.if-end-at.false c.follows-turn.result after in
    let u = costs-of x c.parts_at-first.result.first c.turns.at c.turns.meter.made c.in_ok-end.end c.walk.new.meter.made i.goes.body (ap (λ (j : ℕ). item_tree (trees_of x.program.now) (cell_at x.plan.now.cells j).item) first ∙ turn-tree x c.turns.turn c.turns.at g i.filled.ground c.args.greedy c.turns.least c.turns.most i.goes.body i.goes.is_loop i.goes.found (test ∙ c.turns-test.true)) c.in_ok-end.ensures.steps in
    let l : ℕ = look_cost i.goes.body * suc (length x.text.now) in
    let fewer : Option ℕ = option_map (λ j. j - 1) c.turns.most in
    let left = turn-looks x c.turns.turn c.turns.at g i.filled.ground c.args.greedy c.turns.least c.turns.most i.goes.body i.goes.is_loop i.goes.found (test ∙ c.turns-test.true) (suc (length x.text.now)) in
    record {
      filled = filled-on x c.args.marks.now c.turns.at c.in_ok-end.end i.filled (omega (arith, n.later)) n.filled_there;
      advances = advances-on c.args.meter.now c.turns.meter c.walk.new.meter i.advances c.in_ok-end.ensures.advances;
      goes = record {
        body = i.goes.body;
        is_loop = loop-is x c.follows-turn.result c.args.greedy c.turns.least c.saturating_sub-least.result c.turns.most c.one_less-most.result i.goes.body c.saturating_sub-least.ensures c.one_less-most.ensures n.is_loop;
        found = n.found;
        size = n.size ∙ i.goes.size;
        same = λ e l w. i.goes.same e l (n.same e l w);
        later = omega (arith, i.goes.later, n.later);
        stays = i.goes.stays;
        reads = i.goes.reads;
        looks = i.goes.looks;
        paid =
            let far : c.in_ok-end.end - c.args.place ≡ (c.turns.at - c.args.place) + (c.in_ok-end.end - c.turns.at) = omega (arith, i.goes.later, n.later) in
            let p = turn-cost (stay_cost i.goes.body) (read_cost i.goes.body) l (c.turns.at - c.args.place) (c.in_ok-end.end - c.turns.at) (look_left c.turns.most l) (look_left fewer l) c.args.meter.now.made c.turns.meter.made c.walk.new.meter.made (omega (arith, n.later)) left i.goes.paid u in
            rw (far, c.one_less-most.ensures) p;
      };
    }

pub walk_turns-turns-smaller : goal.walk_turns-turns-smaller
walk_turns-turns-smaller t c =
    let x = c.args.ground.now in
    let g = c.turns.groups.items in
    let i = c.turns.invariant in
    let test = sym c.takes_turn.ensures in
    let first = first-is _ _ c.parts_at-first.result c.turns.turn c.parts_at-first.ensures c.as_slice.ensures in
    let after = c.follows-turn.ensures ∙ ap (λ (j : ℕ). (cell_at x.plan.now.cells j).next) first in
    let n = turn-goes x c.turns.turn c.turns.at g i.filled.ground c.args.greedy c.turns.least c.turns.most i.goes.body i.goes.is_loop i.goes.found (test ∙ c.turns-test.true) c.in_ok-end.end c.walk.new.groups.items (subst (λ (j : ℕ). Walks x j c.turns.at g c.in_ok-end.end c.walk.new.groups.items) first c.in_ok-end.ensures.walks) c.if-end-at.false c.follows-turn.result after in
    let l = n.later in let b = n.filled_there.boundary.0 in omega (arith, l, b)

pub walk_node-returns-then-leads-clause-steps : goal.walk_node-returns-then-leads-clause-steps
walk_node-returns-then-leads-clause-steps t c =
    let x = c.args.ground.now in
    let ts = trees_of x.program.now in
    let g = c.args.groups.now.items in
    let first = first-is _ _ c.parts_at-parts.result c.args.cell c.parts_at-parts.ensures c.as_slice.ensures in
    let second = second-is _ _ c.parts_at-parts.result c.args.cell c.parts_at-parts.ensures c.as_slice.ensures in
    let a = alt-first x c.args.cell c.args.place g c.requires.filled.ground (get_or ts c.in-Alternation.field-0 nothing) (get_or ts c.in-Alternation.field-1 nothing) (tree-more x c.args.cell _ _ (ap (node_tree ts) c.in-Alternation.is) c.requires.node) (sym (c.leads.ensures ∙ ap (λ (j : ℕ). is_some (ends_at x j c.args.place)) first) ∙ c.if-leads.true) in
    let ta : Tree = (get_or ts c.in-Alternation.field-0 nothing) in
    let tb : Tree = (get_or ts c.in-Alternation.field-1 nothing) in
    let e = alt-trees x c.args.cell c.args.place c.requires.filled.ground ta tb (tree-more x c.args.cell _ _ (ap (node_tree ts) c.in-Alternation.is) c.requires.node) in
    IfOk-weaker c.walk-then-leads.result _ _
    (λ end w.
    let s = costs-of x c.parts_at-parts.result.first c.args.place c.args.meter.now.made end c.walk-then-leads.new.meter.made ta (ap (λ (j : ℕ). item_tree ts (cell_at x.plan.now.cells j).item) first ∙ e.0) w in
    costs-is x c.args.cell c.args.place c.args.meter.now.made end (suc c.walk-then-leads.new.meter.made) (alt ta tb) ((tree-more x c.args.cell _ _ (ap (node_tree ts) c.in-Alternation.is) c.requires.node)).tree
    (left-cost (stay_cost ta) (stay_cost tb) (read_cost ta) (read_cost tb) (look_cost ta) (look_cost tb) (suc (length x.text.now)) (end - c.args.place) c.args.meter.now.made c.walk-then-leads.new.meter.made s))
    c.walk-then-leads.ensures.steps

pub walk_node-returns-else-leads-clause-steps : goal.walk_node-returns-else-leads-clause-steps
walk_node-returns-else-leads-clause-steps t c =
    let x = c.args.ground.now in
    let ts = trees_of x.program.now in
    let g = c.args.groups.now.items in
    let first = first-is _ _ c.parts_at-parts.result c.args.cell c.parts_at-parts.ensures c.as_slice.ensures in
    let second = second-is _ _ c.parts_at-parts.result c.args.cell c.parts_at-parts.ensures c.as_slice.ensures in
    let a = alt-second x c.args.cell c.args.place g c.requires.filled.ground (get_or ts c.in-Alternation.field-0 nothing) (get_or ts c.in-Alternation.field-1 nothing) (tree-more x c.args.cell _ _ (ap (node_tree ts) c.in-Alternation.is) c.requires.node) c.requires.found (sym (c.leads.ensures ∙ ap (λ (j : ℕ). is_some (ends_at x j c.args.place)) first) ∙ c.if-leads.false) in
    let ta : Tree = (get_or ts c.in-Alternation.field-0 nothing) in
    let tb : Tree = (get_or ts c.in-Alternation.field-1 nothing) in
    let e = alt-trees x c.args.cell c.args.place c.requires.filled.ground ta tb (tree-more x c.args.cell _ _ (ap (node_tree ts) c.in-Alternation.is) c.requires.node) in
    IfOk-weaker c.walk-in-Alternation.result _ _
    (λ end w.
    let s = costs-of x c.parts_at-parts.result.second c.args.place c.args.meter.now.made end c.walk-in-Alternation.new.meter.made tb (ap (λ (j : ℕ). item_tree ts (cell_at x.plan.now.cells j).item) second ∙ e.1) w in
    costs-is x c.args.cell c.args.place c.args.meter.now.made end (suc c.walk-in-Alternation.new.meter.made) (alt ta tb) ((tree-more x c.args.cell _ _ (ap (node_tree ts) c.in-Alternation.is) c.requires.node)).tree
    (right-cost (stay_cost ta) (stay_cost tb) (read_cost ta) (read_cost tb) (look_cost ta) (look_cost tb) (suc (length x.text.now)) (end - c.args.place) c.args.meter.now.made c.walk-in-Alternation.new.meter.made s))
    c.walk-in-Alternation.ensures.steps

pub walk_node-returns-in_ok-middle-in-Sequence-clause-steps : goal.walk_node-returns-in_ok-middle-in-Sequence-clause-steps
walk_node-returns-in_ok-middle-in-Sequence-clause-steps t c =
    let x = c.args.ground.now in
    let ts = trees_of x.program.now in
    let g = c.args.groups.now.items in
    let first = first-is _ _ c.parts_at-parts.result c.args.cell c.parts_at-parts.ensures c.as_slice.ensures in
    let second = second-is _ _ c.parts_at-parts.result c.args.cell c.parts_at-parts.ensures c.as_slice.ensures in
    let p = (parts_at x.plan.now.parts c.args.cell).first in
    let after = c.follows-second.ensures ∙ ap (λ (j : ℕ). follow x j c.in_ok-middle-in-Sequence.middle c.args.place) first in
    let s = seq-second x c.args.cell c.args.place g c.requires.filled.ground (get_or ts c.in-Sequence.field-0 nothing) (get_or ts c.in-Sequence.field-1 nothing) (tree-more x c.args.cell _ _ (ap (node_tree ts) c.in-Sequence.is) c.requires.node) c.follows-second.result c.in_ok-middle-in-Sequence.middle c.walk.new.groups.items
    (subst (λ (j : ℕ). Walks x j c.args.place g c.in_ok-middle-in-Sequence.middle c.walk.new.groups.items) first c.in_ok-middle-in-Sequence.ensures.walks) after in
    let ta : Tree = (get_or ts c.in-Sequence.field-0 nothing) in
    let tb : Tree = (get_or ts c.in-Sequence.field-1 nothing) in
    let e = seq-tree x c.args.cell c.args.place c.requires.filled.ground ta tb (tree-more x c.args.cell _ _ (ap (node_tree ts) c.in-Sequence.is) c.requires.node) in
    let on = walks-on x c.parts_at-parts.result.first c.args.place g c.in_ok-middle-in-Sequence.middle c.walk.new.groups.items c.requires.filled.ground c.in_ok-middle-in-Sequence.ensures.walks in
    let u = costs-of x c.parts_at-parts.result.first c.args.place c.args.meter.now.made c.in_ok-middle-in-Sequence.middle c.walk.new.meter.made ta (ap (λ (j : ℕ). item_tree ts (cell_at x.plan.now.cells j).item) first ∙ e) c.in_ok-middle-in-Sequence.ensures.steps in
    ok-both c.walk-in-Sequence.result _ _ _
    (λ end w paid.
    let more = walks-on x c.follows-second.result c.in_ok-middle-in-Sequence.middle c.walk.new.groups.items end c.walk-in-Sequence.new.groups.items s.filled w in
    let v = costs-of x c.follows-second.result c.in_ok-middle-in-Sequence.middle c.walk.new.meter.made end c.walk-in-Sequence.new.meter.made tb s.is_tree paid in
    costs-is x c.args.cell c.args.place c.args.meter.now.made end (suc c.walk-in-Sequence.new.meter.made) (seq ta tb) ((tree-more x c.args.cell _ _ (ap (node_tree ts) c.in-Sequence.is) c.requires.node)).tree
    (seq-cost (stay_cost ta) (stay_cost tb) (read_cost ta) (read_cost tb) (look_cost ta) (look_cost tb) (suc (length x.text.now)) (end - c.args.place) (c.in_ok-middle-in-Sequence.middle - c.args.place) (end - c.in_ok-middle-in-Sequence.middle)
    c.args.meter.now.made c.walk.new.meter.made c.walk-in-Sequence.new.meter.made (omega (arith, on.0, more.0)) (omega (arith, on.0, more.0)) u v))
    c.walk-in-Sequence.ensures.walks c.walk-in-Sequence.ensures.steps

pub walk_node-returns-in_ok-walk-in-Ahead-clause-steps : goal.walk_node-returns-in_ok-walk-in-Ahead-clause-steps
walk_node-returns-in_ok-walk-in-Ahead-clause-steps t c =
    let x = c.args.ground.now in
    let ts = trees_of x.program.now in
    let g = c.args.groups.now.items in
    let first = first-is _ _ c.parts_at-parts.result c.args.cell c.parts_at-parts.ensures c.as_slice.ensures in
    let second = second-is _ _ c.parts_at-parts.result c.args.cell c.parts_at-parts.ensures c.as_slice.ensures in
    let b = (get_or ts c.in-Ahead.body nothing) in
    let at : IsTreeAt x c.args.cell (ahead c.in-Ahead.negated b) = (tree-more x c.args.cell _ _ (ap (node_tree ts) c.in-Ahead.is) c.requires.node) in
    let a = ahead-walks x c.args.cell c.args.place g c.requires.filled.ground b (tree-more x c.args.cell _ _ (ap (λ (n : Bool). ahead n b) c.if-negated.false) at) c.requires.found in
    let on = walks-on x c.parts_at-parts.result.first c.args.place g c.in_ok-walk-in-Ahead.field-0 c.walk-in-Ahead.new.groups.items c.requires.filled.ground c.in_ok-walk-in-Ahead.ensures.walks in
    let e = ahead-tree x c.args.cell c.args.place c.requires.filled.ground c.in-Ahead.negated b at in
    let u = costs-of x c.parts_at-parts.result.first c.args.place c.args.meter.now.made c.in_ok-walk-in-Ahead.field-0 c.walk-in-Ahead.new.meter.made b (ap (λ (j : ℕ). item_tree ts (cell_at x.plan.now.cells j).item) first ∙ e) c.in_ok-walk-in-Ahead.ensures.steps in
    let bare : is_bare b ≡ false =
    sym (ap (λ (f : Facts). f.bare) (c.facts_at.ensures ∙ ap (λ l. facts_at l c.in-Ahead.body) c.as_slice-in-Ahead.ensures ∙ c.requires.filled.ground.plan_is.facts_are c.in-Ahead.body)) ∙ c.if-facts_at.false in
    let looks : look_cost (ahead c.in-Ahead.negated b) ≡ walk_cost b + look_cost b =
    ap (λ (n : Bool). if n || is_bare b then 0 else walk_cost b + look_cost b) c.if-negated.false ∙ ap (λ (n : Bool). if n then 0 else walk_cost b + look_cost b) bare in
    let v = look-costs (stay_cost b) (read_cost b) (look_cost b) (suc (length x.text.now)) (c.in_ok-walk-in-Ahead.field-0 - c.args.place) c.args.meter.now.made c.walk-in-Ahead.new.meter.made (omega (arith, on.1)) u in
    let none : c.args.place - c.args.place ≡ 0 = omega arith in
    costs-is x c.args.cell c.args.place c.args.meter.now.made c.args.place (suc c.walk-in-Ahead.new.meter.made) (ahead c.in-Ahead.negated b) at.tree (rw (looks, none) v)

pub walk_turns-returns-then-end-at-clause-steps : goal.walk_turns-returns-then-end-at-clause-steps
walk_turns-returns-then-end-at-clause-steps t c =
    let x = c.args.ground.now in
    let g = c.turns.groups.items in
    let i = c.turns.invariant in
    let test = sym c.takes_turn.ensures in
    let first = first-is _ _ c.parts_at-first.result c.turns.turn c.parts_at-first.ensures c.as_slice.ensures in
    let u = costs-of x c.parts_at-first.result.first c.turns.at c.turns.meter.made c.in_ok-end.end c.walk.new.meter.made i.goes.body (ap (λ (j : ℕ). item_tree (trees_of x.program.now) (cell_at x.plan.now.cells j).item) first ∙ turn-tree x c.turns.turn c.turns.at g i.filled.ground c.args.greedy c.turns.least c.turns.most i.goes.body i.goes.is_loop i.goes.found (test ∙ c.turns-test.true)) c.in_ok-end.ensures.steps in
    let l : ℕ = look_cost i.goes.body * suc (length x.text.now) in
    let fewer : Option ℕ = option_map (λ j. j - 1) c.turns.most in
    let left = turn-looks x c.turns.turn c.turns.at g i.filled.ground c.args.greedy c.turns.least c.turns.most i.goes.body i.goes.is_loop i.goes.found (test ∙ c.turns-test.true) (suc (length x.text.now)) in
    let none : c.in_ok-end.end - c.turns.at ≡ 0 = omega (arith, c.if-end-at.true) in
    let w = subst (λ (y : ℕ). c.walk.new.meter.made ≤ c.turns.meter.made + (stay_cost i.goes.body + read_cost i.goes.body * y + l)) none u in
    let far : c.turns.at - c.args.place ≡ c.in_ok-end.end - c.args.place = ap (λ (e : ℕ). e - c.args.place) (sym c.if-end-at.true) in
    let paid = subst (λ (y : ℕ). c.turns.meter.made + look_left c.turns.most l ≤ c.args.meter.now.made + (stay_cost i.goes.body + read_cost i.goes.body) * y + l) far i.goes.paid in
    let cost = last-cost (stay_cost i.goes.body) (read_cost i.goes.body) l (c.in_ok-end.end - c.args.place) (look_left c.turns.most l) (look_left fewer l) c.args.meter.now.made c.turns.meter.made c.walk.new.meter.made left paid w in
    record { steps = rw (i.goes.stays, i.goes.reads, i.goes.looks) cost }

pub walk_turns-turns-init : goal.walk_turns-turns-init
walk_turns-turns-init t c =
    let x = c.args.ground.now in
    record {
      filled = c.requires.filled;
      advances = advances-none c.args.meter.now;
      goes = record {
        body = c.requires.turns.body;
        is_loop = c.requires.turns.at;
        found = c.requires.found;
        size = refl;
        same = λ e l w. w;
        later = omega arith;
        stays = ap stay_cost c.requires.turns.at.tree;
        reads = ap read_cost c.requires.turns.at.tree;
        looks = ap look_cost c.requires.turns.at.tree;
        paid = no-turn c.args.most (look_cost c.requires.turns.body * suc (length x.text.now)) c.args.meter.now.made ((stay_cost c.requires.turns.body + read_cost c.requires.turns.body) * (c.args.place - c.args.place));
      };
    }

pub walk_turns-returns-clause-advances : goal.walk_turns-returns-clause-advances
walk_turns-returns-clause-advances t c =
    c.turns.invariant.advances

pub walk_turns-returns-then-end-at-clause-advances : goal.walk_turns-returns-then-end-at-clause-advances
walk_turns-returns-then-end-at-clause-advances t c =
    advances-on c.args.meter.now c.turns.meter c.walk.new.meter c.turns.invariant.advances c.in_ok-end.ensures.advances

pub walk_turns-returns-in_err-end-clause-advances : goal.walk_turns-returns-in_err-end-clause-advances
walk_turns-returns-in_err-end-clause-advances t c =
    advances-on c.args.meter.now c.turns.meter c.walk.new.meter c.turns.invariant.advances c.walk.ensures.advances
