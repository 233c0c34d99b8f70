use Rattle.std.proofs.Common.{◌≡◌, suc, ℕ, ◌*◌, ◌+◌, List, Bool, Option, None, sym, ap, ◌∙◌, arith, get_or}
use Rattle.syntect_pattern_linear.specs.syntect_pattern.Trees.{nothing}
use Rattle.syntect_pattern_linear.specs.syntect_pattern_table.Program.{trees_of}
use Rattle.syntect_pattern_linear.specs.syntect_pattern_table.Table.{node_tree}
use Rattle.std.specs.Prelude.{if◌then◌else◌, ◌==◌, not, is_some}
use Rattle.syntect_pattern_linear.specs.syntect_pattern.Sets.{range}
use Rattle.syntect_pattern_linear.specs.syntect_pattern_table.Table.{set_of}
use Rattle.syntect_pattern_plan.specs.Cells.{item_tree, is_end}
use Rattle.syntect_pattern_plan.specs.Onward.{end_if, has_turn, prefer_end}
use Rattle.syntect_pattern_linear.specs.Rows.{row_end}
use Rattle.syntect_pattern_linear.specs.Ground.{ends_at, height_of}
use Rattle.syntect_pattern_linear.specs.Step.{IsTreeAt}
use Rattle.syntect_pattern_linear.proofs.GroundLaws.{ground-of, nothing-goes, anchor-goes, seq-goes, alt-goes, group-goes, ahead-goes, behind-goes, char-goes, atomic-goes, loop-goes, first-is, second-is, empty-is, next-is, item-is, tree-more, if-lower, known-set, or-chosen, or-second}
use Rattle.syntect_pattern_plan.proofs.CellLaws.{ends-end}
use Rattle.syntect_pattern_linear.proofs.StepsLaws.{takes-one, takes-both, takes-keep, none-if}
use Rattle.syntect_pattern_linear.proofs.reach.+reach.Goals as goal

pub reach_node-reach-requires-in-Sequence : goal.reach_node-reach-requires-in-Sequence
reach_node-reach-requires-in-Sequence t c =
    let x = c.args.ground.now in
    let ts = trees_of x.program.now in
    let first = first-is _ _ c.parts_at-parts.result c.args.cell c.parts_at-parts.ensures c.as_slice-2.ensures in
    let second = second-is _ _ c.parts_at-parts.result c.args.cell c.parts_at-parts.ensures c.as_slice-2.ensures in
    let empty = empty-is _ _ c.cell_at-at.result c.args.cell c.cell_at-at.ensures c.as_slice.ensures in
    let next = next-is _ _ c.cell_at-at.result c.args.cell c.cell_at-at.ensures c.as_slice.ensures in
    let g = seq-goes x c.args.place c.args.cell (ground-of x c.args.place c.requires.ready) (get_or ts c.in-Sequence.field-0 nothing) (get_or ts c.in-Sequence.field-1 nothing) (tree-more x c.args.cell _ _ (ap (node_tree ts) c.in-Sequence.is) c.requires.node) c.parts_at-parts.result.first first in
    (omega (arith, c.decreases, g.1.lower), (c.requires.ready, (g.1.there, (c.requires.known, c.requires.long))))

pub reach_node-returns-in-Sequence-clause-value : goal.reach_node-returns-in-Sequence-clause-value
reach_node-returns-in-Sequence-clause-value t c =
    let x = c.args.ground.now in
    let ts = trees_of x.program.now in
    let first = first-is _ _ c.parts_at-parts.result c.args.cell c.parts_at-parts.ensures c.as_slice-2.ensures in
    let second = second-is _ _ c.parts_at-parts.result c.args.cell c.parts_at-parts.ensures c.as_slice-2.ensures in
    let empty = empty-is _ _ c.cell_at-at.result c.args.cell c.cell_at-at.ensures c.as_slice.ensures in
    let next = next-is _ _ c.cell_at-at.result c.args.cell c.cell_at-at.ensures c.as_slice.ensures in
    let g = seq-goes x c.args.place c.args.cell (ground-of x c.args.place c.requires.ready) (get_or ts c.in-Sequence.field-0 nothing) (get_or ts c.in-Sequence.field-1 nothing) (tree-more x c.args.cell _ _ (ap (node_tree ts) c.in-Sequence.is) c.requires.node) c.parts_at-parts.result.first first in
    c.reach-in-Sequence.ensures.value ∙ sym g.0

pub reach_node-reach-requires : goal.reach_node-reach-requires
reach_node-reach-requires t c =
    let x = c.args.ground.now in
    let ts = trees_of x.program.now in
    let first = first-is _ _ c.parts_at-parts.result c.args.cell c.parts_at-parts.ensures c.as_slice-2.ensures in
    let second = second-is _ _ c.parts_at-parts.result c.args.cell c.parts_at-parts.ensures c.as_slice-2.ensures in
    let empty = empty-is _ _ c.cell_at-at.result c.args.cell c.cell_at-at.ensures c.as_slice.ensures in
    let next = next-is _ _ c.cell_at-at.result c.args.cell c.cell_at-at.ensures c.as_slice.ensures in
    let g = nothing-goes x c.args.place c.args.cell (ground-of x c.args.place c.requires.ready) (tree-more x c.args.cell _ _ (ap (node_tree ts) c.in-Nothing.is) c.requires.node) c.cell_at-at.result.empty empty in
    (omega (arith, c.decreases, g.1.lower), (c.requires.ready, (g.1.there, (c.requires.known, c.requires.long))))

pub reach_node-returns-in-Nothing-clause-value : goal.reach_node-returns-in-Nothing-clause-value
reach_node-returns-in-Nothing-clause-value t c =
    let x = c.args.ground.now in
    let ts = trees_of x.program.now in
    let first = first-is _ _ c.parts_at-parts.result c.args.cell c.parts_at-parts.ensures c.as_slice-2.ensures in
    let second = second-is _ _ c.parts_at-parts.result c.args.cell c.parts_at-parts.ensures c.as_slice-2.ensures in
    let empty = empty-is _ _ c.cell_at-at.result c.args.cell c.cell_at-at.ensures c.as_slice.ensures in
    let next = next-is _ _ c.cell_at-at.result c.args.cell c.cell_at-at.ensures c.as_slice.ensures in
    let g = nothing-goes x c.args.place c.args.cell (ground-of x c.args.place c.requires.ready) (tree-more x c.args.cell _ _ (ap (node_tree ts) c.in-Nothing.is) c.requires.node) c.cell_at-at.result.empty empty in
    c.reach.ensures.value ∙ sym g.0

pub reach_node-reach-requires-in-Group : goal.reach_node-reach-requires-in-Group
reach_node-reach-requires-in-Group t c =
    let x = c.args.ground.now in
    let ts = trees_of x.program.now in
    let first = first-is _ _ c.parts_at-parts.result c.args.cell c.parts_at-parts.ensures c.as_slice-2.ensures in
    let second = second-is _ _ c.parts_at-parts.result c.args.cell c.parts_at-parts.ensures c.as_slice-2.ensures in
    let empty = empty-is _ _ c.cell_at-at.result c.args.cell c.cell_at-at.ensures c.as_slice.ensures in
    let next = next-is _ _ c.cell_at-at.result c.args.cell c.cell_at-at.ensures c.as_slice.ensures in
    let g = group-goes x c.args.place c.args.cell (ground-of x c.args.place c.requires.ready) c.in-Group.number (get_or ts c.in-Group.body nothing) (tree-more x c.args.cell _ _ (ap (node_tree ts) c.in-Group.is) c.requires.node) c.parts_at-parts.result.first first in
    (omega (arith, c.decreases, g.1.lower), (c.requires.ready, (g.1.there, (c.requires.known, c.requires.long))))

pub reach_node-returns-in-Group-clause-value : goal.reach_node-returns-in-Group-clause-value
reach_node-returns-in-Group-clause-value t c =
    let x = c.args.ground.now in
    let ts = trees_of x.program.now in
    let first = first-is _ _ c.parts_at-parts.result c.args.cell c.parts_at-parts.ensures c.as_slice-2.ensures in
    let second = second-is _ _ c.parts_at-parts.result c.args.cell c.parts_at-parts.ensures c.as_slice-2.ensures in
    let empty = empty-is _ _ c.cell_at-at.result c.args.cell c.cell_at-at.ensures c.as_slice.ensures in
    let next = next-is _ _ c.cell_at-at.result c.args.cell c.cell_at-at.ensures c.as_slice.ensures in
    let g = group-goes x c.args.place c.args.cell (ground-of x c.args.place c.requires.ready) c.in-Group.number (get_or ts c.in-Group.body nothing) (tree-more x c.args.cell _ _ (ap (node_tree ts) c.in-Group.is) c.requires.node) c.parts_at-parts.result.first first in
    c.reach-in-Group.ensures.value ∙ sym g.0

pub reach_node-reach-requires-in-Alternation : goal.reach_node-reach-requires-in-Alternation
reach_node-reach-requires-in-Alternation t c =
    let x = c.args.ground.now in
    let ts = trees_of x.program.now in
    let first = first-is _ _ c.parts_at-parts.result c.args.cell c.parts_at-parts.ensures c.as_slice-2.ensures in
    let second = second-is _ _ c.parts_at-parts.result c.args.cell c.parts_at-parts.ensures c.as_slice-2.ensures in
    let empty = empty-is _ _ c.cell_at-at.result c.args.cell c.cell_at-at.ensures c.as_slice.ensures in
    let next = next-is _ _ c.cell_at-at.result c.args.cell c.cell_at-at.ensures c.as_slice.ensures in
    let g = alt-goes x c.args.place c.args.cell (ground-of x c.args.place c.requires.ready) (get_or ts c.in-Alternation.field-0 nothing) (get_or ts c.in-Alternation.field-1 nothing) (tree-more x c.args.cell _ _ (ap (node_tree ts) c.in-Alternation.is) c.requires.node) c.parts_at-parts.result.first c.parts_at-parts.result.second first second in
    (omega (arith, c.decreases, g.1.lower), (c.requires.ready, (g.1.there, (c.requires.known, c.requires.long))))

pub reach_node-reach-requires-in-Alternation-2 : goal.reach_node-reach-requires-in-Alternation-2
reach_node-reach-requires-in-Alternation-2 t c =
    let x = c.args.ground.now in
    let ts = trees_of x.program.now in
    let first = first-is _ _ c.parts_at-parts.result c.args.cell c.parts_at-parts.ensures c.as_slice-2.ensures in
    let second = second-is _ _ c.parts_at-parts.result c.args.cell c.parts_at-parts.ensures c.as_slice-2.ensures in
    let empty = empty-is _ _ c.cell_at-at.result c.args.cell c.cell_at-at.ensures c.as_slice.ensures in
    let next = next-is _ _ c.cell_at-at.result c.args.cell c.cell_at-at.ensures c.as_slice.ensures in
    let g = alt-goes x c.args.place c.args.cell (ground-of x c.args.place c.requires.ready) (get_or ts c.in-Alternation.field-0 nothing) (get_or ts c.in-Alternation.field-1 nothing) (tree-more x c.args.cell _ _ (ap (node_tree ts) c.in-Alternation.is) c.requires.node) c.parts_at-parts.result.first c.parts_at-parts.result.second first second in
    (omega (arith, c.decreases, g.2.lower), (c.requires.ready, (g.2.there, (c.reach-in-Alternation.ensures.known, c.reach-in-Alternation.ensures.steps.long ∙ c.requires.long))))

pub reach_node-returns-in-Some-clause-value : goal.reach_node-returns-in-Some-clause-value
reach_node-returns-in-Some-clause-value t c =
    let x = c.args.ground.now in
    let ts = trees_of x.program.now in
    let first = first-is _ _ c.parts_at-parts.result c.args.cell c.parts_at-parts.ensures c.as_slice-2.ensures in
    let second = second-is _ _ c.parts_at-parts.result c.args.cell c.parts_at-parts.ensures c.as_slice-2.ensures in
    let empty = empty-is _ _ c.cell_at-at.result c.args.cell c.cell_at-at.ensures c.as_slice.ensures in
    let next = next-is _ _ c.cell_at-at.result c.args.cell c.cell_at-at.ensures c.as_slice.ensures in
    let g = alt-goes x c.args.place c.args.cell (ground-of x c.args.place c.requires.ready) (get_or ts c.in-Alternation.field-0 nothing) (get_or ts c.in-Alternation.field-1 nothing) (tree-more x c.args.cell _ _ (ap (node_tree ts) c.in-Alternation.is) c.requires.node) c.parts_at-parts.result.first c.parts_at-parts.result.second first second in
    or-chosen _ _ _ c.in-Some.ensures.value ∙ sym g.0

pub reach_node-returns-in_default-clause-value : goal.reach_node-returns-in_default-clause-value
reach_node-returns-in_default-clause-value t c =
    let x = c.args.ground.now in
    let ts = trees_of x.program.now in
    let first = first-is _ _ c.parts_at-parts.result c.args.cell c.parts_at-parts.ensures c.as_slice-2.ensures in
    let second = second-is _ _ c.parts_at-parts.result c.args.cell c.parts_at-parts.ensures c.as_slice-2.ensures in
    let empty = empty-is _ _ c.cell_at-at.result c.args.cell c.cell_at-at.ensures c.as_slice.ensures in
    let next = next-is _ _ c.cell_at-at.result c.args.cell c.cell_at-at.ensures c.as_slice.ensures in
    let g = alt-goes x c.args.place c.args.cell (ground-of x c.args.place c.requires.ready) (get_or ts c.in-Alternation.field-0 nothing) (get_or ts c.in-Alternation.field-1 nothing) (tree-more x c.args.cell _ _ (ap (node_tree ts) c.in-Alternation.is) c.requires.node) c.parts_at-parts.result.first c.parts_at-parts.result.second first second in
    or-second c.reach-in-Alternation.result _ _ _ c.in_default.not-Some c.reach-in-Alternation.ensures.value c.reach-in-Alternation-2.ensures.value ∙ sym g.0

pub reach_node-reach_if-requires : goal.reach_node-reach_if-requires
reach_node-reach_if-requires t c =
    let x = c.args.ground.now in
    let ts = trees_of x.program.now in
    let first = first-is _ _ c.parts_at-parts.result c.args.cell c.parts_at-parts.ensures c.as_slice-2.ensures in
    let second = second-is _ _ c.parts_at-parts.result c.args.cell c.parts_at-parts.ensures c.as_slice-2.ensures in
    let empty = empty-is _ _ c.cell_at-at.result c.args.cell c.cell_at-at.ensures c.as_slice.ensures in
    let next = next-is _ _ c.cell_at-at.result c.args.cell c.cell_at-at.ensures c.as_slice.ensures in
    let g = anchor-goes x c.args.place c.args.cell (ground-of x c.args.place c.requires.ready) c.in-Anchor.anchor (tree-more x c.args.cell _ _ (ap (node_tree ts) c.in-Anchor.is) c.requires.node) c.cell_at-at.result.empty empty in
    (if-lower c.anchor_holds-holds.result (6 * height_of x c.cell_at-at.result.empty + 5) t (omega (arith, c.decreases)) (λ z. omega (arith, c.decreases, g.1.lower)), (c.requires.ready, ((λ z. g.1.there), (c.requires.known, c.requires.long))))

pub reach_node-returns-in-Anchor-clause-value : goal.reach_node-returns-in-Anchor-clause-value
reach_node-returns-in-Anchor-clause-value t c =
    let x = c.args.ground.now in
    let ts = trees_of x.program.now in
    let first = first-is _ _ c.parts_at-parts.result c.args.cell c.parts_at-parts.ensures c.as_slice-2.ensures in
    let second = second-is _ _ c.parts_at-parts.result c.args.cell c.parts_at-parts.ensures c.as_slice-2.ensures in
    let empty = empty-is _ _ c.cell_at-at.result c.args.cell c.cell_at-at.ensures c.as_slice.ensures in
    let next = next-is _ _ c.cell_at-at.result c.args.cell c.cell_at-at.ensures c.as_slice.ensures in
    let g = anchor-goes x c.args.place c.args.cell (ground-of x c.args.place c.requires.ready) c.in-Anchor.anchor (tree-more x c.args.cell _ _ (ap (node_tree ts) c.in-Anchor.is) c.requires.node) c.cell_at-at.result.empty empty in
    c.reach_if.ensures.value ∙ ap (λ (b : Bool). end_if b (ends_at x c.cell_at-at.result.empty c.args.place)) c.anchor_holds-holds.ensures ∙ sym g.0

pub reach_node-reach-requires-in-Ahead : goal.reach_node-reach-requires-in-Ahead
reach_node-reach-requires-in-Ahead t c =
    let x = c.args.ground.now in
    let ts = trees_of x.program.now in
    let first = first-is _ _ c.parts_at-parts.result c.args.cell c.parts_at-parts.ensures c.as_slice-2.ensures in
    let second = second-is _ _ c.parts_at-parts.result c.args.cell c.parts_at-parts.ensures c.as_slice-2.ensures in
    let empty = empty-is _ _ c.cell_at-at.result c.args.cell c.cell_at-at.ensures c.as_slice.ensures in
    let next = next-is _ _ c.cell_at-at.result c.args.cell c.cell_at-at.ensures c.as_slice.ensures in
    let g = ahead-goes x c.args.place c.args.cell (ground-of x c.args.place c.requires.ready) c.in-Ahead.negated (get_or ts c.in-Ahead.body nothing) (tree-more x c.args.cell _ _ (ap (node_tree ts) c.in-Ahead.is) c.requires.node) c.parts_at-parts.result.first c.cell_at-at.result.empty first empty in
    (omega (arith, c.decreases, g.1.lower), (c.requires.ready, (g.1.there, (c.requires.known, c.requires.long))))

pub reach_node-reach_if-requires-in-Ahead : goal.reach_node-reach_if-requires-in-Ahead
reach_node-reach_if-requires-in-Ahead t c =
    let x = c.args.ground.now in
    let ts = trees_of x.program.now in
    let first = first-is _ _ c.parts_at-parts.result c.args.cell c.parts_at-parts.ensures c.as_slice-2.ensures in
    let second = second-is _ _ c.parts_at-parts.result c.args.cell c.parts_at-parts.ensures c.as_slice-2.ensures in
    let empty = empty-is _ _ c.cell_at-at.result c.args.cell c.cell_at-at.ensures c.as_slice.ensures in
    let next = next-is _ _ c.cell_at-at.result c.args.cell c.cell_at-at.ensures c.as_slice.ensures in
    let g = ahead-goes x c.args.place c.args.cell (ground-of x c.args.place c.requires.ready) c.in-Ahead.negated (get_or ts c.in-Ahead.body nothing) (tree-more x c.args.cell _ _ (ap (node_tree ts) c.in-Ahead.is) c.requires.node) c.parts_at-parts.result.first c.cell_at-at.result.empty first empty in
    (if-lower c.looks.result (6 * height_of x c.cell_at-at.result.empty + 5) t (omega (arith, c.decreases)) (λ z. omega (arith, c.decreases, g.2.lower)), (c.requires.ready, ((λ z. g.2.there), (c.reach-in-Ahead.ensures.known, c.reach-in-Ahead.ensures.steps.long ∙ c.requires.long))))

pub reach_node-returns-in-Ahead-clause-value : goal.reach_node-returns-in-Ahead-clause-value
reach_node-returns-in-Ahead-clause-value t c =
    let x = c.args.ground.now in
    let ts = trees_of x.program.now in
    let first = first-is _ _ c.parts_at-parts.result c.args.cell c.parts_at-parts.ensures c.as_slice-2.ensures in
    let second = second-is _ _ c.parts_at-parts.result c.args.cell c.parts_at-parts.ensures c.as_slice-2.ensures in
    let empty = empty-is _ _ c.cell_at-at.result c.args.cell c.cell_at-at.ensures c.as_slice.ensures in
    let next = next-is _ _ c.cell_at-at.result c.args.cell c.cell_at-at.ensures c.as_slice.ensures in
    let g = ahead-goes x c.args.place c.args.cell (ground-of x c.args.place c.requires.ready) c.in-Ahead.negated (get_or ts c.in-Ahead.body nothing) (tree-more x c.args.cell _ _ (ap (node_tree ts) c.in-Ahead.is) c.requires.node) c.parts_at-parts.result.first c.cell_at-at.result.empty first empty in
    let found : c.is_some-found.result ≡ is_some (ends_at x c.parts_at-parts.result.first c.args.place) = c.is_some-found.ensures ∙ ap is_some c.reach-in-Ahead.ensures.value in
    c.reach_if-in-Ahead.ensures.value
    ∙ ap (λ (b : Bool). end_if b (ends_at x c.cell_at-at.result.empty c.args.place)) (c.looks.ensures ∙ ap (λ (b : Bool). if c.in-Ahead.negated then not b else b) found)
    ∙ sym g.0

pub reach_node-reach_if-requires-in-Behind : goal.reach_node-reach_if-requires-in-Behind
reach_node-reach_if-requires-in-Behind t c =
    let x = c.args.ground.now in
    let ts = trees_of x.program.now in
    let first = first-is _ _ c.parts_at-parts.result c.args.cell c.parts_at-parts.ensures c.as_slice-2.ensures in
    let second = second-is _ _ c.parts_at-parts.result c.args.cell c.parts_at-parts.ensures c.as_slice-2.ensures in
    let empty = empty-is _ _ c.cell_at-at.result c.args.cell c.cell_at-at.ensures c.as_slice.ensures in
    let next = next-is _ _ c.cell_at-at.result c.args.cell c.cell_at-at.ensures c.as_slice.ensures in
    let g = behind-goes x c.args.place c.args.cell (ground-of x c.args.place c.requires.ready) c.in-Behind.negated (get_or ts c.in-Behind.body nothing) (tree-more x c.args.cell _ _ (ap (node_tree ts) c.in-Behind.is) c.requires.node) c.parts_at-parts.result.first c.cell_at-at.result.empty c.flag_at-found.result first empty c.flag_at-found.ensures in
    (if-lower c.looks-in-Behind.result (6 * height_of x c.cell_at-at.result.empty + 5) t (omega (arith, c.decreases)) (λ z. omega (arith, c.decreases, g.1.lower)), (c.requires.ready, ((λ z. g.1.there), (c.requires.known, c.requires.long))))

pub reach_node-returns-in-Behind-clause-value : goal.reach_node-returns-in-Behind-clause-value
reach_node-returns-in-Behind-clause-value t c =
    let x = c.args.ground.now in
    let ts = trees_of x.program.now in
    let first = first-is _ _ c.parts_at-parts.result c.args.cell c.parts_at-parts.ensures c.as_slice-2.ensures in
    let second = second-is _ _ c.parts_at-parts.result c.args.cell c.parts_at-parts.ensures c.as_slice-2.ensures in
    let empty = empty-is _ _ c.cell_at-at.result c.args.cell c.cell_at-at.ensures c.as_slice.ensures in
    let next = next-is _ _ c.cell_at-at.result c.args.cell c.cell_at-at.ensures c.as_slice.ensures in
    let g = behind-goes x c.args.place c.args.cell (ground-of x c.args.place c.requires.ready) c.in-Behind.negated (get_or ts c.in-Behind.body nothing) (tree-more x c.args.cell _ _ (ap (node_tree ts) c.in-Behind.is) c.requires.node) c.parts_at-parts.result.first c.cell_at-at.result.empty c.flag_at-found.result first empty c.flag_at-found.ensures in
    c.reach_if-in-Behind.ensures.value
    ∙ ap (λ (b : Bool). end_if b (ends_at x c.cell_at-at.result.empty c.args.place)) c.looks-in-Behind.ensures
    ∙ sym g.0

pub reach_node-reach-requires-in-Atomic : goal.reach_node-reach-requires-in-Atomic
reach_node-reach-requires-in-Atomic t c =
    let x = c.args.ground.now in
    let ts = trees_of x.program.now in
    let first = first-is _ _ c.parts_at-parts.result c.args.cell c.parts_at-parts.ensures c.as_slice-2.ensures in
    let second = second-is _ _ c.parts_at-parts.result c.args.cell c.parts_at-parts.ensures c.as_slice-2.ensures in
    let empty = empty-is _ _ c.cell_at-at.result c.args.cell c.cell_at-at.ensures c.as_slice.ensures in
    let next = next-is _ _ c.cell_at-at.result c.args.cell c.cell_at-at.ensures c.as_slice.ensures in
    let g = atomic-goes x c.args.place c.args.cell c.requires.ready (get_or ts c.in-Atomic.field-0 nothing) (tree-more x c.args.cell _ _ (ap (node_tree ts) c.in-Atomic.is) c.requires.node) c.parts_at-parts.result.first c.cell_at-at.result.empty c.cell_at-at.result.next first empty next in
    (omega (arith, c.decreases, g.0.lower), (c.requires.ready, (g.0.there, (c.requires.known, c.requires.long))))

pub reach_node-returns-in_err-end-in-Atomic-clause-value : goal.reach_node-returns-in_err-end-in-Atomic-clause-value
reach_node-returns-in_err-end-in-Atomic-clause-value t c =
    let x = c.args.ground.now in
    let ts = trees_of x.program.now in
    let first = first-is _ _ c.parts_at-parts.result c.args.cell c.parts_at-parts.ensures c.as_slice-2.ensures in
    let second = second-is _ _ c.parts_at-parts.result c.args.cell c.parts_at-parts.ensures c.as_slice-2.ensures in
    let empty = empty-is _ _ c.cell_at-at.result c.args.cell c.cell_at-at.ensures c.as_slice.ensures in
    let next = next-is _ _ c.cell_at-at.result c.args.cell c.cell_at-at.ensures c.as_slice.ensures in
    let g = atomic-goes x c.args.place c.args.cell c.requires.ready (get_or ts c.in-Atomic.field-0 nothing) (tree-more x c.args.cell _ _ (ap (node_tree ts) c.in-Atomic.is) c.requires.node) c.parts_at-parts.result.first c.cell_at-at.result.empty c.cell_at-at.result.next first empty next in
    c.from_residual.ensures ∙ sym (g.1 (sym c.in_err-end-in-Atomic.ensures.value))

pub reach_node-reach-requires-then-end-place : goal.reach_node-reach-requires-then-end-place
reach_node-reach-requires-then-end-place t c =
    let x = c.args.ground.now in
    let ts = trees_of x.program.now in
    let first = first-is _ _ c.parts_at-parts.result c.args.cell c.parts_at-parts.ensures c.as_slice-2.ensures in
    let second = second-is _ _ c.parts_at-parts.result c.args.cell c.parts_at-parts.ensures c.as_slice-2.ensures in
    let empty = empty-is _ _ c.cell_at-at.result c.args.cell c.cell_at-at.ensures c.as_slice.ensures in
    let next = next-is _ _ c.cell_at-at.result c.args.cell c.cell_at-at.ensures c.as_slice.ensures in
    let g = atomic-goes x c.args.place c.args.cell c.requires.ready (get_or ts c.in-Atomic.field-0 nothing) (tree-more x c.args.cell _ _ (ap (node_tree ts) c.in-Atomic.is) c.requires.node) c.parts_at-parts.result.first c.cell_at-at.result.empty c.cell_at-at.result.next first empty next in
    let h = g.2 c.in_ok-end-in-Atomic.end (sym c.in_ok-end-in-Atomic.ensures.value) c.if-end-place.true in
    (omega (arith, c.decreases, h.1.lower), (c.requires.ready, (h.1.there, (c.reach-in-Atomic.ensures.known, c.reach-in-Atomic.ensures.steps.long ∙ c.requires.long))))

pub reach_node-returns-then-end-place-clause-value : goal.reach_node-returns-then-end-place-clause-value
reach_node-returns-then-end-place-clause-value t c =
    let x = c.args.ground.now in
    let ts = trees_of x.program.now in
    let first = first-is _ _ c.parts_at-parts.result c.args.cell c.parts_at-parts.ensures c.as_slice-2.ensures in
    let second = second-is _ _ c.parts_at-parts.result c.args.cell c.parts_at-parts.ensures c.as_slice-2.ensures in
    let empty = empty-is _ _ c.cell_at-at.result c.args.cell c.cell_at-at.ensures c.as_slice.ensures in
    let next = next-is _ _ c.cell_at-at.result c.args.cell c.cell_at-at.ensures c.as_slice.ensures in
    let g = atomic-goes x c.args.place c.args.cell c.requires.ready (get_or ts c.in-Atomic.field-0 nothing) (tree-more x c.args.cell _ _ (ap (node_tree ts) c.in-Atomic.is) c.requires.node) c.parts_at-parts.result.first c.cell_at-at.result.empty c.cell_at-at.result.next first empty next in
    let h = g.2 c.in_ok-end-in-Atomic.end (sym c.in_ok-end-in-Atomic.ensures.value) c.if-end-place.true in
    c.reach-then-end-place.ensures.value ∙ sym h.0

pub reach_node-returns-else-end-place-clause-value : goal.reach_node-returns-else-end-place-clause-value
reach_node-returns-else-end-place-clause-value t c =
    let x = c.args.ground.now in
    let ts = trees_of x.program.now in
    let first = first-is _ _ c.parts_at-parts.result c.args.cell c.parts_at-parts.ensures c.as_slice-2.ensures in
    let second = second-is _ _ c.parts_at-parts.result c.args.cell c.parts_at-parts.ensures c.as_slice-2.ensures in
    let empty = empty-is _ _ c.cell_at-at.result c.args.cell c.cell_at-at.ensures c.as_slice.ensures in
    let next = next-is _ _ c.cell_at-at.result c.args.cell c.cell_at-at.ensures c.as_slice.ensures in
    let g = atomic-goes x c.args.place c.args.cell c.requires.ready (get_or ts c.in-Atomic.field-0 nothing) (tree-more x c.args.cell _ _ (ap (node_tree ts) c.in-Atomic.is) c.requires.node) c.parts_at-parts.result.first c.cell_at-at.result.empty c.cell_at-at.result.next first empty next in
    let h = g.3 c.in_ok-end-in-Atomic.end (sym c.in_ok-end-in-Atomic.ensures.value) c.if-end-place.false in
    c.end_at.ensures ∙ ap (λ (d : ℕ). row_end x.rows.now d c.cell_at-at.result.next) c.saturating_sub.ensures ∙ sym h

pub reach_node-returns-in-Char-clause-value : goal.reach_node-returns-in-Char-clause-value
reach_node-returns-in-Char-clause-value t c =
    let x = c.args.ground.now in
    let ts = trees_of x.program.now in
    let first = first-is _ _ c.parts_at-parts.result c.args.cell c.parts_at-parts.ensures c.as_slice-2.ensures in
    let second = second-is _ _ c.parts_at-parts.result c.args.cell c.parts_at-parts.ensures c.as_slice-2.ensures in
    let empty = empty-is _ _ c.cell_at-at.result c.args.cell c.cell_at-at.ensures c.as_slice.ensures in
    let next = next-is _ _ c.cell_at-at.result c.args.cell c.cell_at-at.ensures c.as_slice.ensures in
    c.end_from.ensures ∙ char-goes x c.args.place c.args.cell c.requires.ready (range c.in-Char.wanted c.in-Char.wanted) (tree-more x c.args.cell _ _ (ap (node_tree ts) c.in-Char.is) c.requires.node) c.cell_at-at.result.next c.past_char-next.result next c.past_char-next.ensures.value c.past_char-next.ensures.boundary

pub reach_node-returns-in-Class-clause-value : goal.reach_node-returns-in-Class-clause-value
reach_node-returns-in-Class-clause-value t c =
    let x = c.args.ground.now in
    let ts = trees_of x.program.now in
    let first = first-is _ _ c.parts_at-parts.result c.args.cell c.parts_at-parts.ensures c.as_slice-2.ensures in
    let second = second-is _ _ c.parts_at-parts.result c.args.cell c.parts_at-parts.ensures c.as_slice-2.ensures in
    let empty = empty-is _ _ c.cell_at-at.result c.args.cell c.cell_at-at.ensures c.as_slice.ensures in
    let next = next-is _ _ c.cell_at-at.result c.args.cell c.cell_at-at.ensures c.as_slice.ensures in
    c.end_from-in-Class.ensures ∙ char-goes x c.args.place c.args.cell c.requires.ready (set_of c.in-Class.class) (tree-more x c.args.cell _ _ (ap (node_tree ts) c.in-Class.is) c.requires.node) c.cell_at-at.result.next c.past_class-next.result next c.past_class-next.ensures.value c.past_class-next.ensures.boundary

pub reach_loop-reach_if-turn-requires : goal.reach_loop-reach_if-turn-requires
reach_loop-reach_if-turn-requires t c =
    let x = c.args.ground.now in
    let ts = trees_of x.program.now in
    let first = first-is _ _ c.parts_at-parts.result c.args.cell c.parts_at-parts.ensures c.as_slice-2.ensures in
    let second = second-is _ _ c.parts_at-parts.result c.args.cell c.parts_at-parts.ensures c.as_slice-2.ensures in
    let empty = empty-is _ _ c.cell_at-at.result c.args.cell c.cell_at-at.ensures c.as_slice.ensures in
    let next = next-is _ _ c.cell_at-at.result c.args.cell c.cell_at-at.ensures c.as_slice.ensures in
    let g = loop-goes x c.args.place c.args.cell (ground-of x c.args.place c.requires.ready) c.args.greedy c.args.least c.args.most c.requires.turns.body c.requires.turns.at c.parts_at-parts.result.first c.cell_at-at.result.empty first empty in
    (if-lower c.may_turn.result (6 * height_of x c.parts_at-parts.result.first + 5) t (omega (arith, c.decreases)) (λ z. let l = g.1 (sym c.may_turn.ensures ∙ z) in omega (arith, c.decreases, l.lower)), (c.requires.ready, ((λ z. (g.1 (sym c.may_turn.ensures ∙ z)).there), (c.requires.known, c.requires.long))))

pub reach_loop-reach_if-leave-requires : goal.reach_loop-reach_if-leave-requires
reach_loop-reach_if-leave-requires t c =
    let x = c.args.ground.now in
    let ts = trees_of x.program.now in
    let first = first-is _ _ c.parts_at-parts.result c.args.cell c.parts_at-parts.ensures c.as_slice-2.ensures in
    let second = second-is _ _ c.parts_at-parts.result c.args.cell c.parts_at-parts.ensures c.as_slice-2.ensures in
    let empty = empty-is _ _ c.cell_at-at.result c.args.cell c.cell_at-at.ensures c.as_slice.ensures in
    let next = next-is _ _ c.cell_at-at.result c.args.cell c.cell_at-at.ensures c.as_slice.ensures in
    let g = loop-goes x c.args.place c.args.cell (ground-of x c.args.place c.requires.ready) c.args.greedy c.args.least c.args.most c.requires.turns.body c.requires.turns.at c.parts_at-parts.result.first c.cell_at-at.result.empty first empty in
    (if-lower (c.args.least == 0) (6 * height_of x c.cell_at-at.result.empty + 5) t (omega (arith, c.decreases)) (λ z. let l = g.2 z in omega (arith, c.decreases, l.lower)), (c.requires.ready, ((λ z. (g.2 z).there), (c.reach_if-turn.ensures.known, (c.reach_if-turn.ensures.steps (height_of x c.args.cell) (λ z. (g.1 (sym c.may_turn.ensures ∙ z)).lower)).long ∙ c.requires.long))))

pub reach_loop-returns-clause-value : goal.reach_loop-returns-clause-value
reach_loop-returns-clause-value t c =
    let x = c.args.ground.now in
    let ts = trees_of x.program.now in
    let first = first-is _ _ c.parts_at-parts.result c.args.cell c.parts_at-parts.ensures c.as_slice-2.ensures in
    let second = second-is _ _ c.parts_at-parts.result c.args.cell c.parts_at-parts.ensures c.as_slice-2.ensures in
    let empty = empty-is _ _ c.cell_at-at.result c.args.cell c.cell_at-at.ensures c.as_slice.ensures in
    let next = next-is _ _ c.cell_at-at.result c.args.cell c.cell_at-at.ensures c.as_slice.ensures in
    let g = loop-goes x c.args.place c.args.cell (ground-of x c.args.place c.requires.ready) c.args.greedy c.args.least c.args.most c.requires.turns.body c.requires.turns.at c.parts_at-parts.result.first c.cell_at-at.result.empty first empty in
    c.prefer.ensures
    ∙ ap (λ (o : Option ℕ). prefer_end c.args.greedy o c.reach_if-leave.result)
    (c.reach_if-turn.ensures.value ∙ ap (λ (b : Bool). end_if b (ends_at x c.parts_at-parts.result.first c.args.place)) c.may_turn.ensures)
    ∙ ap (prefer_end c.args.greedy (end_if (has_turn c.args.most) (ends_at x c.parts_at-parts.result.first c.args.place))) c.reach_if-leave.ensures.value
    ∙ sym g.0

pub reach_item-reach-requires : goal.reach_item-reach-requires
reach_item-reach-requires t c =
    let x = c.args.ground.now in
    let ts = trees_of x.program.now in
    let item = item-is _ _ c.cell_at-at.result c.args.cell c.cell_at-at.ensures c.as_slice.ensures in
    let empty = empty-is _ _ c.cell_at-at.result c.args.cell c.cell_at-at.ensures c.as_slice.ensures in
    let at : IsTreeAt x c.args.cell nothing = record {
      inside = c.requires.cell;
      real = ap is_end (sym item ∙ c.in-Node.is);
      tree = ap (item_tree ts) (sym item ∙ c.in-Node.is) ∙ c.in-None.ensures.is;
    } in
    let g = nothing-goes x c.args.place c.args.cell (ground-of x c.args.place c.requires.ready) at c.cell_at-at.result.empty empty in
    (omega (arith, c.decreases, g.1.lower), (c.requires.ready, (g.1.there, (c.requires.known, c.requires.long))))

pub reach_item-returns-in-None-clause-value : goal.reach_item-returns-in-None-clause-value
reach_item-returns-in-None-clause-value t c =
    let x = c.args.ground.now in
    let ts = trees_of x.program.now in
    let item = item-is _ _ c.cell_at-at.result c.args.cell c.cell_at-at.ensures c.as_slice.ensures in
    let empty = empty-is _ _ c.cell_at-at.result c.args.cell c.cell_at-at.ensures c.as_slice.ensures in
    let at : IsTreeAt x c.args.cell nothing = record {
      inside = c.requires.cell;
      real = ap is_end (sym item ∙ c.in-Node.is);
      tree = ap (item_tree ts) (sym item ∙ c.in-Node.is) ∙ c.in-None.ensures.is;
    } in
    let g = nothing-goes x c.args.place c.args.cell (ground-of x c.args.place c.requires.ready) at c.cell_at-at.result.empty empty in
    c.reach.ensures.value ∙ sym g.0

pub reach_item-returns-in-End-clause-value : goal.reach_item-returns-in-End-clause-value
reach_item-returns-in-End-clause-value t c =
    let x = c.args.ground.now in
    let ts = trees_of x.program.now in
    let item = item-is _ _ c.cell_at-at.result c.args.cell c.cell_at-at.ensures c.as_slice.ensures in
    let empty = empty-is _ _ c.cell_at-at.result c.args.cell c.cell_at-at.ensures c.as_slice.ensures in
    sym (ends-end x.text.now ts x.plan.now.cells c.requires.ready.plan_is.planned.cells_are c.args.cell c.args.place
    (ap is_end (sym item ∙ c.in-End.is)) c.requires.cell)

pub reach-returns-clause-known : goal.reach-returns-clause-known
reach-returns-clause-known t c =
    known-set c.args.ground.now c.args.place c.args.cell c.reach_item-end.new.now.items c.keep.new.known.items c.reach_item-end.result c.keep.ensures
    c.reach_item-end.ensures.value c.reach_item-end.ensures.known

pub reach_node-returns-in-Sequence-clause-steps : goal.reach_node-returns-in-Sequence-clause-steps
reach_node-returns-in-Sequence-clause-steps t c =
    let x = c.args.ground.now in
    let ts = trees_of x.program.now in
    let first = first-is _ _ c.parts_at-parts.result c.args.cell c.parts_at-parts.ensures c.as_slice-2.ensures in
    let second = second-is _ _ c.parts_at-parts.result c.args.cell c.parts_at-parts.ensures c.as_slice-2.ensures in
    let empty = empty-is _ _ c.cell_at-at.result c.args.cell c.cell_at-at.ensures c.as_slice.ensures in
    let next = next-is _ _ c.cell_at-at.result c.args.cell c.cell_at-at.ensures c.as_slice.ensures in
    let g = seq-goes x c.args.place c.args.cell (ground-of x c.args.place c.requires.ready) (get_or ts c.in-Sequence.field-0 nothing) (get_or ts c.in-Sequence.field-1 nothing) (tree-more x c.args.cell _ _ (ap (node_tree ts) c.in-Sequence.is) c.requires.node) c.parts_at-parts.result.first first in
    takes-one x (suc (height_of x c.parts_at-parts.result.first)) (height_of x c.args.cell) c.args.now.now.items c.reach-in-Sequence.new.now.items c.args.count.now.made c.reach-in-Sequence.new.count.made 1 2 c.reach-in-Sequence.ensures.steps (omega (arith, g.1.lower)) (omega arith)

pub reach_node-returns-in-Nothing-clause-steps : goal.reach_node-returns-in-Nothing-clause-steps
reach_node-returns-in-Nothing-clause-steps t c =
    let x = c.args.ground.now in
    let ts = trees_of x.program.now in
    let first = first-is _ _ c.parts_at-parts.result c.args.cell c.parts_at-parts.ensures c.as_slice-2.ensures in
    let second = second-is _ _ c.parts_at-parts.result c.args.cell c.parts_at-parts.ensures c.as_slice-2.ensures in
    let empty = empty-is _ _ c.cell_at-at.result c.args.cell c.cell_at-at.ensures c.as_slice.ensures in
    let next = next-is _ _ c.cell_at-at.result c.args.cell c.cell_at-at.ensures c.as_slice.ensures in
    let g = nothing-goes x c.args.place c.args.cell (ground-of x c.args.place c.requires.ready) (tree-more x c.args.cell _ _ (ap (node_tree ts) c.in-Nothing.is) c.requires.node) c.cell_at-at.result.empty empty in
    takes-one x (suc (height_of x c.cell_at-at.result.empty)) (height_of x c.args.cell) c.args.now.now.items c.reach.new.now.items c.args.count.now.made c.reach.new.count.made 1 2 c.reach.ensures.steps (omega (arith, g.1.lower)) (omega arith)

pub reach_node-returns-in-Group-clause-steps : goal.reach_node-returns-in-Group-clause-steps
reach_node-returns-in-Group-clause-steps t c =
    let x = c.args.ground.now in
    let ts = trees_of x.program.now in
    let first = first-is _ _ c.parts_at-parts.result c.args.cell c.parts_at-parts.ensures c.as_slice-2.ensures in
    let second = second-is _ _ c.parts_at-parts.result c.args.cell c.parts_at-parts.ensures c.as_slice-2.ensures in
    let empty = empty-is _ _ c.cell_at-at.result c.args.cell c.cell_at-at.ensures c.as_slice.ensures in
    let next = next-is _ _ c.cell_at-at.result c.args.cell c.cell_at-at.ensures c.as_slice.ensures in
    let g = group-goes x c.args.place c.args.cell (ground-of x c.args.place c.requires.ready) c.in-Group.number (get_or ts c.in-Group.body nothing) (tree-more x c.args.cell _ _ (ap (node_tree ts) c.in-Group.is) c.requires.node) c.parts_at-parts.result.first first in
    takes-one x (suc (height_of x c.parts_at-parts.result.first)) (height_of x c.args.cell) c.args.now.now.items c.reach-in-Group.new.now.items c.args.count.now.made c.reach-in-Group.new.count.made 1 2 c.reach-in-Group.ensures.steps (omega (arith, g.1.lower)) (omega arith)

pub reach_node-returns-in-Some-clause-steps : goal.reach_node-returns-in-Some-clause-steps
reach_node-returns-in-Some-clause-steps t c =
    let x = c.args.ground.now in
    let ts = trees_of x.program.now in
    let first = first-is _ _ c.parts_at-parts.result c.args.cell c.parts_at-parts.ensures c.as_slice-2.ensures in
    let second = second-is _ _ c.parts_at-parts.result c.args.cell c.parts_at-parts.ensures c.as_slice-2.ensures in
    let empty = empty-is _ _ c.cell_at-at.result c.args.cell c.cell_at-at.ensures c.as_slice.ensures in
    let next = next-is _ _ c.cell_at-at.result c.args.cell c.cell_at-at.ensures c.as_slice.ensures in
    let g = alt-goes x c.args.place c.args.cell (ground-of x c.args.place c.requires.ready) (get_or ts c.in-Alternation.field-0 nothing) (get_or ts c.in-Alternation.field-1 nothing) (tree-more x c.args.cell _ _ (ap (node_tree ts) c.in-Alternation.is) c.requires.node) c.parts_at-parts.result.first c.parts_at-parts.result.second first second in
    takes-one x (suc (height_of x c.parts_at-parts.result.first)) (height_of x c.args.cell) c.args.now.now.items c.reach-in-Alternation.new.now.items c.args.count.now.made c.reach-in-Alternation.new.count.made 1 2 c.reach-in-Alternation.ensures.steps (omega (arith, g.1.lower)) (omega arith)

pub reach_node-returns-in_default-clause-steps : goal.reach_node-returns-in_default-clause-steps
reach_node-returns-in_default-clause-steps t c =
    let x = c.args.ground.now in
    let ts = trees_of x.program.now in
    let first = first-is _ _ c.parts_at-parts.result c.args.cell c.parts_at-parts.ensures c.as_slice-2.ensures in
    let second = second-is _ _ c.parts_at-parts.result c.args.cell c.parts_at-parts.ensures c.as_slice-2.ensures in
    let empty = empty-is _ _ c.cell_at-at.result c.args.cell c.cell_at-at.ensures c.as_slice.ensures in
    let next = next-is _ _ c.cell_at-at.result c.args.cell c.cell_at-at.ensures c.as_slice.ensures in
    let g = alt-goes x c.args.place c.args.cell (ground-of x c.args.place c.requires.ready) (get_or ts c.in-Alternation.field-0 nothing) (get_or ts c.in-Alternation.field-1 nothing) (tree-more x c.args.cell _ _ (ap (node_tree ts) c.in-Alternation.is) c.requires.node) c.parts_at-parts.result.first c.parts_at-parts.result.second first second in
    takes-both x (suc (height_of x c.parts_at-parts.result.first)) (suc (height_of x c.parts_at-parts.result.second)) (height_of x c.args.cell) c.args.now.now.items c.reach-in-Alternation.new.now.items c.reach-in-Alternation-2.new.now.items c.args.count.now.made c.reach-in-Alternation.new.count.made c.reach-in-Alternation-2.new.count.made c.reach-in-Alternation.ensures.steps c.reach-in-Alternation-2.ensures.steps (omega (arith, g.1.lower)) (omega (arith, g.2.lower))

pub reach_node-returns-in-Anchor-clause-steps : goal.reach_node-returns-in-Anchor-clause-steps
reach_node-returns-in-Anchor-clause-steps t c =
    let x = c.args.ground.now in
    let ts = trees_of x.program.now in
    let first = first-is _ _ c.parts_at-parts.result c.args.cell c.parts_at-parts.ensures c.as_slice-2.ensures in
    let second = second-is _ _ c.parts_at-parts.result c.args.cell c.parts_at-parts.ensures c.as_slice-2.ensures in
    let empty = empty-is _ _ c.cell_at-at.result c.args.cell c.cell_at-at.ensures c.as_slice.ensures in
    let next = next-is _ _ c.cell_at-at.result c.args.cell c.cell_at-at.ensures c.as_slice.ensures in
    let g = anchor-goes x c.args.place c.args.cell (ground-of x c.args.place c.requires.ready) c.in-Anchor.anchor (tree-more x c.args.cell _ _ (ap (node_tree ts) c.in-Anchor.is) c.requires.node) c.cell_at-at.result.empty empty in
    takes-one x (height_of x c.args.cell) (height_of x c.args.cell) c.args.now.now.items c.reach_if.new.now.items c.args.count.now.made c.reach_if.new.count.made 1 2 (c.reach_if.ensures.steps (height_of x c.args.cell) (λ z. g.1.lower)) (omega arith) (omega arith)

pub reach_node-returns-in-Behind-clause-steps : goal.reach_node-returns-in-Behind-clause-steps
reach_node-returns-in-Behind-clause-steps t c =
    let x = c.args.ground.now in
    let ts = trees_of x.program.now in
    let first = first-is _ _ c.parts_at-parts.result c.args.cell c.parts_at-parts.ensures c.as_slice-2.ensures in
    let second = second-is _ _ c.parts_at-parts.result c.args.cell c.parts_at-parts.ensures c.as_slice-2.ensures in
    let empty = empty-is _ _ c.cell_at-at.result c.args.cell c.cell_at-at.ensures c.as_slice.ensures in
    let next = next-is _ _ c.cell_at-at.result c.args.cell c.cell_at-at.ensures c.as_slice.ensures in
    let g = behind-goes x c.args.place c.args.cell (ground-of x c.args.place c.requires.ready) c.in-Behind.negated (get_or ts c.in-Behind.body nothing) (tree-more x c.args.cell _ _ (ap (node_tree ts) c.in-Behind.is) c.requires.node) c.parts_at-parts.result.first c.cell_at-at.result.empty c.flag_at-found.result first empty c.flag_at-found.ensures in
    takes-one x (height_of x c.args.cell) (height_of x c.args.cell) c.args.now.now.items c.reach_if-in-Behind.new.now.items c.args.count.now.made c.reach_if-in-Behind.new.count.made 1 2 (c.reach_if-in-Behind.ensures.steps (height_of x c.args.cell) (λ z. g.1.lower)) (omega arith) (omega arith)

pub reach_node-returns-in-Ahead-clause-steps : goal.reach_node-returns-in-Ahead-clause-steps
reach_node-returns-in-Ahead-clause-steps t c =
    let x = c.args.ground.now in
    let ts = trees_of x.program.now in
    let first = first-is _ _ c.parts_at-parts.result c.args.cell c.parts_at-parts.ensures c.as_slice-2.ensures in
    let second = second-is _ _ c.parts_at-parts.result c.args.cell c.parts_at-parts.ensures c.as_slice-2.ensures in
    let empty = empty-is _ _ c.cell_at-at.result c.args.cell c.cell_at-at.ensures c.as_slice.ensures in
    let next = next-is _ _ c.cell_at-at.result c.args.cell c.cell_at-at.ensures c.as_slice.ensures in
    let g = ahead-goes x c.args.place c.args.cell (ground-of x c.args.place c.requires.ready) c.in-Ahead.negated (get_or ts c.in-Ahead.body nothing) (tree-more x c.args.cell _ _ (ap (node_tree ts) c.in-Ahead.is) c.requires.node) c.parts_at-parts.result.first c.cell_at-at.result.empty first empty in
    let found : c.is_some-found.result ≡ is_some (ends_at x c.parts_at-parts.result.first c.args.place) = c.is_some-found.ensures ∙ ap is_some c.reach-in-Ahead.ensures.value in
    takes-both x (suc (height_of x c.parts_at-parts.result.first)) (height_of x c.args.cell) (height_of x c.args.cell) c.args.now.now.items c.reach-in-Ahead.new.now.items c.reach_if-in-Ahead.new.now.items c.args.count.now.made c.reach-in-Ahead.new.count.made c.reach_if-in-Ahead.new.count.made c.reach-in-Ahead.ensures.steps (c.reach_if-in-Ahead.ensures.steps (height_of x c.args.cell) (λ z. g.2.lower)) (omega (arith, g.1.lower)) (omega arith)

pub reach_node-returns-in_err-end-in-Atomic-clause-steps : goal.reach_node-returns-in_err-end-in-Atomic-clause-steps
reach_node-returns-in_err-end-in-Atomic-clause-steps t c =
    let x = c.args.ground.now in
    let ts = trees_of x.program.now in
    let first = first-is _ _ c.parts_at-parts.result c.args.cell c.parts_at-parts.ensures c.as_slice-2.ensures in
    let second = second-is _ _ c.parts_at-parts.result c.args.cell c.parts_at-parts.ensures c.as_slice-2.ensures in
    let empty = empty-is _ _ c.cell_at-at.result c.args.cell c.cell_at-at.ensures c.as_slice.ensures in
    let next = next-is _ _ c.cell_at-at.result c.args.cell c.cell_at-at.ensures c.as_slice.ensures in
    let g = atomic-goes x c.args.place c.args.cell c.requires.ready (get_or ts c.in-Atomic.field-0 nothing) (tree-more x c.args.cell _ _ (ap (node_tree ts) c.in-Atomic.is) c.requires.node) c.parts_at-parts.result.first c.cell_at-at.result.empty c.cell_at-at.result.next first empty next in
    takes-one x (suc (height_of x c.parts_at-parts.result.first)) (height_of x c.args.cell) c.args.now.now.items c.reach-in-Atomic.new.now.items c.args.count.now.made c.reach-in-Atomic.new.count.made 1 2 c.reach-in-Atomic.ensures.steps (omega (arith, g.0.lower)) (omega arith)

pub reach_node-returns-else-end-place-clause-steps : goal.reach_node-returns-else-end-place-clause-steps
reach_node-returns-else-end-place-clause-steps t c =
    let x = c.args.ground.now in
    let ts = trees_of x.program.now in
    let first = first-is _ _ c.parts_at-parts.result c.args.cell c.parts_at-parts.ensures c.as_slice-2.ensures in
    let second = second-is _ _ c.parts_at-parts.result c.args.cell c.parts_at-parts.ensures c.as_slice-2.ensures in
    let empty = empty-is _ _ c.cell_at-at.result c.args.cell c.cell_at-at.ensures c.as_slice.ensures in
    let next = next-is _ _ c.cell_at-at.result c.args.cell c.cell_at-at.ensures c.as_slice.ensures in
    let g = atomic-goes x c.args.place c.args.cell c.requires.ready (get_or ts c.in-Atomic.field-0 nothing) (tree-more x c.args.cell _ _ (ap (node_tree ts) c.in-Atomic.is) c.requires.node) c.parts_at-parts.result.first c.cell_at-at.result.empty c.cell_at-at.result.next first empty next in
    takes-one x (suc (height_of x c.parts_at-parts.result.first)) (height_of x c.args.cell) c.args.now.now.items c.reach-in-Atomic.new.now.items c.args.count.now.made c.reach-in-Atomic.new.count.made 1 2 c.reach-in-Atomic.ensures.steps (omega (arith, g.0.lower)) (omega arith)

pub reach_node-returns-then-end-place-clause-steps : goal.reach_node-returns-then-end-place-clause-steps
reach_node-returns-then-end-place-clause-steps t c =
    let x = c.args.ground.now in
    let ts = trees_of x.program.now in
    let first = first-is _ _ c.parts_at-parts.result c.args.cell c.parts_at-parts.ensures c.as_slice-2.ensures in
    let second = second-is _ _ c.parts_at-parts.result c.args.cell c.parts_at-parts.ensures c.as_slice-2.ensures in
    let empty = empty-is _ _ c.cell_at-at.result c.args.cell c.cell_at-at.ensures c.as_slice.ensures in
    let next = next-is _ _ c.cell_at-at.result c.args.cell c.cell_at-at.ensures c.as_slice.ensures in
    let g = atomic-goes x c.args.place c.args.cell c.requires.ready (get_or ts c.in-Atomic.field-0 nothing) (tree-more x c.args.cell _ _ (ap (node_tree ts) c.in-Atomic.is) c.requires.node) c.parts_at-parts.result.first c.cell_at-at.result.empty c.cell_at-at.result.next first empty next in
    let h = g.2 c.in_ok-end-in-Atomic.end (sym c.in_ok-end-in-Atomic.ensures.value) c.if-end-place.true in
    takes-both x (suc (height_of x c.parts_at-parts.result.first)) (suc (height_of x c.cell_at-at.result.empty)) (height_of x c.args.cell) c.args.now.now.items c.reach-in-Atomic.new.now.items c.reach-then-end-place.new.now.items c.args.count.now.made c.reach-in-Atomic.new.count.made c.reach-then-end-place.new.count.made c.reach-in-Atomic.ensures.steps c.reach-then-end-place.ensures.steps (omega (arith, g.0.lower)) (omega (arith, h.1.lower))

pub reach_loop-returns-clause-steps : goal.reach_loop-returns-clause-steps
reach_loop-returns-clause-steps t c =
    let x = c.args.ground.now in
    let ts = trees_of x.program.now in
    let first = first-is _ _ c.parts_at-parts.result c.args.cell c.parts_at-parts.ensures c.as_slice-2.ensures in
    let second = second-is _ _ c.parts_at-parts.result c.args.cell c.parts_at-parts.ensures c.as_slice-2.ensures in
    let empty = empty-is _ _ c.cell_at-at.result c.args.cell c.cell_at-at.ensures c.as_slice.ensures in
    let next = next-is _ _ c.cell_at-at.result c.args.cell c.cell_at-at.ensures c.as_slice.ensures in
    let g = loop-goes x c.args.place c.args.cell (ground-of x c.args.place c.requires.ready) c.args.greedy c.args.least c.args.most c.requires.turns.body c.requires.turns.at c.parts_at-parts.result.first c.cell_at-at.result.empty first empty in
    takes-both x (height_of x c.args.cell) (height_of x c.args.cell) (height_of x c.args.cell) c.args.now.now.items c.reach_if-turn.new.now.items c.reach_if-leave.new.now.items c.args.count.now.made c.reach_if-turn.new.count.made c.reach_if-leave.new.count.made (c.reach_if-turn.ensures.steps (height_of x c.args.cell) (λ z. (g.1 (sym c.may_turn.ensures ∙ z)).lower)) (c.reach_if-leave.ensures.steps (height_of x c.args.cell) (λ z. (g.2 z).lower)) (omega arith) (omega arith)

pub reach_item-returns-in-None-clause-steps : goal.reach_item-returns-in-None-clause-steps
reach_item-returns-in-None-clause-steps t c =
    let x = c.args.ground.now in
    let ts = trees_of x.program.now in
    let item = item-is _ _ c.cell_at-at.result c.args.cell c.cell_at-at.ensures c.as_slice.ensures in
    let empty = empty-is _ _ c.cell_at-at.result c.args.cell c.cell_at-at.ensures c.as_slice.ensures in
    let at : IsTreeAt x c.args.cell nothing = record {
      inside = c.requires.cell;
      real = ap is_end (sym item ∙ c.in-Node.is);
      tree = ap (item_tree ts) (sym item ∙ c.in-Node.is) ∙ c.in-None.ensures.is;
    } in
    let g = nothing-goes x c.args.place c.args.cell (ground-of x c.args.place c.requires.ready) at c.cell_at-at.result.empty empty in
    takes-one x (suc (height_of x c.cell_at-at.result.empty)) (height_of x c.args.cell) c.args.now.now.items c.reach.new.now.items c.args.count.now.made c.reach.new.count.made 1 2 c.reach.ensures.steps (omega (arith, g.1.lower)) (omega arith)

pub reach-returns-clause-steps : goal.reach-returns-clause-steps
reach-returns-clause-steps t c =
    let x = c.args.ground.now in
    takes-keep x c.args.cell c.args.now.now.items c.reach_item-end.new.now.items c.keep.new.known.items c.args.count.now.made c.tick.new.self.made c.reach_item-end.new.count.made c.reach_item-end.result
    c.tick.ensures c.reach_item-end.ensures.steps
    (ap (λ (l : List (Option (Option ℕ))). get_or l c.args.cell None) (sym c.as_slice.ensures.value) ∙ sym c.known_at.ensures ∙ none-if c.known_at.result c.in_default.not-Some) (omega (arith, c.requires.cell, c.requires.long)) c.keep.ensures
