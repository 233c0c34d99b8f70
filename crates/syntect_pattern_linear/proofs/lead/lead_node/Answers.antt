use Rattle.std.proofs.Common.{◌≡◌, Bool, get_or, ap, sym, ◌∙◌}
use Rattle.std.specs.Prelude.{is_some, if◌then◌else◌, not}
use Rattle.std.specs.Option.{option_or}
use Rattle.syntect_pattern_linear.specs.syntect_pattern.Sets.{range}
use Rattle.syntect_pattern_linear.specs.syntect_pattern.Trees.{nothing}
use Rattle.syntect_pattern_linear.specs.syntect_pattern_table.Program.{trees_of}
use Rattle.syntect_pattern_linear.specs.syntect_pattern_table.Table.{node_tree, set_of}
use Rattle.syntect_pattern_plan.specs.Onward.{end_if}
use Rattle.syntect_pattern_linear.specs.Ground.{ends_at}
use Rattle.syntect_pattern_linear.proofs.GroundLaws.{nothing-goes, anchor-goes, seq-goes, alt-goes, group-goes, ahead-goes, behind-goes, first-is, second-is, empty-is, next-is, tree-more}
use Rattle.syntect_pattern_linear.proofs.LeadLaws.{same-lead, char-leads}
use Rattle.syntect_pattern_linear.proofs.lead.lead_node.Goals as goal

pub returns-in-Nothing : goal.returns-in-Nothing
returns-in-Nothing c =
    let x = c.args.ground.now in
    let ts = trees_of x.program.now in
    let first = first-is _ _ c.parts_at-parts.result c.args.cell c.parts_at-parts.ensures c.as_slice-2.ensures in
    let second = second-is _ _ c.parts_at-parts.result c.args.cell c.parts_at-parts.ensures c.as_slice-2.ensures in
    let empty = empty-is _ _ c.cell_at-at.result c.args.cell c.cell_at-at.ensures c.as_slice.ensures in
    let next = next-is _ _ c.cell_at-at.result c.args.cell c.cell_at-at.ensures c.as_slice.ensures in
    let g = nothing-goes x c.args.place c.args.cell c.requires.marked.ground (tree-more x c.args.cell _ _ (ap (node_tree ts) c.in-Nothing.is) c.requires.node) c.cell_at-at.result.empty empty in
    same-lead c.lead.result (is_some (ends_at x c.cell_at-at.result.empty c.args.place)) _ (ap is_some (sym g.0)) c.lead.ensures

pub returns-in-Char : goal.returns-in-Char
returns-in-Char c =
    let x = c.args.ground.now in
    let ts = trees_of x.program.now in
    let first = first-is _ _ c.parts_at-parts.result c.args.cell c.parts_at-parts.ensures c.as_slice-2.ensures in
    let second = second-is _ _ c.parts_at-parts.result c.args.cell c.parts_at-parts.ensures c.as_slice-2.ensures in
    let empty = empty-is _ _ c.cell_at-at.result c.args.cell c.cell_at-at.ensures c.as_slice.ensures in
    let next = next-is _ _ c.cell_at-at.result c.args.cell c.cell_at-at.ensures c.as_slice.ensures in
    c.lead_past.ensures ∙ char-leads x c.args.marks.now c.args.place c.args.cell c.requires.marked (range c.in-Char.wanted c.in-Char.wanted) (tree-more x c.args.cell _ _ (ap (node_tree ts) c.in-Char.is) c.requires.node) c.cell_at-at.result.next c.past_char-next.result next c.past_char-next.ensures.value c.past_char-next.ensures.boundary

pub returns-in-Class : goal.returns-in-Class
returns-in-Class c =
    let x = c.args.ground.now in
    let ts = trees_of x.program.now in
    let first = first-is _ _ c.parts_at-parts.result c.args.cell c.parts_at-parts.ensures c.as_slice-2.ensures in
    let second = second-is _ _ c.parts_at-parts.result c.args.cell c.parts_at-parts.ensures c.as_slice-2.ensures in
    let empty = empty-is _ _ c.cell_at-at.result c.args.cell c.cell_at-at.ensures c.as_slice.ensures in
    let next = next-is _ _ c.cell_at-at.result c.args.cell c.cell_at-at.ensures c.as_slice.ensures in
    c.lead_past-in-Class.ensures ∙ char-leads x c.args.marks.now c.args.place c.args.cell c.requires.marked (set_of c.in-Class.class) (tree-more x c.args.cell _ _ (ap (node_tree ts) c.in-Class.is) c.requires.node) c.cell_at-at.result.next c.past_class-next.result next c.past_class-next.ensures.value c.past_class-next.ensures.boundary

pub returns-in-Anchor : goal.returns-in-Anchor
returns-in-Anchor c =
    let x = c.args.ground.now in
    let ts = trees_of x.program.now in
    let first = first-is _ _ c.parts_at-parts.result c.args.cell c.parts_at-parts.ensures c.as_slice-2.ensures in
    let second = second-is _ _ c.parts_at-parts.result c.args.cell c.parts_at-parts.ensures c.as_slice-2.ensures in
    let empty = empty-is _ _ c.cell_at-at.result c.args.cell c.cell_at-at.ensures c.as_slice.ensures in
    let next = next-is _ _ c.cell_at-at.result c.args.cell c.cell_at-at.ensures c.as_slice.ensures in
    let g = anchor-goes x c.args.place c.args.cell c.requires.marked.ground c.in-Anchor.anchor (tree-more x c.args.cell _ _ (ap (node_tree ts) c.in-Anchor.is) c.requires.node) c.cell_at-at.result.empty empty in
    same-lead c.lead_if.result (is_some (end_if c.anchor_holds-holds.result (ends_at x c.cell_at-at.result.empty c.args.place))) _ (ap (λ (b : Bool). is_some (end_if b (ends_at x c.cell_at-at.result.empty c.args.place))) c.anchor_holds-holds.ensures ∙ ap is_some (sym g.0)) c.lead_if.ensures

pub returns-in-Sequence : goal.returns-in-Sequence
returns-in-Sequence c =
    let x = c.args.ground.now in
    let ts = trees_of x.program.now in
    let first = first-is _ _ c.parts_at-parts.result c.args.cell c.parts_at-parts.ensures c.as_slice-2.ensures in
    let second = second-is _ _ c.parts_at-parts.result c.args.cell c.parts_at-parts.ensures c.as_slice-2.ensures in
    let empty = empty-is _ _ c.cell_at-at.result c.args.cell c.cell_at-at.ensures c.as_slice.ensures in
    let next = next-is _ _ c.cell_at-at.result c.args.cell c.cell_at-at.ensures c.as_slice.ensures in
    let g = seq-goes x c.args.place c.args.cell c.requires.marked.ground (get_or ts c.in-Sequence.field-0 nothing) (get_or ts c.in-Sequence.field-1 nothing) (tree-more x c.args.cell _ _ (ap (node_tree ts) c.in-Sequence.is) c.requires.node) c.parts_at-parts.result.first first in
    same-lead c.lead-in-Sequence.result (is_some (ends_at x c.parts_at-parts.result.first c.args.place)) _ (ap is_some (sym g.0)) c.lead-in-Sequence.ensures

pub returns-in-Alternation : goal.returns-in-Alternation
returns-in-Alternation c =
    let x = c.args.ground.now in
    let ts = trees_of x.program.now in
    let first = first-is _ _ c.parts_at-parts.result c.args.cell c.parts_at-parts.ensures c.as_slice-2.ensures in
    let second = second-is _ _ c.parts_at-parts.result c.args.cell c.parts_at-parts.ensures c.as_slice-2.ensures in
    let g = alt-goes x c.args.place c.args.cell c.requires.marked.ground (get_or ts c.in-Alternation.field-0 nothing) (get_or ts c.in-Alternation.field-1 nothing) (tree-more x c.args.cell _ _ (ap (node_tree ts) c.in-Alternation.is) c.requires.node) c.parts_at-parts.result.first c.parts_at-parts.result.second first second in
    same-lead c.lead_either.result (is_some (option_or (ends_at x c.parts_at-parts.result.first c.args.place) (ends_at x c.parts_at-parts.result.second c.args.place))) _ (ap is_some (sym g.0)) c.lead_either.ensures

pub returns-in-Group : goal.returns-in-Group
returns-in-Group c =
    let x = c.args.ground.now in
    let ts = trees_of x.program.now in
    let first = first-is _ _ c.parts_at-parts.result c.args.cell c.parts_at-parts.ensures c.as_slice-2.ensures in
    let second = second-is _ _ c.parts_at-parts.result c.args.cell c.parts_at-parts.ensures c.as_slice-2.ensures in
    let empty = empty-is _ _ c.cell_at-at.result c.args.cell c.cell_at-at.ensures c.as_slice.ensures in
    let next = next-is _ _ c.cell_at-at.result c.args.cell c.cell_at-at.ensures c.as_slice.ensures in
    let g = group-goes x c.args.place c.args.cell c.requires.marked.ground c.in-Group.number (get_or ts c.in-Group.body nothing) (tree-more x c.args.cell _ _ (ap (node_tree ts) c.in-Group.is) c.requires.node) c.parts_at-parts.result.first first in
    same-lead c.lead-in-Group.result (is_some (ends_at x c.parts_at-parts.result.first c.args.place)) _ (ap is_some (sym g.0)) c.lead-in-Group.ensures

pub returns-in_ok-found-in-Ahead : goal.returns-in_ok-found-in-Ahead
returns-in_ok-found-in-Ahead c =
    let x = c.args.ground.now in
    let ts = trees_of x.program.now in
    let first = first-is _ _ c.parts_at-parts.result c.args.cell c.parts_at-parts.ensures c.as_slice-2.ensures in
    let second = second-is _ _ c.parts_at-parts.result c.args.cell c.parts_at-parts.ensures c.as_slice-2.ensures in
    let empty = empty-is _ _ c.cell_at-at.result c.args.cell c.cell_at-at.ensures c.as_slice.ensures in
    let next = next-is _ _ c.cell_at-at.result c.args.cell c.cell_at-at.ensures c.as_slice.ensures in
    let g = ahead-goes x c.args.place c.args.cell c.requires.marked.ground c.in-Ahead.negated (get_or ts c.in-Ahead.body nothing) (tree-more x c.args.cell _ _ (ap (node_tree ts) c.in-Ahead.is) c.requires.node) c.parts_at-parts.result.first c.cell_at-at.result.empty first empty in
    let found : c.in_ok-found-in-Ahead.found ≡ is_some (ends_at x c.parts_at-parts.result.first c.args.place) = c.in_ok-found-in-Ahead.ensures in
    same-lead c.lead_if-in-Ahead.result (is_some (end_if c.looks.result (ends_at x c.cell_at-at.result.empty c.args.place))) _
    (ap (λ (b : Bool). is_some (end_if b (ends_at x c.cell_at-at.result.empty c.args.place))) (c.looks.ensures ∙ ap (λ (b : Bool). if c.in-Ahead.negated then not b else b) found) ∙ ap is_some (sym g.0)) c.lead_if-in-Ahead.ensures

pub returns-in-Behind : goal.returns-in-Behind
returns-in-Behind c =
    let x = c.args.ground.now in
    let ts = trees_of x.program.now in
    let first = first-is _ _ c.parts_at-parts.result c.args.cell c.parts_at-parts.ensures c.as_slice-2.ensures in
    let second = second-is _ _ c.parts_at-parts.result c.args.cell c.parts_at-parts.ensures c.as_slice-2.ensures in
    let empty = empty-is _ _ c.cell_at-at.result c.args.cell c.cell_at-at.ensures c.as_slice.ensures in
    let next = next-is _ _ c.cell_at-at.result c.args.cell c.cell_at-at.ensures c.as_slice.ensures in
    let g = behind-goes x c.args.place c.args.cell c.requires.marked.ground c.in-Behind.negated (get_or ts c.in-Behind.body nothing) (tree-more x c.args.cell _ _ (ap (node_tree ts) c.in-Behind.is) c.requires.node) c.parts_at-parts.result.first c.cell_at-at.result.empty c.flag_at-found.result first empty c.flag_at-found.ensures in
    same-lead c.lead_if-in-Behind.result (is_some (end_if c.looks-in-Behind.result (ends_at x c.cell_at-at.result.empty c.args.place))) _
    (ap (λ (b : Bool). is_some (end_if b (ends_at x c.cell_at-at.result.empty c.args.place))) c.looks-in-Behind.ensures ∙ ap is_some (sym g.0)) c.lead_if-in-Behind.ensures
