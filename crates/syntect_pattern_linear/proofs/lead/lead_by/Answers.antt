use Rattle.std.proofs.Common.{ap, sym, ◌∙◌}
use Rattle.std.specs.Prelude.{is_some}
use Rattle.syntect_pattern_linear.specs.syntect_pattern.Trees.{nothing}
use Rattle.syntect_pattern_linear.specs.syntect_pattern_table.Program.{trees_of}
use Rattle.syntect_pattern_plan.proofs.CellLaws.{ends-end}
use Rattle.syntect_pattern_plan.specs.Cells.{is_end, item_tree}
use Rattle.syntect_pattern_linear.specs.Ground.{ends_at}
use Rattle.syntect_pattern_linear.specs.Step.{IsTreeAt}
use Rattle.syntect_pattern_linear.proofs.LeadLaws.{same-lead}
use Rattle.syntect_pattern_linear.proofs.GroundLaws.{nothing-goes, empty-is, item-is}
use Rattle.syntect_pattern_linear.proofs.lead.lead_by.Goals as goal

pub returns-in-End : goal.returns-in-End
returns-in-End c =
    let x = c.args.ground.now in
    let item = item-is _ _ c.cell_at-at.result c.args.cell c.cell_at-at.ensures c.as_slice.ensures in
    ap is_some (sym (ends-end x.text.now (trees_of x.program.now) x.plan.now.cells c.requires.marked.ground.plan_is.planned.cells_are c.args.cell c.args.place
    (ap is_end (sym item ∙ c.in-End.is)) c.requires.cell))

pub returns-in-None : goal.returns-in-None
returns-in-None c =
    let x = c.args.ground.now in
    let ts = trees_of x.program.now in
    let item = item-is _ _ c.cell_at-at.result c.args.cell c.cell_at-at.ensures c.as_slice.ensures in
    let empty = empty-is _ _ c.cell_at-at.result c.args.cell c.cell_at-at.ensures c.as_slice.ensures in
    let at : IsTreeAt x c.args.cell nothing = record {
      inside = c.requires.cell;
      real = ap is_end (sym item ∙ c.in-Node.is);
      tree = ap (item_tree ts) (sym item ∙ c.in-Node.is) ∙ c.in-None.ensures.is;
    } in
    let g = nothing-goes x c.args.place c.args.cell c.requires.marked.ground at c.cell_at-at.result.empty empty in
    same-lead c.lead.result (is_some (ends_at x c.cell_at-at.result.empty c.args.place)) _ (ap is_some (sym g.0)) c.lead.ensures
