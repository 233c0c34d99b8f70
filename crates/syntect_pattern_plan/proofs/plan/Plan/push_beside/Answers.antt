use Rattle.std.proofs.Common.{◌≡◌, List, true, false, ap, sym, ◌∙◌, get_or}
use Rattle.syntect_pattern_plan.specs.syntect_pattern.Trees.{Tree, nothing}
use Rattle.syntect_pattern_plan.specs.Onward.{reads}
use Rattle.syntect_pattern_plan.specs.Cells.{cell_at, partner_of}
use Rattle.syntect_pattern_plan.specs.Facts.{AreFacts, facts_at}
use Rattle.syntect_pattern_plan.specs.declared.cells.Cell.{Cell}
use Rattle.syntect_pattern_plan.specs.declared.facts.Facts.{Facts}
use Rattle.syntect_pattern_plan.proofs.BuildLaws.{ok-both, adds-here, adds-beside}
use Rattle.syntect_pattern_plan.proofs.plan.Plan.push_beside.Goals as goal

pub returns-then-facts_at-clause-cell : goal.returns-then-facts_at-clause-cell
returns-then-facts_at-clause-cell c = λ ts f g facts b l p.
    let reading : reads (get_or ts c.args.node nothing) ≡ true =
    sym (ap (λ (x : Facts). x.reads) (c.facts_at.ensures ∙ ap (λ (fs : List Facts). facts_at fs c.args.node) c.as_slice.ensures ∙ facts c.args.node)) ∙ c.if-facts_at.true in
    adds-here ts c.args.self.now.cells (get_or ts c.args.node nothing) c.args.empty f g c.args.cell reading b p

pub returns-clause-cell : goal.returns-clause-cell
returns-clause-cell c =
    let old = c.args.self.now in
    let next : c.cell_at-next.result.next ≡ (cell_at old.cells c.args.cell).next =
    ap (λ (x : Cell). x.next) (c.cell_at-next.ensures ∙ ap (λ (cs : List Cell). cell_at cs c.args.cell) c.as_slice-2.ensures) in
    let partner : c.partner_of-partner.result ≡ partner_of old.cells c.args.cell =
    c.partner_of-partner.ensures ∙ ap (λ (cs : List Cell). partner_of cs c.args.cell) c.as_slice-3.ensures in
    let reading : (ts : List Tree) → AreFacts old.facts ts → reads (get_or ts c.args.node nothing) ≡ false =
    λ ts facts. sym (ap (λ (x : Facts). x.reads) (c.facts_at.ensures ∙ ap (λ (fs : List Facts). facts_at fs c.args.node) c.as_slice.ensures ∙ facts c.args.node)) ∙ c.if-facts_at.false in
    ok-both c.push.result _ _ _
    (λ k number cells ts f g facts b l p.
    adds-beside ts old.cells c.push.new.self.cells c.args.node c.args.cell c.args.empty c.cell_at-next.result.next c.partner_of-partner.result k f g
    (reading ts facts) next partner number cells b l p)
    c.push.ensures.number c.push.ensures.cells
