use Rattle.std.proofs.Common.{◌≡◌, List, ap, subst, sym, ◌∙◌, get_or}
use Rattle.syntect_pattern_plan.specs.syntect_pattern.Trees.{nothing}
use Rattle.syntect_pattern_plan.specs.Cells.{cell_at}
use Rattle.syntect_pattern_plan.specs.Facts.{AreFacts}
use Rattle.syntect_pattern_plan.specs.declared.cells.Cell.{Cell}
use Rattle.syntect_pattern_plan.specs.declared.facts.Facts.{Facts}
use Rattle.syntect_pattern_plan.specs.declared.plan.Plan.{Plan}
use Rattle.syntect_pattern_plan.proofs.MakesLaws.{beside-seq}
use Rattle.syntect_pattern_plan.proofs.plan.Plan.beside_sequence.Goals as goal

pub returns-clause-step : goal.returns-clause-step
returns-clause-step c = λ ts g facts b l s.
    let old = c.args.self.now in
    let mid = c.push_beside.new.self in
    let new = c.push_beside-2.new.self in
    let same : mid.facts ≡ old.facts = ap (λ (p : Plan). p.facts) c.in_ok-at.ensures.others in
    let bs : new.behinds ≡ old.behinds = ap (λ (p : Plan). p.behinds) c.in_ok-first.ensures.others ∙ ap (λ (p : Plan). p.behinds) c.in_ok-at.ensures.others in
    let facts' : AreFacts mid.facts ts = subst (λ (fs : List Facts). AreFacts fs ts) (sym same) facts in
    let behind : c.cell_at-behind.result.next ≡ (cell_at old.cells c.args.parts.first).next =
    ap (λ (x : Cell). x.next) (c.cell_at-behind.ensures ∙ ap (λ (cs : List Cell). cell_at cs c.args.parts.first) c.as_slice.ensures) in
    rw bs
    (beside-seq ts old.cells old.behinds c.args.empty g c.args.parts b l mid.cells new.cells (get_or ts c.args.first nothing) (get_or ts c.args.second nothing)
    c.cell_at-behind.result.next c.in_ok-at.at c.in_ok-first.first behind
    (λ e n b l p. c.in_ok-at.ensures.cell ts e n facts b l p)
    (λ e n b l p. c.in_ok-first.ensures.cell ts e n facts' b l p)
    s)
