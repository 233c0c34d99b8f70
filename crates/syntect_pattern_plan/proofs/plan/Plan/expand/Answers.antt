use Rattle.std.proofs.Common.{◌≡◌, ◌<◌, ◌∙◌, ℕ, List, ap, subst, sym, arith}
use Rattle.syntect_pattern_plan.specs.syntect_pattern_table.Program.{trees_of}
use Rattle.syntect_pattern_steps.proofs.OkLaws.{if_ok_map}
use Rattle.syntect_pattern_plan.specs.Cells.{cell_at, parts_at}
use Rattle.syntect_pattern_plan.specs.Plan.{IsStepOf}
use Rattle.syntect_pattern_plan.specs.declared.cells.Cell.{Cell}
use Rattle.syntect_pattern_plan.specs.declared.cells.Parts.{Parts}
use Rattle.syntect_pattern_plan.proofs.MakesLaws.{expands-beside}
use Rattle.syntect_pattern_plan.proofs.plan.Plan.expand.Goals as goal

pub returns-in-Beside-clause-step : goal.returns-in-Beside-clause-step
returns-in-Beside-clause-step c =
    let ts = trees_of c.args.program.now in
    let old = c.args.self.now in
    let new = c.beside_parts.new.self in
    let from : ℕ = c.in-Beside.from in
    let is : cell_at old.cells c.args.number ≡ c.cell_at-cell.result =
    sym (c.cell_at-cell.ensures ∙ ap (λ (cs : List Cell). cell_at cs c.args.number) c.as_slice.ensures) in
    let there : c.parts_at-parts.result ≡ parts_at old.parts from =
    c.parts_at-parts.ensures ∙ ap (λ (ps : List Parts). parts_at ps from) c.as_slice-in-Beside.ensures in
    let P : Parts → Type 0 = λ x. IsStepOf ts old.cells old.behinds from x in
    let steps : from < c.args.number → IsStepOf ts old.cells old.behinds from c.parts_at-parts.result =
    λ l. subst P (sym there) (c.requires.planned.steps from (let e = c.requires.first in omega (arith, l, e))) in
    if_ok_map c.beside_parts.result _ _
    (λ p h.
    expands-beside ts old.cells new.cells old.behinds new.behinds c.args.number c.cell_at-cell.result from c.parts_at-parts.result p
    is c.in-Beside.is c.requires.built c.requires.inside steps (λ g b l s. h g c.requires.facts b l s))
    c.beside_parts.ensures.step
