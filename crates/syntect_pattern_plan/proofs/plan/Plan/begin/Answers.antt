use Rattle.std.proofs.Common.{◌≡◌, List, [], ◌++◌, ◌∷◌, ap, ◌∙◌}
use Rattle.syntect_pattern_plan.specs.syntect_pattern_table.Program.{trees_of}
use Rattle.syntect_pattern_plan.specs.Cells.{last_cell}
use Rattle.syntect_pattern_plan.specs.declared.cells.Cell.{Cell}
use Rattle.syntect_pattern_plan.specs.declared.plan.Plan.{Plan}
use Rattle.syntect_pattern_plan.proofs.PlanLaws.{planned-begin}
use Rattle.syntect_pattern_plan.proofs.plan.Plan.begin.Goals as goal

pub returns-clause-planned : goal.returns-clause-planned
returns-clause-planned c =
    let new = c.push_own.new.self in
    let ts = trees_of c.args.program.now in
    let cells : c.push.new.self ≡ last_cell ∷ [] = c.in_ok-push.ensures.ok ∙ ap (λ (cs : List Cell). cs ++ last_cell ∷ []) c.new-cells.ensures in
    let parts : new.parts ≡ [] = ap (λ (p : Plan). p.parts) c.in_ok-push_own.ensures.others ∙ c.new.ensures in
    planned-begin ts c.push.new.self new.cells c.args.program.now.root c.in_ok-push_own.field-0 cells c.requires.free (λ b l f. c.in_ok-push_own.ensures.cell ts b l f)
    new.parts new.behinds c.in_ok-push_own.ensures.number parts
