use Rattle.std.proofs.Common.{ap, subst, sym, ◌∙◌}
use Rattle.syntect_pattern_plan.specs.syntect_pattern.Trees.{Tree}
use Rattle.syntect_pattern_plan.specs.syntect_pattern_table.Program.{trees_of}
use Rattle.syntect_pattern_steps.proofs.OkLaws.{if_ok_map}
use Rattle.syntect_pattern_plan.specs.Cells.{item_tree}
use Rattle.syntect_pattern_plan.specs.Build.{MakesBeside}
use Rattle.syntect_pattern_plan.proofs.plan.Plan.beside_parts.Goals as goal

pub returns-in-Some-clause-step : goal.returns-in-Some-clause-step
returns-in-Some-clause-step c =
    let ts = trees_of c.args.program.now in
    if_ok_map c.beside_node.result _ _
    (λ p h g facts.
    let P : Tree → Type 0 = λ t. MakesBeside ts c.args.self.now c.args.empty g t c.args.parts p c.beside_node.new.self in
    subst P (sym (ap (item_tree ts) c.in-Node.is ∙ c.in-Some.ensures.is)) (h ts g facts))
    c.beside_node.ensures.step
