use Rattle.std.proofs.Common.{ap, subst, sym}
use Rattle.syntect_pattern_plan.specs.syntect_pattern.Trees.{Tree}
use Rattle.syntect_pattern_plan.specs.syntect_pattern_table.Table.{node_tree}
use Rattle.syntect_pattern_steps.proofs.OkLaws.{if_ok_map}
use Rattle.syntect_pattern_plan.specs.Build.{MakesBeside}
use Rattle.syntect_pattern_plan.proofs.plan.Plan.beside_node.Goals as goal

pub returns-in-Alternation-clause-step : goal.returns-in-Alternation-clause-step
returns-in-Alternation-clause-step c =
    if_ok_map c.beside_branches.result _ _
    (λ p h ts g facts.
    let P : Tree → Type 0 = λ t. MakesBeside ts c.args.self.now c.args.empty g t c.args.parts p c.beside_branches.new.self in
    subst P (sym (ap (node_tree ts) c.in-Alternation.is)) (h ts g facts))
    c.beside_branches.ensures.step

pub returns-in-Group-clause-step : goal.returns-in-Group-clause-step
returns-in-Group-clause-step c =
    if_ok_map c.beside_group.result _ _
    (λ p h ts g facts.
    let P : Tree → Type 0 = λ t. MakesBeside ts c.args.self.now c.args.empty g t c.args.parts p c.beside_group.new.self in
    subst P (sym (ap (node_tree ts) c.in-Group.is)) (h ts g c.in-Group.number facts))
    c.beside_group.ensures.step
