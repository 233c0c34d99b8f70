use Rattle.std.proofs.Common.{◌≡◌, ◌+◌, Option, length, ap, subst, ◌∙◌, arith}
use Rattle.std.specs.Prelude.{IfSome}
use Rattle.syntect_pattern_seek.specs.syntect_pattern.Trees.{Tree}
use Rattle.syntect_pattern_seek.specs.syntect_pattern_plan.Order.{in_64_bits}
use Rattle.syntect_pattern_seek.specs.syntect_pattern_plan.Passes.{passes}
use Rattle.syntect_pattern_seek.specs.syntect_pattern_plan.Plan.{plan_cells}
use Rattle.syntect_pattern_seek.specs.syntect_pattern_plan.declared.plan.Plan.{Plan}
use Rattle.syntect_pattern_seek.specs.Bounds.{root_tree}
use Rattle.syntect_pattern_seek.proofs.DepthLaws.{few-passes}
use Rattle.syntect_pattern_seek.proofs.seek.guide_of.Goals as goal

pub returns-clause-steps : goal.returns-clause-steps
returns-clause-steps c =
    let same = c.in_ok-passes.ensures ∙ ap (λ (t : Tree). in_64_bits (passes t)) c.in_ok-spelt.ensures.root in
    let few = few-passes (passes (root_tree c.args.program.now)) c.in_ok-passes.passes (length c.args.text.now + 1) c.pass_steps.result same c.pass_steps.ensures.bound in
    let cells : length c.in-Some.plan.cells ≡ plan_cells (root_tree c.args.program.now) =
    subst (λ (o : Option Plan). IfSome o (λ p. length p.cells ≡ plan_cells (root_tree c.in_ok-spelt.spelt))) c.in-Some.is c.in_ok-plan.ensures.count
    ∙ ap plan_cells c.in_ok-spelt.ensures.root in
    omega (arith, c.in_ok-spend-2.ensures.made, c.in_ok-spend.ensures.made, c.len.ensures, cells, few)
