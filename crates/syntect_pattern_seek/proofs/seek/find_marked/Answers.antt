use Rattle.std.proofs.Common.{◌≤◌, ◌+◌, ◌*◌, suc, length, sym, subst, arith, ◌∙◌}
use Rattle.syntect_pattern_seek.specs.syntect_pattern.Trees.{Tree}
use Rattle.syntect_pattern_seek.specs.syntect_pattern_table.declared.program.Program.{Program}
use Rattle.syntect_pattern_linear.specs.Steps.{look_cost, walk_cost}
use Rattle.syntect_pattern_linear.proofs.FindLaws.{found-past}
use Rattle.syntect_pattern_seek.specs.Bounds.{root_tree}
use Rattle.syntect_pattern_seek.proofs.DepthLaws.{weighed, on_ok-map}
use Rattle.syntect_pattern_seek.proofs.seek.find_marked.Goals as goal

pub returns-then-begin-text-clause-finds : goal.returns-then-begin-text-clause-finds
returns-then-begin-text-clause-finds c = λ tree h.
    let s = c.args.text.now in
    found-past s tree c.args.begin (omega arith) ∙ sym (found-past s tree (suc c.args.last) (omega (arith, c.requires.order)))

pub returns-clause-steps : goal.returns-clause-steps
returns-clause-steps c =
    let t : Tree = root_tree c.args.guide.program in
    on_ok-map c.find_up_to.result _ _
    (λ h. weighed (length c.args.guide.plan.cells) (walk_cost t + look_cost t) (length c.args.text.now + 1) c.args.meter.now.made c.mark.new.meter.made c.find_up_to.new.meter.made
    c.in_ok-mark.ensures.steps
    (subst (λ (q : Program). c.find_up_to.new.meter.made ≤ c.mark.new.meter.made + (walk_cost (root_tree q) + look_cost (root_tree q)) * (length c.args.text.now + 1)) c.mark.ensures.program h))
    c.find_up_to.ensures.steps
