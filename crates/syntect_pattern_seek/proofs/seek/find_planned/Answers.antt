use Rattle.std.proofs.Common.{◌≡◌, Option, length, refl, subst, sym, arith}
use Rattle.std.specs.Prelude.{IfSome}
use Rattle.std.proofs.lemmas.Result.{IfOk-weaker}
use Rattle.syntect_pattern_backtrack.proofs.FindLaws.{found-past}
use Rattle.syntect_pattern_linear.specs.declared.find.Guide.{Guide}
use Rattle.syntect_pattern_seek.specs.syntect_pattern.Trees.{Tree}
use Rattle.syntect_pattern_seek.specs.syntect_pattern_plan.Plan.{plan_cells}
use Rattle.syntect_pattern_seek.specs.Bounds.{root_tree}
use Rattle.syntect_pattern_seek.specs.Depths.{StandsFor}
use Rattle.syntect_pattern_seek.proofs.DepthLaws.{all-planned, on_ok-map}
use Rattle.syntect_pattern_seek.proofs.SeekLaws.{planned-groups}
use Rattle.syntect_pattern_seek.proofs.seek.find_planned.Goals as goal

pub returns-then-begin-text-clause-finds : goal.returns-then-begin-text-clause-finds
returns-then-begin-text-clause-finds c = λ tree h. sym (found-past c.args.text.now tree c.args.begin (omega arith))

pub returns-clause-finds : goal.returns-clause-finds
returns-clause-finds c =
    let stands = subst (λ (o : Option Guide). IfSome o (λ g. StandsFor c.args.program.now g.program)) c.in-Some.is c.in_ok-guide.ensures.program in
    IfOk-weaker c.find_marked.result _ _
    (λ b h. planned-groups c.args.text.now c.args.program.now c.in-Some.guide.program c.args.begin b _ c.find_marked.new.search refl stands h)
    c.find_marked.ensures.finds

pub returns-clause-steps : goal.returns-clause-steps
returns-clause-steps c =
    let t : Tree = root_tree c.args.program.now in
    let cells = subst (λ (o : Option Guide). IfSome o (λ g. length g.plan.cells ≡ plan_cells t)) c.in-Some.is c.in_ok-guide.ensures.cells in
    let root = subst (λ (o : Option Guide). IfSome o (λ g. root_tree g.program ≡ t)) c.in-Some.is c.in_ok-guide.ensures.root in
    on_ok-map c.find_marked.result _ _
    (λ h easy. all-planned t (root_tree c.in-Some.guide.program) (length c.in-Some.guide.plan.cells) (length c.args.text.now) c.args.meter.now.made c.guide_of.new.meter.made c.find_marked.new.meter.made
    cells root c.in_ok-guide.ensures.steps h)
    c.find_marked.ensures.steps
