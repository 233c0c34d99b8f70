use Rattle.std.proofs.Common.{◌≡◌, ℕ, List, Option, None, true, false, length, refl, sym, subst, ◌∙◌}
use Rattle.std.specs.Prelude.{IfSome}
use Rattle.std.proofs.lemmas.Result.{IfOk-weaker}
use Rattle.syntect_pattern_linear.specs.declared.find.Guide.{Guide}
use Rattle.syntect_pattern_seek.specs.syntect_pattern.Trees.{Tree}
use Rattle.syntect_pattern_seek.specs.syntect_pattern_plan.Plan.{plan_cells}
use Rattle.syntect_pattern_seek.specs.Bounds.{root_tree}
use Rattle.syntect_pattern_seek.specs.Depths.{IsDepthOf, StandsFor}
use Rattle.syntect_pattern_seek.specs.declared.depths.Depth.{Depth}
use Rattle.syntect_pattern_seek.proofs.DepthLaws.{all-planned, kept-none, on_ok-any, on_ok-map, if_none-is, unbounded, planned-here}
use Rattle.syntect_pattern_seek.proofs.seek.begins_planned.Goals as goal

pub returns-then-is_hard-clause-steps : goal.returns-then-is_hard-clause-steps
returns-then-is_hard-clause-steps c =
    let is = c.requires.program in
    let hard = unbounded c.args.pattern.now c.args.program.now is.tree is is.reads (c.is_hard.ensures c.if-is_hard.true c.args.text.now c.requires.depths is.tree is.reads) in
    on_ok-any c.backs_up.result _ (λ easy. absurd (let e : true ≡ false = sym easy ∙ hard in cc))

pub returns-in_default-clause-depths : goal.returns-in_default-clause-depths
returns-in_default-clause-depths c =
    let s = c.args.text.now in
    let d : Depth = record { pattern = c.in_ok-from_str.field-0; guide = None } in
    let hard = if_none-is c.in_ok-guide.field-0 _ c.in_ok-guide.ensures.hard c.in_default.not-Some in
    let kept = kept-none s c.args.pattern.now c.args.program.now d refl c.requires.program hard in
    on_ok-any c.backs_up-in_default.result _ (c.in_ok-push.ensures s c.requires.depths (subst (λ (b : List ℕ). IsDepthOf s b d) (sym c.in_ok-from_str.ensures.ok) kept))

pub returns-clause-finds : goal.returns-clause-finds
returns-clause-finds c =
    let stands = subst (λ (o : Option Guide). IfSome o (λ g. StandsFor c.args.program.now g.program)) c.in-Some.is c.in_ok-guide.ensures.program in
    IfOk-weaker c.begins_marked.result _ _
    (λ b h. planned-here c.args.text.now c.args.program.now c.in-Some.guide.program c.args.place b c.begins_marked.new.search stands h) c.begins_marked.ensures.finds

pub returns-clause-depths : goal.returns-clause-depths
returns-clause-depths c =
    let stands = subst (λ (o : Option Guide). IfSome o (λ g. StandsFor c.args.program.now g.program)) c.in-Some.is c.in_ok-guide.ensures.program in
    c.begins_marked.ensures.depths c.args.program.now c.requires.program stands

pub returns-clause-steps : goal.returns-clause-steps
returns-clause-steps c =
    let t : Tree = root_tree c.args.program.now in
    let cells = subst (λ (o : Option Guide). IfSome o (λ g. length g.plan.cells ≡ plan_cells t)) c.in-Some.is c.in_ok-guide.ensures.cells in
    let root = subst (λ (o : Option Guide). IfSome o (λ g. root_tree g.program ≡ t)) c.in-Some.is c.in_ok-guide.ensures.root in
    on_ok-map c.begins_marked.result _ _
    (λ h easy. all-planned t (root_tree c.in-Some.guide.program) (length c.in-Some.guide.plan.cells) (length c.args.text.now) c.args.meter.now.made c.guide_of.new.meter.made c.begins_marked.new.meter.made
    cells root c.in_ok-guide.ensures.steps h)
    c.begins_marked.ensures.steps
