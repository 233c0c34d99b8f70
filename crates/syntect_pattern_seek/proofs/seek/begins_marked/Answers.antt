use Rattle.std.proofs.Common.{◌≤◌, ◌+◌, ◌*◌, ℕ, List, length, Some, refl, sym, subst, arith}
use Rattle.syntect_pattern_seek.specs.syntect_pattern.Trees.{Tree}
use Rattle.syntect_pattern_seek.specs.syntect_pattern_table.Program.{IsProgramOf}
use Rattle.syntect_pattern_seek.specs.syntect_pattern_table.declared.program.Program.{Program}
use Rattle.syntect_pattern_linear.specs.Steps.{look_cost, walk_cost}
use Rattle.syntect_pattern_linear.proofs.FindLaws.{found_at-between}
use Rattle.syntect_pattern_seek.proofs.syntect_pattern_plan_proofs.SightLaws.{false-bound}
use Rattle.syntect_pattern_seek.specs.Bounds.{root_tree}
use Rattle.syntect_pattern_seek.specs.Depths.{IsDepthOf}
use Rattle.syntect_pattern_seek.specs.declared.depths.Depth.{Depth}
use Rattle.syntect_pattern_seek.proofs.DepthLaws.{kept-guide, weighed}
use Rattle.syntect_pattern_seek.proofs.seek.begins_marked.Goals as goal

pub returns-then-place-text-clause-finds : goal.returns-then-place-text-clause-finds
returns-then-place-text-clause-finds c = λ tree h. found_at-between c.args.text.now tree c.args.place (false-bound c.args.text.now c.args.place (omega arith))

pub returns-clause-finds : goal.returns-clause-finds
returns-clause-finds c = λ tree h. c.in_ok-found.ensures.finds tree (subst (λ (q : Program). IsProgramOf q tree) (sym c.mark.ensures.program) h)

pub returns-clause-depths : goal.returns-clause-depths
returns-clause-depths c = λ p is stands.
    let s = c.args.text.now in
    let d : Depth = record { pattern = c.in_ok-from_str.field-0; guide = Some c.mark.new.self } in
    let kept = kept-guide s c.args.pattern.now p d c.mark.new.self refl is
    (λ tree h. subst (λ (q : Program). IsProgramOf q tree) (sym c.mark.ensures.program) (stands tree h)) c.in_ok-mark.ensures.guides in
    c.in_ok-push.ensures s c.requires.depths (subst (λ (b : List ℕ). IsDepthOf s b d) (sym c.in_ok-from_str.ensures.ok) kept)

pub returns-clause-steps : goal.returns-clause-steps
returns-clause-steps c =
    let t : Tree = root_tree c.args.guide.program in
    let found = subst (λ (q : Program). c.begins_at.new.meter.made ≤ c.mark.new.meter.made + (walk_cost (root_tree q) + look_cost (root_tree q)) * (length c.args.text.now + 1))
    c.mark.ensures.program c.in_ok-found.ensures.steps in
    weighed (length c.args.guide.plan.cells) (walk_cost t + look_cost t) (length c.args.text.now + 1) c.args.meter.now.made c.mark.new.meter.made c.begins_at.new.meter.made
    c.in_ok-mark.ensures.steps found
