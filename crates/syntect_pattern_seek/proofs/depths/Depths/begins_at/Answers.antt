use Rattle.std.proofs.Common.{◌≡◌, ◌≤◌, ◌+◌, ◌*◌, length, Option, Some, subst}
use Rattle.std.specs.Prelude.{IfSome}
use Rattle.syntect_pattern_seek.specs.syntect_pattern.Trees.{Tree}
use Rattle.syntect_pattern_seek.specs.syntect_pattern.Pattern.{pattern_tree}
use Rattle.syntect_pattern_seek.specs.syntect_pattern_table.Program.{IsProgramOf}
use Rattle.syntect_pattern_linear.specs.Guide.{IsGuideIn}
use Rattle.syntect_pattern_linear.specs.Steps.{look_cost, walk_cost}
use Rattle.syntect_pattern_linear.specs.declared.find.Guide.{Guide}
use Rattle.syntect_pattern_seek.proofs.DepthLaws.{found-by, root-by}
use Rattle.syntect_pattern_seek.proofs.depths.Depths.begins_at.Goals as goal

pub begins_at-requires-clause-guides : goal.begins_at-requires-clause-guides
begins_at-requires-clause-guides c =
    let kept = c.in-Some.ensures c.args.text.now c.requires in
    subst (λ (o : Option Guide). IfSome o (λ g. IsGuideIn c.args.text.now g)) c.in-Some-guide.is kept.guides

pub returns-clause-finds : goal.returns-clause-finds
returns-clause-finds c = λ p is.
    let kept = c.in-Some.ensures c.args.text.now c.requires in
    let stands = subst (λ (o : Option Guide). IfSome o (λ g. (tree : Tree) → pattern_tree c.args.pattern.now ≡ Some tree → IsProgramOf g.program tree)) c.in-Some-guide.is kept.program in
    found-by c.args.text.now c.args.pattern.now p c.in-Some-guide.guide.program c.args.place _ is stands c.in_ok-found.ensures.finds

pub returns-clause-steps : goal.returns-clause-steps
returns-clause-steps c = λ p is.
    let kept = c.in-Some.ensures c.args.text.now c.requires in
    let stands = subst (λ (o : Option Guide). IfSome o (λ g. (tree : Tree) → pattern_tree c.args.pattern.now ≡ Some tree → IsProgramOf g.program tree)) c.in-Some-guide.is kept.program in
    subst (λ (t : Tree). c.begins_at.new.meter.made ≤ c.args.meter.now.made + (walk_cost t + look_cost t) * (length c.args.text.now + 1))
    (root-by c.args.pattern.now p c.in-Some-guide.guide.program is stands) c.in_ok-found.ensures.steps
