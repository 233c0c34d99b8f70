use Rattle.std.proofs.Common.{◌≡◌, ℕ, [], get_or, Bool, Option, List, subst, false}
use Rattle.std.specs.Prelude.{IfSome, is_some}
use Rattle.syntect_pattern_linear.specs.syntect_pattern_table.Program.{trees_of}
use Rattle.syntect_pattern_linear.proofs.syntect_pattern_steps_proofs.BoundaryLaws.{true-boundary}
use Rattle.syntect_pattern_linear.specs.Ground.{IsIn, ends_at}
use Rattle.syntect_pattern_linear.proofs.MarkLaws.{marks-push}
use Rattle.syntect_pattern_linear.proofs.marking.mark_place.Goals as goal

pub returns-then-not-is_boundary-clause-marks : goal.returns-then-not-is_boundary-clause-marks
returns-then-not-is_boundary-clause-marks c =
    let x = c.args.ground.now in
    λ told. marks-push x.text.now (trees_of x.program.now) x.plan.now.cells c.args.marks.now c.push.new.self c.new.result c.args.place c.in_ok-push.ensures
    c.requires.there c.requires.marks
    (λ b. absurd (let t = true-boundary x.text.now c.args.place b in let v = c.is_boundary.ensures.value in let f = c.if-not-is_boundary.true in cc))

pub returns-in-Some-clause-marks : goal.returns-in-Some-clause-marks
returns-in-Some-clause-marks c =
    let x = c.args.ground.now in
    λ told. marks-push x.text.now (trees_of x.program.now) x.plan.now.cells c.args.marks.now c.repeat.new.self (get_or c.args.marks.now c.in-Some.row []) c.args.place c.in_ok-repeat.ensures
    c.requires.there c.requires.marks (λ b k i. c.in-Some.ensures.leads k i)

pub returns-clause-marks : goal.returns-clause-marks
returns-clause-marks c =
    let x = c.args.ground.now in
    let leads = subst (λ (o : Option (List Bool)). IfSome o (λ row. (k : ℕ) → IsIn x k → get_or row k false ≡ is_some (ends_at x k c.args.place))) c.in-Some-2.is c.in_ok-row.ensures.leads in
    λ told. marks-push x.text.now (trees_of x.program.now) x.plan.now.cells c.args.marks.now c.push-2.new.self c.in-Some-2.row c.args.place c.in_ok-push-2.ensures
    c.requires.there c.requires.marks (λ b k i. leads k i)
