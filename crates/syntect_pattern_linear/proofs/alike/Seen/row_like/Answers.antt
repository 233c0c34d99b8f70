use Rattle.std.proofs.Common.{ℕ, ◌<◌, arith, subst}
use Rattle.syntect_pattern_linear.specs.Alike.{AreAlike}
use Rattle.syntect_pattern_linear.proofs.AlikeLaws.{row-alike}
use Rattle.syntect_pattern_linear.proofs.alike.Seen.row_like.Goals as goal

pub returns-then-is_like-clause-leads : goal.returns-then-is_like-clause-leads
returns-then-is_like-clause-leads c =
    let x = c.args.ground.now in
    let marks = c.args.marks.now in
    let place : ℕ = c.args.place in
    let other : ℕ = c.replace-other.result in
    let late = c.if-other-place.false in
    let later : place < other = omega (arith, late) in
    let a = subst (λ (q : ℕ). AreAlike x marks place q) c.in_ok-there.ensures.at
    (subst (λ (p : ℕ). AreAlike x marks p c.in_ok-there.there.place) c.in_ok-here.ensures.at (c.is_like.ensures c.if-is_like.true)) in
    row-alike x marks place other c.requires.marked later c.in_ok-there.ensures.boundary c.requires.loose a
