use Rattle.std.proofs.Common.{arith, ap, ◌∙◌, ◌+◌, ◌-◌, min, ℕ}
use Rattle.syntect_pattern_backtrack.proofs.LookbehindLaws.{enough-none, enough-most, enough-all}
use Rattle.syntect_pattern_backtrack.proofs.enter.starts_before.Goals as goal

pub returns-then-least-place : goal.returns-then-least-place
returns-then-least-place c = enough-none _ c.length_of-lengths.result c.length_of-lengths.ensures c.args.place (omega (arith, c.if-least-place.true))

pub returns-in-Some : goal.returns-in-Some
returns-in-Some c =
    let least : ℕ = c.length_of-lengths.result.least in
    enough-most _ c.length_of-lengths.result c.length_of-lengths.ensures c.args.place c.in-Some.most _ c.in-Some.is (omega (arith, c.if-least-place.false))
    (ap (λ (n : ℕ). n + 1) (c.min.ensures ∙ ap (λ (n : ℕ). min n (c.args.place - least)) c.saturating_sub.ensures))

pub returns-in-None : goal.returns-in-None
returns-in-None c = enough-all _ c.length_of-lengths.result c.length_of-lengths.ensures c.args.place (omega (arith, c.if-least-place.false))
