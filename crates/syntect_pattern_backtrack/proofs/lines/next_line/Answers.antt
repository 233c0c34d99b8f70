use Rattle.std.proofs.Common.{◌≢◌, ◌-◌, List, ℕ, drop, ap, ◌∙◌, arith}
use Rattle.syntect_pattern_backtrack.proofs.LineLaws.{no_line-before, no_line-behind}
use Rattle.syntect_pattern_backtrack.proofs.lines.next_line.Goals as goal

pub returns-in-Some-clause-skipped : goal.returns-in-Some-clause-skipped
returns-in-Some-clause-skipped c = λ k l m b.
    let some : c.args.place ≢ 0 = c.if-place-eq0.false in
    no_line-before c.args.text.now c.split_at.result.1.now c.utf8.text c.args.place c.in-Some.next some
    (c.split_at.ensures.back ∙ ap (λ (t : List ℕ). drop (c.args.place - 1) t) c.as_bytes.ensures.value) c.in-Some.ensures k l (omega (arith, c.min.ensures, m)) b

pub returns-in-None-clause-skipped : goal.returns-in-None-clause-skipped
returns-in-None-clause-skipped c = λ k l m b.
    let some : c.args.place ≢ 0 = c.if-place-eq0.false in
    no_line-behind c.args.text.now c.split_at.result.1.now c.utf8.text c.args.place some
    (c.split_at.ensures.back ∙ ap (λ (t : List ℕ). drop (c.args.place - 1) t) c.as_bytes.ensures.value) c.in-None.ensures k l (omega (arith, c.requires.within, m)) b
