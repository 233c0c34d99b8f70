use Rattle.std.proofs.Common.{◌≡◌, ◌∙◌, ◌==◌, ◌&&◌, Bool, true, false, sym, ap, arith}
use Rattle.std.proofs.lemmas.Bool.Decides.{nat_tests}
use Rattle.syntect_writers.proofs.CommentLaws.{last_star}
use Rattle.syntect_writers.proofs.comment.ends_comment.Goals as goal

pub returns-then-last-eq42 : goal.returns-then-last-eq42
returns-then-last-eq42 c =
    let is : (c.in-Some.last.now == 42) ≡ true = grind (arith, nat_tests, c.if-last-eq42.true) in
    ap (λ (b : Bool). b && (c.args.c == 47)) (sym (last_star c.args.kept.now c.in-Some.last.now (sym c.in-Some.ensures.value) ∙ is))

pub returns-else-last-eq42 : goal.returns-else-last-eq42
returns-else-last-eq42 c =
    let is : (c.in-Some.last.now == 42) ≡ false = grind (arith, nat_tests, c.if-last-eq42.false) in
    is ∙ ap (λ (b : Bool). b && (c.args.c == 47)) (sym (last_star c.args.kept.now c.in-Some.last.now (sym c.in-Some.ensures.value) ∙ is))
