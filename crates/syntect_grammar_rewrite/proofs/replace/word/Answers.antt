use Rattle.std.proofs.Common.{◌≡◌, ◌<◌, ◌-◌, ℕ, length, drop, get_or, ap, ◌∙◌, arith, length-drop}
use Rattle.syntect_grammar_rewrite.proofs.CuttingLaws.{inside}
use Rattle.syntect_grammar_rewrite.proofs.replace.word.Goals as goal

pub returns-clause-rest : goal.returns-clause-rest
returns-clause-rest c =
    let text = c.args.text.now in
    let last : get_or text 8 0 ≡ 93 = c.in_ok-written.ensures.last in
    let long : 8 < length text = inside text 8 (omega (arith, last)) in
    let left : length c.skip.result.now ≡ length text - 9 = ap length c.skip.ensures.rest ∙ length-drop 9 text in
    let nine : 9 ≡ length text - length c.skip.result.now = omega arith in
    c.skip.ensures.rest ∙ ap (λ (k : ℕ). drop k text) nine
