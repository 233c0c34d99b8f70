use Rattle.std.proofs.Common.{◌≡◌, ◌++◌, ◌<◌, ℕ, List, length, string_bytes, sym, ap, ◌∙◌, append-nil, rules, arith}
use Rattle.std.proofs.lemmas.Grind.{common_steps}
use Rattle.syntect_grammar_rewrite.specs.Testing.{tested_text}
use Rattle.syntect_grammar_rewrite.proofs.CuttingLaws.{step}
use Rattle.syntect_grammar_rewrite.proofs.ReferenceLaws.{tested-turn, tested-none}
use Rattle.syntect_grammar_rewrite.proofs.references.tested.Goals as goal

pub returns : goal.returns
returns c =
    let l = c.signs in
    let none : length l.rest.now ≡ 0 = grind (arith, common_steps) in
    sym (append-nil (string_bytes l.out)) ∙ ap (λ (x : List ℕ). string_bytes l.out ++ x) (sym (tested-none l.rest.now none)) ∙ l.invariant.1

pub signs-preserved : goal.signs-preserved
signs-preserved c =
    let l = c.signs in
    let some : 0 < length l.rest.now = grind (arith, common_steps) in (
      search rules,
      step tested_text _ _ _ l.rest.now _ _ c.sign_len.result (tested-turn l.rest.now _ c.sign_len.result some c.sign_len.ensures.len c.split_at.ensures.front) c.split_at.ensures.back c.in_ok-push_tested.ensures l.invariant.1,
    )
