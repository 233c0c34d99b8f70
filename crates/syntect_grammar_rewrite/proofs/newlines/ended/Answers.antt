use Rattle.std.proofs.Common.{◌≡◌, ◌++◌, ◌<◌, List, ℕ, length, string_bytes, sym, ap, ◌∙◌, append-nil, rules, arith}
use Rattle.std.proofs.lemmas.Grind.{common_steps}
use Rattle.std.specs.Prelude.{slice_index}
use Rattle.syntect_grammar_rewrite.specs.Newlines.{ended, line_token_len}
use Rattle.syntect_grammar_rewrite.proofs.CuttingLaws.{step}
use Rattle.syntect_grammar_rewrite.proofs.NewlineLaws.{ended-turn, ended-none}
use Rattle.syntect_grammar_rewrite.proofs.newlines.ended.Goals as goal

pub returns : goal.returns
returns c =
    let l = c.tokens in
    let none : length l.rest.now ≡ 0 = grind (arith, common_steps) in
    sym (append-nil (string_bytes l.out)) ∙ ap (λ (x : List ℕ). string_bytes l.out ++ x) (sym (ended-none l.rest.now none)) ∙ l.invariant.1

pub tokens-preserved : goal.tokens-preserved
tokens-preserved c =
    let l = c.tokens in
    let some : 0 < length l.rest.now = grind (arith, common_steps) in
    let t = c.line_token-takes_newline in
    let after = c.first.ensures ∙ ap (λ (x : List ℕ). slice_index x 0) t.ensures.rest in (
      search rules,
      step ended _ _ _ l.rest.now _ _ (line_token_len l.rest.now) (ended-turn l.rest.now t.result.0.now c.first.result t.result.1 some t.ensures.token after) t.ensures.rest c.in_ok-push_ended.ensures l.invariant.1,
    )
