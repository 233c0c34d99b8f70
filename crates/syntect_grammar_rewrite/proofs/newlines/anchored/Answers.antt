use Rattle.std.proofs.Common.{◌≡◌, ◌==◌, ◌++◌, ◌<◌, List, ℕ, length, string_bytes, sym, ap, ◌∙◌, append-nil, rules, arith}
use Rattle.std.proofs.lemmas.Grind.{common_steps}
use Rattle.syntect_grammar_rewrite.specs.Newlines.{anchored}
use Rattle.syntect_grammar_rewrite.proofs.CuttingLaws.{step}
use Rattle.syntect_grammar_rewrite.proofs.NewlineLaws.{IsToken, anchored-turn, anchored-none}
use Rattle.std.specs.List.{list_any}
use Rattle.syntect_grammar_rewrite.proofs.PlainLaws.{Lacks, still, anchored_plain}
use Rattle.syntect_grammar_rewrite.proofs.newlines.anchored.Goals as goal

pub returns : goal.returns
returns c =
    let l = c.tokens in
    let none : length l.rest.now ≡ 0 = grind (arith, common_steps) in
    sym (append-nil (string_bytes l.out)) ∙ ap (λ (x : List ℕ). string_bytes l.out ++ x) (sym (anchored-none l.rest.now none)) ∙ l.invariant.1

pub tokens-preserved : goal.tokens-preserved
tokens-preserved c =
    let l = c.tokens in
    let some : 0 < length l.rest.now = grind (arith, common_steps) in
    let token : IsToken l.rest.now c.split_at.result.0.now c.token_at.result.len = record { some = some; len = c.token_at.ensures.len; bytes = c.split_at.ensures.front } in (
      search rules,
      step anchored _ _ _ l.rest.now _ _ c.token_at.result.len (anchored-turn l.rest.now c.split_at.result.0.now c.token_at.result.len token) c.split_at.ensures.back c.in_ok-push_anchored.ensures l.invariant.1,
    )

pub returns-then-not-contains : goal.returns-then-not-contains
returns-then-not-contains c =
    let lacks : Lacks 36 c.args.text.now = ap (list_any (λ d. d == 36)) (sym c.as_bytes.ensures.value) ∙ sym c.contains.ensures.value ∙ c.if-not-contains.true in
    still string_bytes c.from_str.result c.args.text.now (anchored c.args.text.now) c.from_str.ensures.ok (anchored_plain c.args.text.now lacks)
