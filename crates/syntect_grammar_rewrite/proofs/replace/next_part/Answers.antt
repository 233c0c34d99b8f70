use Rattle.std.proofs.Common.{◌++◌, List, ℕ, take, drop, sym, ap, ◌∙◌}
use Rattle.syntect_grammar_rewrite.specs.Replacing.{with_replacements, brackets}
use Rattle.syntect_grammar_rewrite.proofs.ReplaceLaws.{replaced-word, replaced-char}
use Rattle.syntect_grammar_rewrite.proofs.replace.next_part.Goals as goal

pub returns-in-Some-clause-turn : goal.returns-in-Some-clause-turn
returns-in-Some-clause-turn c =
    replaced-word brackets c.args.text.now c.in-Some.found.0.now _ c.requires c.in-Some.ensures.cases
    ∙ ap (λ (x : List ℕ). c.in-Some.found.0.now ++ with_replacements brackets x) (sym c.in-Some.ensures.rest)

pub returns-in-None-clause-turn : goal.returns-in-None-clause-turn
returns-in-None-clause-turn c =
    let ws = brackets in
    let t = c.args.text.now in
    replaced-char ws t c.requires c.in-None.ensures.cases
    ∙ ap (λ (k : ℕ). take k t ++ with_replacements ws (drop k t)) (sym c.char_len.ensures.len)
    ∙ ap (λ (x : List ℕ). x ++ with_replacements ws (drop c.char_len.result t)) (sym c.split_at.ensures.front)
    ∙ ap (λ (x : List ℕ). c.split_at.result.0.now ++ with_replacements ws x) (sym c.split_at.ensures.back)
