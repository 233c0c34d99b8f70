use Rattle.std.proofs.Common.{◌≡◌, ◌==◌, ◌++◌, List, ℕ, length, string_bytes, sym, ap, ◌∙◌, append-nil, arith}
use Rattle.std.proofs.lemmas.Grind.{common_steps}
use Rattle.syntect_grammar_rewrite.specs.Replacing.{brackets, with_replacements}
use Rattle.syntect_grammar_rewrite.proofs.ReplaceLaws.{replaced-none}
use Rattle.std.specs.List.{list_any}
use Rattle.syntect_grammar_rewrite.proofs.PlainLaws.{Lacks, still, replaced_plain}
use Rattle.syntect_grammar_rewrite.proofs.replace.replaced.Goals as goal

pub returns : goal.returns
returns c =
    let l = c.words in
    let none : length l.rest.now ≡ 0 = grind (arith, common_steps) in
    sym (append-nil (string_bytes l.out)) ∙ ap (λ (x : List ℕ). string_bytes l.out ++ x) (sym (replaced-none brackets l.rest.now none)) ∙ l.invariant.1

pub returns-then-not-contains : goal.returns-then-not-contains
returns-then-not-contains c =
    let lacks : Lacks 91 c.args.text.now = ap (list_any (λ d. d == 91)) (sym c.as_bytes.ensures.value) ∙ sym c.contains.ensures.value ∙ c.if-not-contains.true in
    still string_bytes c.from_str.result c.args.text.now (with_replacements brackets c.args.text.now) c.from_str.ensures.ok (replaced_plain c.args.text.now lacks)
