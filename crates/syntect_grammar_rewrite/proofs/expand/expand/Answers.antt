use Rattle.std.proofs.Common.{◌≡◌, ◌==◌, ◌∙◌, length, string_bytes, sym, ap, arith}
use Rattle.std.proofs.lemmas.Grind.{common_steps}
use Rattle.syntect_grammar_rewrite.specs.Expanding.{inner}
use Rattle.syntect_grammar_rewrite.specs.Variables.{expanded}
use Rattle.syntect_grammar_rewrite.proofs.OpenLaws.{open_first}
use Rattle.syntect_grammar_rewrite.proofs.TurnLaws.{start, start-traced, finish}
use Rattle.syntect_grammar_rewrite.proofs.VanishLaws.{all-none}
use Rattle.std.specs.List.{list_any}
use Rattle.syntect_grammar_rewrite.proofs.PlainLaws.{Lacks, still, expanded_plain}
use Rattle.syntect_grammar_rewrite.proofs.expand.expand.Goals as goal

pub turns-init : goal.turns-init
turns-init c =
    let fs = c.new-frames.result.items in (
      c.utf8.text,
      start c.args.variables.now fs c.args.text.now (string_bytes c.new-out.result) c.new-out.ensures.bytes c.new-frames.ensures.items,
      start-traced c.args.variables.now fs c.args.text.now (length (string_bytes c.new-out.result)) c.new-frames.ensures.items,
      all-none (inner c.args.variables.now fs) c.new-known.result c.new-known.ensures,
      open_first c.new-marks.result fs c.new-marks.ensures c.new-frames.ensures.items,
    )

pub returns : goal.returns
returns c =
    let none : length c.turns.rest.now ≡ 0 = grind (arith, common_steps) in
    let last : length c.turns.frames.items ≡ 0 = grind (arith, common_steps) in
    finish c.args.variables.now c.turns.frames.items c.turns.rest.now (string_bytes c.turns.out) _ c.turns.invariant.1 none last

pub returns-then-not-contains : goal.returns-then-not-contains
returns-then-not-contains c =
    let lacks : Lacks 123 c.args.text.now = ap (list_any (λ d. d == 123)) (sym c.as_bytes.ensures.value) ∙ sym c.contains.ensures.value ∙ c.if-not-contains.true in
    still string_bytes c.from_str.result c.args.text.now (expanded c.args.variables.now c.args.text.now) c.from_str.ensures.ok (expanded_plain c.args.variables.now c.args.text.now lacks)
