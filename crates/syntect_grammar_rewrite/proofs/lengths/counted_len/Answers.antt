use Rattle.std.proofs.Common.{refl, ◌==◌, ◌∙◌, sym, ap, ◌≡◌, length, arith}
use Rattle.std.proofs.lemmas.Grind.{common_steps}
use Rattle.syntect_grammar_rewrite.specs.Lengths.{use_mark, with_uses}
use Rattle.syntect_grammar_rewrite.proofs.OpenLaws.{open_first}
use Rattle.syntect_grammar_rewrite.proofs.LengthLaws.{start-counted, over-counted, counted, plain-counted}
use Rattle.std.specs.List.{list_any}
use Rattle.syntect_grammar_rewrite.proofs.PlainLaws.{Lacks, marked_plain}
use Rattle.syntect_grammar_rewrite.proofs.lengths.counted_len.Goals as goal

pub parts-init : goal.parts-init
parts-init c =
    let vs = c.args.variables.now in
    let fs = c.new-frames.result.items in (
      c.utf8.text,
      omega (arith, start-counted vs fs c.args.text.now c.new-frames.ensures.items),
      omega arith,
      open_first c.new-marks.result fs c.new-marks.ensures c.new-frames.ensures.items,
    )

pub returns : goal.returns
returns c =
    let none : length c.parts.rest.now ≡ 0 = grind (arith, common_steps) in
    let last : length c.parts.frames.items ≡ 0 = grind (arith, common_steps) in
    let nothing = over-counted c.args.variables.now c.parts.frames.items c.parts.rest.now none last in
    let all : c.parts.count ≡ length (with_uses c.args.variables.now c.args.text.now) = omega (arith, c.parts.invariant.1, nothing) in
    counted c.parts.count c.args.most (with_uses c.args.variables.now c.args.text.now) all c.parts.invariant.2

pub returns-then-not-contains : goal.returns-then-not-contains
returns-then-not-contains c =
    let lacks : Lacks 123 c.args.text.now = ap (list_any (λ d. d == 123)) (sym c.as_bytes.ensures.value) ∙ sym c.contains.ensures.value ∙ c.if-not-contains.true in
    plain-counted c.added.result _ c.args.most c.args.text.now (with_uses c.args.variables.now c.args.text.now) (marked_plain use_mark c.args.variables.now c.args.text.now lacks) refl c.added.ensures.sum c.added.ensures.within
