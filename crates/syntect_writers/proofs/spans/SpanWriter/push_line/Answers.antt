use Rattle.std.proofs.Common.{◌≡◌, ◌++◌, List, ℕ, [], ap, sym, ◌∙◌, drop, arith}
use Rattle.std.proofs.lemmas.List.{drop_all}
use Rattle.syntect_writers.specs.Spans.{plain_pieces}
use Rattle.syntect_writers.specs.Opened.{line_behind}
use Rattle.syntect_writers.proofs.SpanLaws.{line_end}
use Rattle.syntect_writers.proofs.spans.SpanWriter.push_line.Goals as goal

pub returns-clause-back : goal.returns-clause-back
returns-clause-back c =
    let none : drop c.loop-piece.piece-index c.args.v.now ≡ [] = drop_all c.loop-piece.piece-index c.args.v.now (omega (arith, c.loop-piece-test.false)) in
    c.in_ok-close_span.ensures.back
    ∙ ap (λ (xs : List ℕ). c.loop-piece.out.back ++ xs)
    (sym (line_end c.args.self.now c.loop-piece.last) ∙ ap (λ vs. line_behind c.args.self.now c.loop-piece.last (plain_pieces vs)) (sym none))
    ∙ c.loop-piece.invariant.back
