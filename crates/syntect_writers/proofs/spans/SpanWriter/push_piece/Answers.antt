use Rattle.std.proofs.Common.{◌++◌, List, ℕ, ap, sym, ◌∙◌, append_assoc}
use Rattle.syntect_theme.specs.declared.style.Style.{Style}
use Rattle.syntect_writers.specs.Entities.{escaped}
use Rattle.syntect_writers.specs.Opened.{behind_open}
use Rattle.syntect_writers.specs.Spans.{open_tag}
use Rattle.syntect_writers.proofs.SpanLaws.{piece_into, piece_apart}
use Rattle.syntect_writers.proofs.spans.SpanWriter.push_piece.Goals as goal

pub returns-in_ok-push_escaped-in-Some-clause-back : goal.returns-in_ok-push_escaped-in-Some-clause-back
returns-in_ok-push_escaped-in-Some-clause-back c = λ ps.
    let p : Style × List ℕ = (c.args.style, c.args.text.now) in
    ap (λ (xs : List ℕ). xs ++ behind_open c.args.self.now c.in-Some.before ps) c.in_ok-push_escaped-in-Some.ensures.back
    ∙ append_assoc (c.args.out.now.back) (escaped c.args.text.now) _
    ∙ ap (λ (xs : List ℕ). c.args.out.now.back ++ xs) (sym (piece_into c.args.self.now c.args.last c.in-Some.before p ps (sym c.continued.ensures ∙ c.in-Some.is)))

pub returns-in_ok-push_escaped-in-None-clause-back : goal.returns-in_ok-push_escaped-in-None-clause-back
returns-in_ok-push_escaped-in-None-clause-back c = λ ps.
    let p : Style × List ℕ = (c.args.style, c.args.text.now) in
    let tagged =
    c.in_ok-open_span-in-None.ensures.back ∙ ap (λ (xs : List ℕ). xs ++ open_tag c.args.self.now c.args.style) c.in_ok-close_span-in-None.ensures.back
    in
    ap (λ (xs : List ℕ). xs ++ behind_open c.args.self.now c.args.style ps)
    (c.in_ok-push_escaped-in-None.ensures.back ∙ ap (λ (xs : List ℕ). xs ++ escaped c.args.text.now) tagged)
    ∙ (simp append_assoc)
    ∙ ap (λ (xs : List ℕ). c.args.out.now.back ++ xs) (sym (piece_apart c.args.self.now c.args.last p ps (sym c.continued.ensures ∙ c.in-None.is)))
