-- Spans of pieces.
use Rattle.std.proofs.Common.{◌≡◌, ℕ, ◌+◌, ◌<◌, get_or, List, [], ◌∷◌, ◌++◌, length, drop, sym, ap, ◌∙◌, length-append, append_assoc}
use Rattle.std.specs.Borrow.{Bor}
use Rattle.std.specs.List.{flat_map}
use Rattle.std.proofs.lemmas.List.{drop_more}
use Rattle.syntect_assets.specs.syntect_theme.declared.style.Style.{Style}
use Rattle.syntect_c.specs.Spans.{all_bytes, span_at, spans_from}
use Rattle.syntect_c.specs.declared.span.Span.{Span}

bytes_cons : (p : Style × Bor (List ℕ)) (ps : List (Style × Bor (List ℕ)))
    → all_bytes (p ∷ ps) ≡ length p.1.now + all_bytes ps
bytes_cons p ps = length-append p.1.now (flat_map (λ (q : Style × Bor (List ℕ)). q.1.now) ps)

-- one span more, while there are pieces to come
pub spans_more : (spans : List Span) (ps : List (Style × Bor (List ℕ))) (i from end : ℕ)
    (style : Style) (piece : Bor (List ℕ)) (span : Span)
    → i < length ps → (style, piece) ≡ get_or ps i (style, piece) → end ≡ from + length piece.now
    → span ≡ span_at style from (length piece.now)
    → spans ++ spans_from from (drop i ps) ≡ spans_from 0 ps
    → (spans ++ span ∷ []) ++ spans_from end (drop (i + 1) ps) ≡ spans_from 0 ps
spans_more spans ps i from end style piece span l e n is h =
    append_assoc spans (span ∷ []) (spans_from end (drop (i + 1) ps))
    ∙ ap (λ s. spans ++ (s ∷ spans_from end (drop (i + 1) ps))) is
    ∙ ap (λ k. spans ++ (span_at style from (length piece.now) ∷ spans_from k (drop (i + 1) ps))) n
    ∙ ap (λ qs. spans ++ spans_from from qs)
    (ap (λ q. q ∷ drop (i + 1) ps) e ∙ sym (drop_more ps i (style, piece) l))
    ∙ h

-- the bytes from one piece on
pub bytes_more : (ps : List (Style × Bor (List ℕ))) (i : ℕ) (style : Style) (piece : Bor (List ℕ))
    → i < length ps → (style, piece) ≡ get_or ps i (style, piece)
    → all_bytes (drop i ps) ≡ length piece.now + all_bytes (drop (i + 1) ps)
bytes_more ps i style piece l e =
    ap all_bytes (drop_more ps i (style, piece) l ∙ ap (λ q. q ∷ drop (i + 1) ps) (sym e))
    ∙ bytes_cons (style, piece) (drop (i + 1) ps)
