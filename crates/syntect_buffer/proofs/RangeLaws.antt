-- Ranges of pieces.
use Rattle.std.proofs.Common.{◌≡◌, ℕ, ◌+◌, ◌-◌, ◌<◌, zero, suc, get_or, List, [], ◌∷◌, ◌++◌, length, drop, replicate, refl, sym, ap, ◌∙◌, arith, length-append, append_assoc, All}
use Rattle.std.specs.Borrow.{Bor}
use Rattle.std.specs.List.{flat_map}
use Rattle.std.specs.declared.ops.Range.{Range}
use Rattle.std.proofs.lemmas.List.{drop_more}
use Rattle.syntect_buffer.specs.syntect_theme.declared.style.Style.{Style}
use Rattle.syntect_buffer.specs.Answers.{Follow, styles_in, total, ranges_from}

total_cons : (p : Style × Bor (List ℕ)) (ps : List (Style × Bor (List ℕ))) → total (p ∷ ps) ≡ length p.1.now + total ps
total_cons p ps = length-append p.1.now (flat_map (λ (q : Style × Bor (List ℕ)). q.1.now) ps)

-- ranges of pieces that aren't empty follow one another
pub ranges_follow : (from : ℕ) (ps : List (Style × Bor (List ℕ))) → All (λ p. 0 < length p.1.now) ps → Follow from (ranges_from from ps) (from + total ps)
ranges_follow from [] h = omega arith
ranges_follow from (p ∷ ps) h =
    let e : from + length p.1.now + total ps ≡ from + total (p ∷ ps) = omega (arith, total_cons p ps) in
    let first : 0 < length p.1.now = h zero p (omega arith) in
    (refl, omega arith, rw e at (ranges_follow (from + length p.1.now) ps (λ k d lt. h (suc k) d (omega arith))))

-- and have the pieces' styles
pub ranges_styled : (from : ℕ) (ps : List (Style × Bor (List ℕ))) → styles_in (ranges_from from ps) ≡ flat_map (λ p. replicate (length p.1.now) p.0) ps
ranges_styled from [] = refl
ranges_styled from (p ∷ ps) =
    let n : from + length p.1.now - from ≡ length p.1.now = omega arith in
    ap (λ k. replicate k p.0 ++ styles_in (ranges_from (from + length p.1.now) ps)) n
    ∙ ap (λ zs. replicate (length p.1.now) p.0 ++ zs) (ranges_styled (from + length p.1.now) ps)

-- one range more, while there are ranges to come
pub ranges_more : (ranges : List (Style × Range ℕ)) (ps : List (Style × Bor (List ℕ))) (i from end : ℕ) (style : Style) (piece : Bor (List ℕ))
    → i < length ps → (style, piece) ≡ get_or ps i (style, piece) → end ≡ from + length piece.now → ranges ++ ranges_from from (drop i ps) ≡ ranges_from 0 ps
    → (ranges ++ (style, record { start = from; end = end }) ∷ []) ++ ranges_from end (drop (i + 1) ps) ≡ ranges_from 0 ps
ranges_more ranges ps i from end style piece l e n h =
    append_assoc ranges ((style, record { start = from; end = end }) ∷ []) (ranges_from end (drop (i + 1) ps))
    ∙ ap (λ k. ranges ++ ((style, record { start = from; end = k }) ∷ ranges_from k (drop (i + 1) ps))) n
    ∙ ap (λ qs. ranges ++ ranges_from from qs) (ap (λ q. q ∷ drop (i + 1) ps) e ∙ sym (drop_more ps i (style, piece) l))
    ∙ h

-- the bytes from one piece on
pub total_more : (ps : List (Style × Bor (List ℕ))) (i : ℕ) (style : Style) (piece : Bor (List ℕ)) → i < length ps → (style, piece) ≡ get_or ps i (style, piece)
    → total (drop i ps) ≡ length piece.now + total (drop (i + 1) ps)
total_more ps i style piece l e = ap total (drop_more ps i (style, piece) l ∙ ap (λ q. q ∷ drop (i + 1) ps) (sym e)) ∙ total_cons (style, piece) (drop (i + 1) ps)
