-- Literal scalars, a line at a time.
use Rattle.std.proofs.Common.{◌≡◌, ◌≢◌, ℕ, zero, suc, ◌-◌, ◌<◌, true, false, List, [], ◌∷◌, ◌++◌, length, take, drop, Option, Some, None, IfSome, lit<, refl, sym, ap, ◌∙◌, inl, inr, arith, take-append-drop}
use Rattle.std.proofs.Math.Seq.{drop-length}
use Rattle.std.proofs.lemmas.Str.Ascii.{encode_ascii}
use Rattle.std.proofs.lemmas.Bool.Decides.{eqb_tells}
use Rattle.std.specs.Prelude.{encode_utf8}
use Rattle.std.specs.List.{prefix_len}
use Rattle.std.specs.Str.Pattern.{IsTrimEndMatches, CutsSuffixes, FindsCharSuffix}
use Rattle.syntect_yaml.specs.Lines.{Rest, is_space, ends_line, after_line}
use Rattle.syntect_yaml.specs.Scalars.{prepend}
use Rattle.syntect_yaml.specs.Literal.{text_column, belongs, line_text, lines, onto, stripped}

pub column_here : (m : ℕ) (t : Rest) → 0 < m → 0 < length t → ends_line (drop (prefix_len is_space t) t) ≡ false → text_column m t ≡ Some (prefix_len is_space t)
unfolding text_column
column_here zero t room some e = absurd (omega arith)
column_here (suc m) [] room some e = absurd (omega arith)
column_here (suc m) (c ∷ t) room some e = rw e

pub column_over : (m : ℕ) (t : Rest) → 0 < m → 0 < length t → ends_line (drop (prefix_len is_space t) t) ≡ true → text_column m t ≡ text_column (m - 1) (after_line t)
unfolding text_column
column_over zero t room some e = absurd (omega arith)
column_over (suc m) [] room some e = absurd (omega arith)
column_over (suc m) (c ∷ t) room some e = let less : suc m - 1 ≡ m = omega arith in rw (e, less)

pub column_none : (m : ℕ) (t : Rest) → 0 < m → length t ≡ 0 → text_column m t ≡ None
unfolding text_column
column_none zero t room none = absurd (omega arith)
column_none (suc m) [] room none = refl
column_none (suc m) (c ∷ t) room none = absurd (omega arith)

pub lines_more : (column m : ℕ) (t : Rest) → 0 < m → 0 < length t → belongs column t ≡ true → lines column m t ≡ prepend (line_text column t) (lines column (m - 1) (after_line t))
unfolding lines
lines_more column zero t room some e = absurd (omega arith)
lines_more column (suc m) [] room some e = absurd (omega arith)
lines_more column (suc m) (c ∷ t) room some e = let less : suc m - 1 ≡ m = omega arith in rw (e, less)

pub lines_stop : (column m : ℕ) (t : Rest) → 0 < m → belongs column t ≡ false → lines column m t ≡ Some ([], t)
unfolding lines
lines_stop column zero t room e = absurd (omega arith)
lines_stop column (suc m) [] room e = refl
lines_stop column (suc m) (c ∷ t) room e = rw e

pub lines_end : (column m : ℕ) (t : Rest) → 0 < m → length t ≡ 0 → lines column m t ≡ Some ([], t)
unfolding lines
lines_end column zero t room none = absurd (omega arith)
lines_end column (suc m) [] room none = refl
lines_end column (suc m) (c ∷ t) room none = absurd (omega arith)

-- ---- line feeds at the end

feed_bytes : encode_utf8 10 ≡ 10 ∷ []
feed_bytes = encode_ascii 10 (lit< tt)

feed_last : (xs : List ℕ) → stripped (xs ++ 10 ∷ []) ≡ stripped xs
feed_last [] = refl
feed_last (x ∷ xs) = ap (onto x) (feed_last xs)

one_left : (b : ℕ) → ((front : List ℕ) → b ∷ [] ≢ front ++ 10 ∷ []) → onto b [] ≡ b ∷ []
one_left b h = elim (eqb_tells b 10) [ inl e ↦ absurd (h [] (ap (λ (n : ℕ). n ∷ []) e.1)) | inr e ↦ rw e.0 refl ]

no_feed : (t : List ℕ) → ((front : List ℕ) → t ≢ front ++ 10 ∷ []) → stripped t ≡ t
no_feed [] h = refl
no_feed (b ∷ []) h = one_left b h
no_feed (b ∷ c ∷ cs) h = rw (no_feed (c ∷ cs) (λ front e. h (b ∷ front) (ap (λ (l : List ℕ). b ∷ l) e))) refl

split_at_end : (m : List ℕ) (k : ℕ) → drop k m ≡ 10 ∷ drop (length m) m → m ≡ take k m ++ 10 ∷ []
split_at_end m k e = sym (take-append-drop k m) ∙ ap (λ (l : List ℕ). take k m ++ l) (e ∙ ap (λ (l : List ℕ). 10 ∷ l) (drop-length m))

cuts : (s r : List ℕ) (ns : List ℕ) → CutsSuffixes (FindsCharSuffix 10) s ns r → stripped s ≡ stripped r
cuts s r [] h = ap stripped (sym h)
cuts s r (n ∷ ns) h =
    cuts s h.0 ns h.1 ∙ ap stripped (split_at_end h.0 (length h.0 - n) (h.2.1.split ∙ ap (λ (l : List ℕ). l ++ drop (length h.0) h.0) feed_bytes)) ∙ feed_last (take (length h.0 - n) h.0) ∙ ap stripped (sym h.3)

full : (r : List ℕ) (o : Option ℕ) → FindsCharSuffix 10 r o → IfSome o (λ n. n ≡ 0) → stripped r ≡ r
full r None h e = no_feed r (λ front q. h front (q ∙ ap (λ (l : List ℕ). front ++ l) (sym feed_bytes)))
full r (Some n) h e = absurd (omega (arith, h.0, e))

pub trimmed_feeds : (s r : List ℕ) → IsTrimEndMatches (FindsCharSuffix 10) s r → r ≡ stripped s
trimmed_feeds s r h = sym (cuts s r h.0.0 h.0.1 ∙ full r h.1.0 h.1.1 h.1.2)
