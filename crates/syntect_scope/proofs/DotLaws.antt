-- Dots at the end of a text.
use Rattle.std.proofs.Common.{◌≡◌, ◌≢◌, ℕ, ◌-◌, List, [], ◌∷◌, ◌++◌, length, take, drop, refl, ap, sym, ◌∙◌, arith, Option, Some, None, IfSome, lit<, inl, inr, take-append-drop}
use Rattle.std.proofs.Math.Seq.{drop-length}
use Rattle.std.proofs.lemmas.Str.Ascii.{encode_ascii}
use Rattle.std.proofs.lemmas.Bool.Decides.{eqb_tells}
use Rattle.std.specs.Prelude.{encode_utf8}
use Rattle.std.specs.Str.Pattern.{IsTrimEndMatches, CutsSuffixes, FindsCharSuffix}
use Rattle.syntect_scope.specs.Repository.{without_dots, onto}

dot_bytes : encode_utf8 46 ≡ 46 ∷ []
dot_bytes = encode_ascii 46 (lit< tt)

dot_last : (xs : List ℕ) → without_dots (xs ++ 46 ∷ []) ≡ without_dots xs
dot_last [] = refl
dot_last (x ∷ xs) = ap (onto x) (dot_last xs)

one_left : (b : ℕ) → ((front : List ℕ) → b ∷ [] ≢ front ++ 46 ∷ []) → onto b [] ≡ b ∷ []
one_left b h = elim (eqb_tells b 46) [ inl e ↦ absurd (h [] (ap (λ (n : ℕ). n ∷ []) e.1)) | inr e ↦ rw e.0 refl ]

no_dot : (t : List ℕ) → ((front : List ℕ) → t ≢ front ++ 46 ∷ []) → without_dots t ≡ t
no_dot [] h = refl
no_dot (b ∷ []) h = one_left b h
no_dot (b ∷ c ∷ cs) h = rw (no_dot (c ∷ cs) (λ front e. h (b ∷ front) (ap (λ (l : List ℕ). b ∷ l) e))) refl

split_at_end : (m : List ℕ) (k : ℕ) → drop k m ≡ 46 ∷ drop (length m) m → m ≡ take k m ++ 46 ∷ []
split_at_end m k e = sym (take-append-drop k m) ∙ ap (λ (l : List ℕ). take k m ++ l) (e ∙ ap (λ (l : List ℕ). 46 ∷ l) (drop-length m))

cuts : (s r : List ℕ) (ns : List ℕ) → CutsSuffixes (FindsCharSuffix 46) s ns r → without_dots s ≡ without_dots r
cuts s r [] h = ap without_dots (sym h)
cuts s r (n ∷ ns) h =
    cuts s h.0 ns h.1 ∙ ap without_dots (split_at_end h.0 (length h.0 - n) (h.2.1.split ∙ ap (λ (l : List ℕ). l ++ drop (length h.0) h.0) dot_bytes)) ∙ dot_last (take (length h.0 - n) h.0) ∙ ap without_dots (sym h.3)

full : (r : List ℕ) (o : Option ℕ) → FindsCharSuffix 46 r o → IfSome o (λ n. n ≡ 0) → without_dots r ≡ r
full r None h e = no_dot r (λ front q. h front (q ∙ ap (λ (l : List ℕ). front ++ l) (sym dot_bytes)))
full r (Some n) h e = absurd (omega (arith, h.0, e))

pub trimmed_dots : (s r : List ℕ) → IsTrimEndMatches (FindsCharSuffix 46) s r → r ≡ without_dots s
trimmed_dots s r h = sym (cuts s r h.0.0 h.0.1 ∙ full r h.1.0 h.1.1 h.1.2)
