-- Back references, a sign at a time.
use Rattle.std.proofs.Common.{◌≡◌, ℕ, ◌<◌, Bool, true, false, inl, inr, List, [], ◌∷◌, ◌++◌, length, take, drop, refl, sym, ap, ◌∙◌, arith}
use Rattle.std.proofs.lemmas.Bool.{false≢true}
use Rattle.std.proofs.lemmas.Bool.Decides.{eqb_tells}
use Rattle.std.proofs.lemmas.Str.{chars_past_char, chars-nil}
use Rattle.std.specs.Prelude.{flat_map, chars, encode_utf8, ◌&&◌, ◌||◌, ◌==◌}
use Rattle.std.specs.Str.{IsUtf8}
use Rattle.std.specs.Str.Iter.{chars_rest}
use Rattle.std.specs.declared.str.Chars.{Chars}
use Rattle.syntect_grammar_rewrite.specs.Cutting.{sign_len, sign}
use Rattle.syntect_grammar_rewrite.specs.Testing.{tested_sign, tested_text, is_decimal, has_reference, refers_back}
use Rattle.syntect_grammar_rewrite.proofs.CuttingLaws.{flat-cons, parts-none, sign_some}

pub tested-turn : (t s : List ℕ) (n : ℕ) → 0 < length t → n ≡ sign_len t → s ≡ take n t → tested_text t ≡ tested_sign s ++ tested_text (drop n t)
unfolding tested_text sign
tested-turn t s n some len text =
    flat-cons tested_sign sign_len sign t some (sign_some t some)
    ∙ ap (λ (k : ℕ). tested_sign (take k t) ++ tested_text (drop k t)) (sym len)
    ∙ ap (λ (x : List ℕ). tested_sign x ++ tested_text (drop n t)) (sym text)

pub tested-none : (t : List ℕ) → length t ≡ 0 → tested_text t ≡ []
unfolding tested_text
tested-none t none = ap (flat_map tested_sign) (parts-none sign_len sign t none)

-- ---- characters, of which the one before may have been a backslash

abbrev pub refers_on : Bool → List ℕ → Bool
refers_on false cs = has_reference cs
refers_on true [] = false
refers_on true (c ∷ cs) = is_decimal c || has_reference (c ∷ cs)

after : (d : ℕ) (cs : List ℕ) → has_reference (d ∷ cs) ≡ refers_on (d == 92) cs
after d [] = elim (eqb_tells d 92) [ inl e ↦ rw e.0 refl | inr e ↦ rw e.0 refl ]
after d (x ∷ cs) = elim (eqb_tells d 92) [ inl e ↦ rw e.0 refl | inr e ↦ rw e.0 refl ]

pub refers-next : (escaped : Bool) (d : ℕ) (cs : List ℕ) → refers_on escaped (d ∷ cs) ≡ ((escaped && is_decimal d) || refers_on (d == 92) cs)
refers-next false d cs = after d cs
refers-next true d cs = ap (λ (b : Bool). is_decimal d || b) (after d cs)

pub refers-over : (escaped : Bool) → refers_on escaped [] ≡ false
refers-over false = refl
refers-over true = refl

pub refers-start : (t : List ℕ) → refers_on false (chars t) ≡ refers_back t
unfolding refers_back
refers-start t = refl

pub refers-found : (b now rest : Bool) → b ≡ (now || rest) → now ≡ true → true ≡ b
refers-found b true rest h e = sym h
refers-found b false rest h e = absurd (false≢true e)

pub refers-past : (b now rest : Bool) → b ≡ (now || rest) → now ≡ false → rest ≡ b
refers-past b true rest h e = absurd (false≢true (sym e))
refers-past b false rest h e = sym h

-- ---- the characters that are left

pub chars-next : (x y : Chars) (c : ℕ) → IsUtf8 (chars_rest x) → chars_rest x ≡ encode_utf8 c ++ chars_rest y → chars (chars_rest x) ≡ c ∷ chars (chars_rest y)
chars-next x y c u e = chars_past_char (chars_rest x) (chars_rest y) c u e

none_of : (t : List ℕ) → length t ≡ 0 → chars t ≡ []
none_of [] e = chars-nil
none_of (c ∷ t) e = absurd (omega arith)

pub chars-over : (x : Chars) → length (chars_rest x) ≡ 0 → chars (chars_rest x) ≡ []
chars-over x e = none_of (chars_rest x) e
