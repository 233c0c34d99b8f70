-- The character at a place.
use Rattle.std.proofs.Common.{◌≡◌, ℕ, ◌+◌, ◌≤◌, List, [], ◌∷◌, length, drop, refl, sym, ◌∙◌, ap, arith, Option, Some, None}
use Rattle.std.specs.Prelude.{IsUtf8, IsCharBoundary, chars, slice_get, IfSome}
use Rattle.std.specs.Char.{len_utf8}
use Rattle.std.proofs.lemmas.Str.{IsUtf8-drop, chars_past_char, chars-nil, IsCharBoundary-past_char}
use Rattle.std.specs.Str.Iter.{chars_steps, chars_rest}
use Rattle.std.specs.declared.str.Chars.{Chars}
use Rattle.syntect_grammar_contexts.specs.syntect_pattern.Text.{char_at}

empty_of : (xs : List ℕ) → length xs ≡ 0 → xs ≡ []
empty_of [] e = refl
empty_of (x ∷ xs) e = absurd (omega arith)

-- no characters are left
pub chars_over : (x : Chars) → length (chars_rest x) ≡ 0 → chars (chars_rest x) ≡ []
chars_over x e = ap chars (empty_of (chars_rest x) e) ∙ chars-nil

-- one step over the characters from the place
module _ (s : List ℕ) (i : ℕ) (x y : Chars) (u : IsUtf8 s) (b : IsCharBoundary s i) (e : chars_rest x ≡ drop i s) where
  pub char_at-step : (r : Option ℕ) → chars_steps x r y → r ≡ char_at s i
  unfolding char_at
  char_at-step None h = sym (ap (λ t. slice_get t 0) (ap chars (empty_of (drop i s) (ap length (sym e) ∙ h.0.0)) ∙ chars-nil))
  char_at-step (Some c) h = sym (ap (λ t. slice_get t 0) (chars_past_char (drop i s) (chars_rest y) c (IsUtf8-drop s i u b) (sym e ∙ h.0)))

  pub boundary-step : (r : Option ℕ) → chars_steps x r y → IfSome r (λ c. IsCharBoundary s (i + len_utf8 c))
  boundary-step None h = tt
  boundary-step (Some c) h = IsCharBoundary-past_char s (chars_rest y) i c b.0 (IsUtf8-drop s i u b) (sym e ∙ h.0)

  pub inside-step : (r : Option ℕ) → chars_steps x r y → IfSome r (λ c. i + len_utf8 c ≤ length s)
  inside-step None h = tt
  inside-step (Some c) h = (boundary-step (Some c) h).0
