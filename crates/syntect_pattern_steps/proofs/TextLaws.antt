-- The character at a place.
use Rattle.std.proofs.Common.{◌≡◌, ℕ, ◌+◌, ◌-◌, ◌≤◌, ◌<◌, List, [], ◌∷◌, ◌++◌, length, drop, subst, append-nil, refl, sym, ◌∙◌, ap, arith, eq-eqb, Option, Some, None}
use Rattle.std.specs.Char.{IsScalar}
use Rattle.std.specs.Prelude.{IsUtf8, IsCharBoundary, encode_utf8, chars, slice_get, slice_range, reverse, take, Bool, true, false, IfSome}
use Rattle.std.specs.Char.{len_utf8}
use Rattle.std.proofs.lemmas.Str.{IsUtf8-drop, chars_past_char, chars-nil, chars-append, IsUtf8-encode, IsCharBoundary-past_char}
use Rattle.std.proofs.lemmas.List.{reverse-append}
use Rattle.std.specs.Str.Iter.{chars_steps, chars_steps_back, chars_rest}
use Rattle.std.specs.declared.str.Chars.{Chars}
use Rattle.syntect_pattern.specs.Text.{char_at, char_before}
use Rattle.syntect_pattern.specs.Sets.{same_fold}
use Rattle.syntect_pattern.specs.Matches.{Groups, equals, past, only_if, spelled, same_text}
use Rattle.std.specs.List.{flat_map}

empty_of : (xs : List ℕ) → length xs ≡ 0 → xs ≡ []
empty_of [] e = refl
empty_of (x ∷ xs) e = absurd (omega arith)

-- one step over the characters from the place
module _ (s : List ℕ) (i : ℕ) (x y : Chars) (u : IsUtf8 s) (b : IsCharBoundary s i) (e : chars_rest x ≡ drop i s) where
  pub char_at-step : (r : Option ℕ) → chars_steps x r y → r ≡ char_at s i
  unfolding char_at
  char_at-step None h = sym (ap (λ t. slice_get t 0) (ap chars (empty_of (drop i s) (ap length (sym e) ∙ h.0.0)) ∙ chars-nil))
  char_at-step (Some c) h = sym (ap (λ t. slice_get t 0) (chars_past_char (drop i s) (chars_rest y) c (IsUtf8-drop s i u b) (sym e ∙ h.0)))

  pub boundary-step : (r : Option ℕ) → chars_steps x r y → IfSome r (λ c. IsCharBoundary s (i + len_utf8 c))
  boundary-step None h = tt
  boundary-step (Some c) h = IsCharBoundary-past_char s (chars_rest y) i c b.0 (IsUtf8-drop s i u b) (sym e ∙ h.0)

  pub inside-step : (r : Option ℕ) → chars_steps x r y → IfSome r (λ c. i + len_utf8 c ≤ length s)
  inside-step None h = tt
  inside-step (Some c) h = (boundary-step (Some c) h).0

-- one step back over the characters up to the place
module _ (s : List ℕ) (i : ℕ) (x y : Chars) (u : IsUtf8 s) (b : IsCharBoundary s i) (e : chars_rest x ≡ take i s) where
  pub char_before-none : chars_steps_back x None y → None ≡ char_before s i
  unfolding char_before
  char_before-none h = sym (ap (λ t. slice_get (reverse t) 0) (ap chars (empty_of (take i s) (ap length (sym e) ∙ h.0)) ∙ chars-nil))

  pub char_before-some : (c : ℕ) → Some c ≡ slice_get (reverse (chars (take i s))) 0 → Some c ≡ char_before s i
  unfolding char_before
  char_before-some c h = h

-- the last character of a text
pub last-char : (s front : List ℕ) (c : ℕ) → IsUtf8 front → IsScalar c → s ≡ front ++ encode_utf8 c → Some c ≡ slice_get (reverse (chars s)) 0
last-char s front c u sc cut =
    let last : IsUtf8 (encode_utf8 c) = IsUtf8-encode c sc in
    let one : chars (encode_utf8 c) ≡ c ∷ [] = chars_past_char (encode_utf8 c) [] c last (sym (append-nil (encode_utf8 c))) ∙ ap (λ t. c ∷ t) chars-nil in
    let all : chars s ≡ chars front ++ c ∷ [] = ap chars cut ∙ chars-append front (encode_utf8 c) u ∙ ap (λ t. chars front ++ t) one in
    sym (ap (λ t. slice_get (reverse t) 0) all ∙ ap (λ t. slice_get t 0) (reverse-append (chars front) (c ∷ [])))

-- -- The text of a group

-- a character equals itself
pub equals-itself : (fold : Bool) (c d : ℕ) → c ≡ d → equals fold c d ≡ true
unfolding same_fold
equals-itself true c d e = subst (λ (x : ℕ). same_fold c x ≡ true) e (eq-eqb _ _ refl)
equals-itself false c d e = eq-eqb c d e

module _ (s : List ℕ) (fold : Bool) (c : ℕ) (cs : List ℕ) (i : ℕ) where
  -- no character stands there
  pub spelled-none : char_at s i ≡ None → (g : Groups) → spelled s fold (c ∷ cs) i g ≡ []
  spelled-none e g = ap (λ (o : Option ℕ). flat_map (λ (j, h). spelled s fold cs j h) (past (equals fold c) o i g)) e

  -- another character stands there
  pub spelled-other : (d : ℕ) → char_at s i ≡ Some d → equals fold c d ≡ false → (g : Groups) → spelled s fold (c ∷ cs) i g ≡ []
  spelled-other d e n g =
      ap (λ (o : Option ℕ). flat_map (λ (j, h). spelled s fold cs j h) (past (equals fold c) o i g)) e
      ∙ ap (λ (b : Bool). flat_map (λ (j, h). spelled s fold cs j h) (only_if b (i + len_utf8 d) g)) n

  -- the character stands there
  pub spelled-next : (d : ℕ) → char_at s i ≡ Some d → equals fold c d ≡ true → (g : Groups) → spelled s fold (c ∷ cs) i g ≡ spelled s fold cs (i + len_utf8 d) g
  spelled-next d e y g =
      ap (λ (o : Option ℕ). flat_map (λ (j, h). spelled s fold cs j h) (past (equals fold c) o i g)) e
      ∙ ap (λ (b : Bool). flat_map (λ (j, h). spelled s fold cs j h) (only_if b (i + len_utf8 d) g)) y
      ∙ append-nil (spelled s fold cs (i + len_utf8 d) g)

-- the characters that are left begin with the next one
pub chars-next : (x y : Chars) (c : ℕ) → IsUtf8 (chars_rest x) → chars_rest x ≡ encode_utf8 c ++ chars_rest y → chars (chars_rest x) ≡ c ∷ chars (chars_rest y)
chars-next x y c u e = chars_past_char (chars_rest x) (chars_rest y) c u e

-- none is left
pub chars-over : (x : Chars) → length (chars_rest x) ≡ 0 → chars (chars_rest x) ≡ []
chars-over x e = ap chars (empty_of (chars_rest x) e) ∙ chars-nil

-- a span that falls is read as the empty text
pub same_text-falls : (s : List ℕ) (fold : Bool) (o : Option (Option (ℕ × ℕ))) (a b i : ℕ) → o ≡ Some (Some (a, b)) → b < a → (g : Groups) → same_text s fold o i g ≡ (i, g) ∷ []
same_text-falls s fold o a b i e l g =
    let none : b - a ≡ 0 = omega arith in
    ap (λ (x : Option (Option (ℕ × ℕ))). same_text s fold x i g) e
    ∙ ap (λ (n : ℕ). spelled s fold (chars (take n (drop a s))) i g) none
    ∙ ap (λ (t : List ℕ). spelled s fold t i g) chars-nil

pub same_text-stands : (s : List ℕ) (fold : Bool) (o : Option (Option (ℕ × ℕ))) (a b i : ℕ) (t : List ℕ) → o ≡ Some (Some (a, b)) → t ≡ slice_range s a b → (g : Groups) → same_text s fold o i g ≡ spelled s fold (chars t) i g
same_text-stands s fold o a b i t e is g =
    ap (λ (x : Option (Option (ℕ × ℕ))). same_text s fold x i g) e ∙ ap (λ (u : List ℕ). spelled s fold (chars u) i g) (sym is)
