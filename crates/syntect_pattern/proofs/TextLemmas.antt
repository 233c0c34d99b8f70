-- Places and characters of a text.
use Rattle.std.proofs.Common.{◌≡◌, ℕ, ◌+◌, List, [], ◌∷◌, drop, true, Some, ap, sym, ◌∙◌, arith}
use Rattle.std.specs.Prelude.{chars, slice_get, IsUtf8, IsCharBoundary}
use Rattle.std.specs.Char.{len_utf8}
use Rattle.std.proofs.Math.Utf8.{encodes}
use Rattle.std.proofs.lemmas.Str.{IsUtf8-drop, encodes-chars, IsCharBoundary-past_char}
use Rattle.syntect_pattern.specs.Text.{char_at, is_boundary}

pub some_same : {A : Type 0} (x y : A) → Some x ≡ Some y → x ≡ y
some_same x y e = cc

first_of : (cs : List ℕ) (c : ℕ) → slice_get cs 0 ≡ Some c → (rest : List ℕ) × (cs ≡ c ∷ rest)
first_of [] c e = cc
first_of (d ∷ cs) c e = (cs, ap (λ x. x ∷ cs) (some_same d c e))

-- the place after a character is on a boundary
pub boundary-past : (s : List ℕ) (i c : ℕ) → IsUtf8 s → IsCharBoundary s i → char_at s i ≡ Some c → IsCharBoundary s (i + len_utf8 c)
unfolding char_at
boundary-past s i c u b e =
    let v = IsUtf8-drop s i u b in
    let f = first_of (chars (drop i s)) c e in
    IsCharBoundary-past_char s (encodes f.0) i c b.0 v (sym (encodes-chars (drop i s) v) ∙ ap encodes f.1)

pub boundary-true : (s : List ℕ) (i : ℕ) → is_boundary s i ≡ true → IsCharBoundary s i
unfolding is_boundary
boundary-true s i e = (grind arith, λ a b. grind arith)
