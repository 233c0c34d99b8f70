-- Texts that are written character by character.
use Rattle.std.proofs.Common.{◌≡◌, ℕ, List, [], ◌∷◌, ◌++◌, length, chars, refl, sym, ◌∙◌, ap, append-nil, append_assoc, arith}
use Rattle.std.specs.Prelude.{IsUtf8, encode_utf8, encode_utf8_all}
use Rattle.std.specs.List.{flat_map}
use Rattle.std.specs.Str.Iter.{chars_rest}
use Rattle.std.specs.declared.str.Chars.{Chars}
use Rattle.std.proofs.lemmas.Str.{encodes-append, chars_past_char, chars-nil}

empty_of : (xs : List ℕ) → length xs ≡ 0 → xs ≡ []
empty_of [] e = refl
empty_of (x ∷ xs) e = absurd (omega arith)

module _ (f : ℕ → List ℕ) where
  -- one more character was written
  pub past_char : (x y : Chars) (c : ℕ) (out new whole : List ℕ) → IsUtf8 (chars_rest x) → chars_rest x ≡ encode_utf8 c ++ chars_rest y → new ≡ out ++ encode_utf8_all (f c)
      → out ++ encode_utf8_all (flat_map f (chars (chars_rest x))) ≡ whole → new ++ encode_utf8_all (flat_map f (chars (chars_rest y))) ≡ whole
  past_char x y c out new whole u s e w =
      let left : List ℕ = flat_map f (chars (chars_rest y)) in
      ap (λ (bs : List ℕ). bs ++ encode_utf8_all left) e
      ∙ append_assoc out (encode_utf8_all (f c)) (encode_utf8_all left)
      ∙ ap (λ (bs : List ℕ). out ++ bs) (sym (encodes-append (f c) left))
      ∙ ap (λ (cs : List ℕ). out ++ encode_utf8_all (flat_map f cs)) (sym (chars_past_char (chars_rest x) (chars_rest y) c u s))
      ∙ w

  -- no character is left
  pub past_chars : (x : Chars) (out whole : List ℕ) → length (chars_rest x) ≡ 0 → out ++ encode_utf8_all (flat_map f (chars (chars_rest x))) ≡ whole → out ≡ whole
  past_chars x out whole e w =
      sym (append-nil out)
      ∙ ap (λ (cs : List ℕ). out ++ encode_utf8_all (flat_map f cs)) (sym (ap chars (empty_of (chars_rest x) e) ∙ chars-nil))
      ∙ w
