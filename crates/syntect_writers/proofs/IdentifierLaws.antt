-- Identifiers that are written character by character.
use Rattle.std.proofs.Common.{◌≡◌, ℕ, ◌<◌, true, false, List, [], ◌∷◌, ◌++◌, length, chars, refl, sym, ◌∙◌, ap, append-nil, append_assoc, arith}
use Rattle.std.specs.Prelude.{IsUtf8, encode_utf8}
use Rattle.std.specs.List.{flat_map}
use Rattle.std.specs.Str.Iter.{chars_rest}
use Rattle.std.specs.declared.str.Chars.{Chars}
use Rattle.std.proofs.lemmas.Bool.Decides.{nat_tests}
use Rattle.std.proofs.lemmas.Str.{chars_past_char, chars-nil}
use Rattle.syntect_writers.specs.Identifier.{needs_no_escape, identifier_char, identifier_chars, identifier}

pub stands_ascii : (first : _) (c : ℕ) → needs_no_escape first c ≡ true → c < 128
stands_ascii true c e = grind (arith, nat_tests)
stands_ascii false c e = grind (arith, nat_tests)

pub char_stands : (first : _) (c : ℕ) → needs_no_escape first c ≡ true → identifier_char first c ≡ c ∷ []
char_stands first c e = rw e refl

empty_of : (xs : List ℕ) → length xs ≡ 0 → xs ≡ []
empty_of [] e = refl
empty_of (x ∷ xs) e = absurd (omega arith)

-- the first character was written
pub first_char : (text rest : List ℕ) (c : ℕ) (out new : List ℕ) → IsUtf8 text → text ≡ encode_utf8 c ++ rest → new ≡ out ++ identifier_char true c
    → new ++ flat_map (identifier_char false) (chars rest) ≡ out ++ identifier text
first_char text rest c out new u s e =
    ap (λ (l : List ℕ). l ++ flat_map (identifier_char false) (chars rest)) e
    ∙ append_assoc out (identifier_char true c) (flat_map (identifier_char false) (chars rest))
    ∙ ap (λ (cs : List ℕ). out ++ identifier_chars cs) (sym (chars_past_char text rest c u s))

-- one more character was written
pub next_char : (x y : Chars) (c : ℕ) (out new whole : List ℕ) → IsUtf8 (chars_rest x) → chars_rest x ≡ encode_utf8 c ++ chars_rest y → new ≡ out ++ identifier_char false c
    → out ++ flat_map (identifier_char false) (chars (chars_rest x)) ≡ whole → new ++ flat_map (identifier_char false) (chars (chars_rest y)) ≡ whole
next_char x y c out new whole u s e w =
    let left : List ℕ = flat_map (identifier_char false) (chars (chars_rest y)) in
    ap (λ (bs : List ℕ). bs ++ left) e
    ∙ append_assoc out (identifier_char false c) left
    ∙ ap (λ (cs : List ℕ). out ++ flat_map (identifier_char false) cs) (sym (chars_past_char (chars_rest x) (chars_rest y) c u s))
    ∙ w

-- no character is left
pub last_char : (x : Chars) (out whole : List ℕ) → length (chars_rest x) ≡ 0 → out ++ flat_map (identifier_char false) (chars (chars_rest x)) ≡ whole → out ≡ whole
last_char x out whole e w =
    sym (append-nil out)
    ∙ ap (λ (cs : List ℕ). out ++ flat_map (identifier_char false) cs) (sym (ap chars (empty_of (chars_rest x) e) ∙ chars-nil))
    ∙ w
