-- Parts of a text, character by character.
use Rattle.std.proofs.Common.{Some, None, ◌≡◌, ℕ, suc, ◌+◌, ◌-◌, ◌*◌, ◌≤◌, ◌<◌, Bool, true, false, List, [], ◌∷◌, ◌++◌, length, take, drop, subst, refl, sym, ◌∙◌, ap, arith, leb-true, length-append}
use Rattle.std.specs.Prelude.{slice_get, IsUtf8, IsCharBoundary, encode_utf8, chars, nat_le, min, fold, if◌then◌else◌}
use Rattle.std.specs.Char.{digit_value}
use Rattle.std.specs.Str.Iter.{chars_rest}
use Rattle.std.specs.declared.str.Chars.{Chars}
use Rattle.std.proofs.lemmas.Bool.Decides.{nat_tests}
use Rattle.std.proofs.lemmas.Str.{chars_past_char, chars-nil, chars-append, IsUtf8-take, IsCharBoundary-at_seam, length-encode, len_utf8_bounds}
use Rattle.std.proofs.lemmas.List.{append_cancel_right, append_assoc, drop_at, take-append-drop}
use Rattle.std.proofs.Math.Nat.{le-mul_of_pos_right}
use Rattle.syntect_pattern.specs.Reading.{Text, first, run}
use Rattle.syntect_pattern_words.specs.TextViews.{IsRest, BeginsWith}

empty_of : (xs : List ℕ) → length xs ≡ 0 → xs ≡ []
empty_of [] e = refl
empty_of (x ∷ xs) e = absurd (omega arith)

-- none is left
pub over : (text : List ℕ) (x : Chars) → chars_rest x ≡ text → length (chars_rest x) ≡ 0 → chars text ≡ []
over text x e n = ap chars (sym e ∙ empty_of (chars_rest x) n) ∙ chars-nil

-- one comes off
pub begins-with : (text out : List ℕ) (x y : Chars) (c : ℕ) → IsUtf8 text → chars_rest x ≡ text → chars_rest x ≡ encode_utf8 c ++ chars_rest y → out ≡ chars_rest y → BeginsWith text c out
begins-with text out x y c u e s o =
    let whole : text ≡ encode_utf8 c ++ out = sym e ∙ s ∙ ap (λ t. encode_utf8 c ++ t) (sym o) in
    record {
      letters = chars_past_char text out c u whole;
      whole = whole;
      shorter = omega (arith, ap length whole, length-append (encode_utf8 c) out, length-encode c, (len_utf8_bounds c).0);
    }

-- what follows a rest is a rest
pub rest-itself : (text : List ℕ) → IsRest text text
rest-itself text = record { front = []; whole = refl }

pub rest-more : (text rest more : List ℕ) (c : ℕ) → IsRest text rest → BeginsWith rest c more → IsRest text more
rest-more text rest more c r b = record {
  front = r.front ++ encode_utf8 c;
  whole = r.whole ∙ ap (λ t. r.front ++ t) b.whole ∙ sym (append_assoc r.front (encode_utf8 c) more);
}

-- so many less one after the first
pub drop-more : (rest more : List ℕ) (c n : ℕ) → 0 < n → BeginsWith rest c more → drop (n - 1) (chars more) ≡ drop n (chars rest)
drop-more rest more c n l b =
    let same : n ≡ suc (n - 1) = omega arith in
    sym (ap (λ k. drop k (chars rest)) same ∙ ap (drop (suc (n - 1))) b.letters)

-- -- What stands before a rest

module _ (text rest : List ℕ) (r : IsRest text rest) (u : IsUtf8 text) (v : IsUtf8 rest) where
  before-len : length text - length rest ≡ length r.front
  before-len = omega (arith, ap length r.whole, length-append r.front rest)

  pub cut-boundary : IsCharBoundary text (length text - length rest)
  cut-boundary = subst (IsCharBoundary text) (sym before-len) (IsCharBoundary-at_seam text r.front rest r.whole v)

  pub cut-chars : (front : List ℕ) → front ≡ take (length text - length rest) text → chars text ≡ chars front ++ chars rest
  cut-chars front e =
      let n = length text - length rest in
      let back : drop n text ≡ rest = ap (λ k. drop k text) before-len ∙ ap (drop (length r.front)) r.whole ∙ drop_at r.front rest (length r.front) refl in
      ap chars (sym (take-append-drop n text)) ∙ chars-append (take n text) (drop n text) (IsUtf8-take text n u cut-boundary)
      ∙ ap (λ t. chars t ++ chars (drop n text)) (sym e) ∙ ap (λ t. chars front ++ chars t) back

pub before-is : (whole front rest : Text) (n : ℕ) → whole ≡ front ++ rest → rest ≡ drop n whole → front ≡ take n whole
before-is whole front rest n e d =
    append_cancel_right front (take n whole) rest (sym e ∙ sym (take-append-drop n whole) ∙ ap (λ t. take n whole ++ t) (sym d))

pub begins-first : (text rest : List ℕ) (c : ℕ) → BeginsWith text c rest → first (chars text) ≡ Some c
unfolding first
begins-first text rest c b = ap (λ (t : Text). slice_get t 0) b.letters

pub begins-after : (text rest : List ℕ) (c : ℕ) → BeginsWith text c rest → chars rest ≡ drop 1 (chars text)
begins-after text rest c b = sym (ap (drop 1) b.letters)

pub none-first : (t : Text) → t ≡ [] → first t ≡ None
unfolding first
none-first t e = ap (λ (u : Text). slice_get u 0) e

-- -- Runs

run-goes : (test : ℕ → Bool) (c : ℕ) (t : Text) → test c ≡ true → run test (c ∷ t) ≡ (c ∷ (run test t).0, (run test t).1)
unfolding run
run-goes test c t e = ap (λ (b : Bool). if b then (c ∷ (run test t).0, (run test t).1) else ([], c ∷ t)) e

run-stops : (test : ℕ → Bool) (c : ℕ) (t : Text) → test c ≡ false → run test (c ∷ t) ≡ ([], c ∷ t)
unfolding run
run-stops test c t e = ap (λ (b : Bool). if b then (c ∷ (run test t).0, (run test t).1) else ([], c ∷ t)) e

pub run-over : (test : ℕ → Bool) (t : Text) → t ≡ [] → (run test t).1 ≡ t
unfolding run
run-over test t e = ap (λ u. (run test u).1) e ∙ sym e

pub run-ends : (test : ℕ → Bool) (rest more : List ℕ) (c : ℕ) → BeginsWith rest c more → test c ≡ false → (run test (chars rest)).1 ≡ chars rest
run-ends test rest more c b e = ap (λ t. (run test t).1) b.letters ∙ ap (λ (p : Text × Text). p.1) (run-stops test c (chars more) e) ∙ sym b.letters

pub run-on : (test : ℕ → Bool) (rest more : List ℕ) (c : ℕ) → BeginsWith rest c more → test c ≡ true → (run test (chars rest)).1 ≡ (run test (chars more)).1
run-on test rest more c b e = ap (λ t. (run test t).1) b.letters ∙ ap (λ (p : Text × Text). p.1) (run-goes test c (chars more) e)

run-parts : (test : ℕ → Bool) (t : Text) → t ≡ (run test t).0 ++ (run test t).1
unfolding run
run-parts test [] = refl
run-parts test (c ∷ t) = by_test (test c) (run-parts test t)
  where
    joined : Text × Text → Text
    joined p = p.0 ++ p.1

    by_test : (b : Bool) → t ≡ (run test t).0 ++ (run test t).1 → c ∷ t ≡ joined (if b then (c ∷ (run test t).0, (run test t).1) else ([], c ∷ t))
    by_test true e = ap (λ u. c ∷ u) e
    by_test false e = refl

pub run-is : (test : ℕ → Bool) (t front rest : Text) → (run test t).1 ≡ rest → t ≡ front ++ rest → run test t ≡ (front, rest)
run-is test t front rest e w =
    let same : (run test t).0 ≡ front = append_cancel_right (run test t).0 front rest (ap (λ u. (run test t).0 ++ u) (sym e) ∙ sym (run-parts test t) ∙ w) in
    ap (λ (u : Text). (u, (run test t).1)) same ∙ ap (λ (u : Text). (front, u)) e

-- -- Numbers

module _ (r l : ℕ) (pos : 0 < r) where
  one-capped : (d a b : ℕ) → min a l ≡ min b l → min (a * r + d) l ≡ min (b * r + d) l
  one-capped d a b e = by_test (nat_le (suc a) l) refl
    where
      by_test : (t : Bool) → nat_le (suc a) l ≡ t → min (a * r + d) l ≡ min (b * r + d) l
      by_test true q =
          let h = leb-true (suc a) l q in
          let same : a ≡ b = omega arith in
          ap (λ x. min (x * r + d) l) same
      by_test false q =
          let h : l ≤ a = grind (arith, nat_tests) in
          let x = le-mul_of_pos_right a pos in
          let y = le-mul_of_pos_right b pos in
          omega arith

  pub folds-capped : (ds : Text) (a b : ℕ) → min a l ≡ min b l → min (fold (λ n d. n * r + digit_value d) a ds) l ≡ min (fold (λ n d. n * r + digit_value d) b ds) l
  folds-capped [] a b e = e
  folds-capped (d ∷ ds) a b e = folds-capped ds (a * r + digit_value d) (b * r + digit_value d) (one-capped (digit_value d) a b e)

pub chars-over : (x : Chars) → length (chars_rest x) ≡ 0 → chars (chars_rest x) ≡ []
chars-over x e = ap chars (empty_of (chars_rest x) e) ∙ chars-nil
