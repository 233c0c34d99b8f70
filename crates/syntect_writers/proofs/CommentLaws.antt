-- What is kept of a name while it is read.
use Rattle.std.proofs.Common.{◌≡◌, ℕ, ◌-◌, ◌==◌, Bool, true, false, not, ◌&&◌, List, [], ◌∷◌, ◌++◌, length, take, refl, sym, ◌∙◌, ap, arith, append_assoc, append-nil}
use Rattle.std.specs.Prelude.{encode_utf8, if◌then◌else◌, IsUtf8, chars, slice_get, Some}
use Rattle.std.proofs.lemmas.Bool.Decides.{nat_tests}
use Rattle.std.proofs.lemmas.Str.{chars_past_char, chars-nil}
use Rattle.std.specs.Str.Iter.{chars_rest}
use Rattle.std.specs.declared.str.Chars.{Chars}
use native.Mathlib.Numerals.{unary_clauses}
use Rattle.syntect_writers.specs.Comment.{is_left_out, ends_comment, ends_with_star, told_before, told_chars, can_be_told}

pub both : (a b : Bool) → (a && b) ≡ true → (a ≡ true) × (b ≡ true)
both true b e = (refl, e)
both false b e = absurd (cc)

pub none : (b : Bool) → not b ≡ true → b ≡ false
none true e = absurd (cc)
none false e = refl

-- ---- a character more ----

-- what is kept of the rest decides
told_alike : (kept xs ys : List ℕ) → told_chars xs ≡ told_chars ys → told_chars (kept ++ xs) ≡ told_chars (kept ++ ys)
told_alike [] xs ys e = e
told_alike (k ∷ ks) xs ys e = ap (λ (l : List ℕ). if is_left_out k then l else told_before k l) (told_alike ks xs ys e)

-- a character that isn't told
pub told_past : (kept rest : List ℕ) (c : ℕ) → is_left_out c ≡ true → told_chars (kept ++ rest) ≡ told_chars (kept ++ (c ∷ rest))
told_past kept rest c e = told_alike kept rest (c ∷ rest) (rw e refl)

star_and_slash : (t : List ℕ) → told_before 42 (told_before 47 t) ≡ t
star_and_slash [] = refl
star_and_slash (d ∷ ds) = refl

-- a slash that takes the star along
pub told_without_star : (front rest : List ℕ) → told_chars (front ++ rest) ≡ told_chars ((front ++ (42 ∷ [])) ++ (47 ∷ rest))
told_without_star front rest =
    told_alike front rest (42 ∷ (47 ∷ rest)) (sym (star_and_slash (told_chars rest)))
    ∙ ap told_chars (sym (append_assoc front (42 ∷ []) (47 ∷ rest)))

-- a character that is kept
pub told_more : (kept rest : List ℕ) (c : ℕ) → told_chars ((kept ++ (c ∷ [])) ++ rest) ≡ told_chars (kept ++ (c ∷ rest))
told_more kept rest c = ap told_chars (append_assoc kept (c ∷ []) rest)

-- ---- what can be kept ----

pub whole_front : (kept : List ℕ) (c : ℕ) → can_be_told (kept ++ (c ∷ [])) ≡ true → can_be_told kept ≡ true
whole_front [] c e = refl
whole_front (k ∷ []) c e =
    let p = both (not (is_left_out k)) _ e in
    rw (p.0) refl
whole_front (k ∷ (l ∷ ls)) c e =
    let p = both (not (is_left_out k)) _ e in
    let q = both (not (ends_comment k (l ∷ ls))) _ p.1 in
    rw (p.0, q.0) (whole_front (l ∷ ls) c q.1)

pub whole_more : (kept : List ℕ) (c : ℕ) → can_be_told kept ≡ true → is_left_out c ≡ false → (ends_with_star kept && (c == 47)) ≡ false → can_be_told (kept ++ (c ∷ [])) ≡ true
whole_more [] c e o s = rw o refl
whole_more (k ∷ []) c e o s =
    let p = both (not (is_left_out k)) _ e in
    rw (p.0, s, o) refl
whole_more (k ∷ (l ∷ ls)) c e o s =
    let p = both (not (is_left_out k)) _ e in
    let q = both (not (ends_comment k (l ∷ ls))) _ p.1 in
    rw (p.0, q.0) (whole_more (l ∷ ls) c q.1 o s)

-- a text of which all can be kept is kept as it is
pub told_whole : (cs : List ℕ) → can_be_told cs ≡ true → told_chars cs ≡ cs
told_whole [] e = refl
told_whole (c ∷ []) e =
    let p = both (not (is_left_out c)) _ e in
    rw (none (is_left_out c) p.0) refl
told_whole (c ∷ (d ∷ ds)) e =
    let p = both (not (is_left_out c)) _ e in
    let q = both (not (ends_comment c (d ∷ ds))) _ p.1 in
    rw (none (is_left_out c) p.0, told_whole (d ∷ ds) q.1, none (ends_comment c (d ∷ ds)) q.0) refl

-- what is kept can be kept
pub whole_told : (cs : List ℕ) → can_be_told (told_chars cs) ≡ true
whole_told [] = refl
whole_told (c ∷ cs) = by_case (is_left_out c) refl (whole_told cs)
  where
    before : (t : List ℕ) → can_be_told t ≡ true → is_left_out c ≡ false → can_be_told (told_before c t) ≡ true
    before [] e o = rw o refl
    before (d ∷ ds) e o = by_pair (ends_comment c (d ∷ ds)) refl
      where
        by_pair : (b : Bool) → ends_comment c (d ∷ ds) ≡ b → can_be_told (told_before c (d ∷ ds)) ≡ true
        by_pair true p =
            let q = both (not (is_left_out d)) _ e in
            rw p (both (not (ends_comment d ds)) _ q.1).1
        by_pair false p = rw p (rw (o, p) e)

    by_case : (b : Bool) → is_left_out c ≡ b → can_be_told (told_chars cs) ≡ true → can_be_told (told_chars (c ∷ cs)) ≡ true
    by_case true o h = rw o h
    by_case false o h = rw o (before (told_chars cs) h o)

-- ---- the last character ----

snoc_star : (front : List ℕ) (c : ℕ) → ends_with_star (front ++ (c ∷ [])) ≡ (c == 42)
snoc_star [] c = refl
snoc_star (k ∷ []) c = refl
snoc_star (k ∷ (l ∷ ls)) c = snoc_star (l ∷ ls) c

-- what is kept as a character is looked at in a list
pub last_star : (cs : List ℕ) (x : ℕ) → slice_get cs (length cs - 1) ≡ Some x → ends_with_star cs ≡ (x == 42)
last_star [] x e = absurd (cc)
last_star (c ∷ []) x e = ap (λ (n : ℕ). n == 42) (some_same c x e)
  where
    some_same : (c x : ℕ) → Some c ≡ Some x → c ≡ x
    some_same c x e = cc
last_star (c ∷ (d ∷ ds)) x e = last_star (d ∷ ds) x (simp unary_clauses (simp unary_clauses at e))

pub more_of : (seen kept : List ℕ) (c : ℕ) → seen ≡ kept → (ends_with_star seen && (c == 47)) ≡ false → (ends_with_star kept && (c == 47)) ≡ false
more_of seen kept c e s = ap (λ (l : List ℕ). ends_with_star l && (c == 47)) (sym e) ∙ s

star_last : (cs : List ℕ) → ends_with_star cs ≡ true → cs ≡ take (length cs - 1) cs ++ (42 ∷ [])
star_last [] e = absurd (cc)
star_last (c ∷ []) e = ap (λ (n : ℕ). n ∷ []) (let same : c ≡ 42 = grind (arith, nat_tests) in same)
star_last (c ∷ (d ∷ ds)) e = simp unary_clauses (ap (λ (l : List ℕ). c ∷ l) (simp unary_clauses at (star_last (d ∷ ds) e)))

-- a star that is taken back
pub popped : (seen kept front : List ℕ) (n c : ℕ) → length seen ≡ n → front ≡ take (n - 1) kept → seen ≡ kept → (ends_with_star seen && (c == 47)) ≡ true
    → ((rest : List ℕ) → told_chars (front ++ rest) ≡ told_chars (kept ++ (c ∷ rest))) × (can_be_told kept ≡ true → can_be_told front ≡ true)
popped seen kept front n c l f k e =
    let p = both (ends_with_star seen) (c == 47) e in
    let is : c ≡ 47 = grind (arith, nat_tests, p.1) in
    let whole : kept ≡ front ++ (42 ∷ []) = star_last kept (ap ends_with_star (sym k) ∙ p.0) ∙ ap (λ (l : List ℕ). l ++ (42 ∷ [])) (ap (λ (m : ℕ). take (m - 1) kept) (sym (ap length k) ∙ l) ∙ sym f) in (
      (λ rest. told_without_star front rest ∙ ap (λ (l : List ℕ). told_chars (l ++ (47 ∷ rest))) (sym whole) ∙ ap (λ (n : ℕ). told_chars (kept ++ (n ∷ rest))) (sym is)),
      (λ t. whole_front front 42 (ap can_be_told (sym whole) ∙ t)),
    )

-- ---- a name ----

empty_of : (xs : List ℕ) → length xs ≡ 0 → xs ≡ []
empty_of [] e = refl
empty_of (x ∷ xs) e = absurd (omega arith)

-- one more character was read
pub next_told : (x y : Chars) (c : ℕ) (kept new name : List ℕ) → IsUtf8 (chars_rest x) → chars_rest x ≡ encode_utf8 c ++ chars_rest y
    → ((rest : List ℕ) → told_chars (new ++ rest) ≡ told_chars (kept ++ (c ∷ rest))) → told_chars (kept ++ chars (chars_rest x)) ≡ name
    → told_chars (new ++ chars (chars_rest y)) ≡ name
next_told x y c kept new name u s t e =
    t (chars (chars_rest y)) ∙ ap (λ (cs : List ℕ). told_chars (kept ++ cs)) (sym (chars_past_char (chars_rest x) (chars_rest y) c u s)) ∙ e

-- no character is left
pub last_told : (x : Chars) (kept name : List ℕ) → length (chars_rest x) ≡ 0 → can_be_told kept ≡ true → told_chars (kept ++ chars (chars_rest x)) ≡ name → kept ≡ name
last_told x kept name l w e =
    sym (told_whole kept w)
    ∙ ap told_chars (sym (append-nil kept))
    ∙ ap (λ (cs : List ℕ). told_chars (kept ++ cs)) (sym (ap chars (empty_of (chars_rest x) l) ∙ chars-nil))
    ∙ e
