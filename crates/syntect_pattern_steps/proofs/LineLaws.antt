-- Where lines begin.
use Rattle.std.proofs.Common.{◌≡◌, ◌≢◌, ◌-◌, ◌==◌, ◌&&◌, ◌||◌, inl, inr, ℕ, Bool, true, false, not, List, [], ◌∷◌, ◌++◌, length, take, get_or, refl, sym, ◌∙◌, ap, arith, Option, Some, None, ne_eqb, eqb-true, reverse, length-append}
use Rattle.std.specs.Prelude.{slice_get, IsUtf8, IsCharBoundary}
use Rattle.std.specs.Str.{chars}
use Rattle.std.proofs.Math.Utf8.{encode, encodes}
use Rattle.std.proofs.Math.Seq.{get_or-append_seam}
use Rattle.std.proofs.lemmas.List.{get_or-take, length-take-le, reverse-append, reverse-reverse}
use Rattle.std.proofs.lemmas.Bool.{cases_Bool}
use Rattle.std.proofs.lemmas.Str.{IsUtf8-take, encodes-chars, encodes-append}
use Rattle.syntect_pattern.specs.Text.{char_before}
use Rattle.syntect_pattern.specs.declared.anchor.Anchor.{Anchor}
use Rattle.syntect_pattern.specs.Matches.{anchor_holds, is_newline}

-- -- The byte before a place

first_of : (xs : List ℕ) (c : ℕ) → slice_get xs 0 ≡ Some c → (rest : List ℕ) × (xs ≡ c ∷ rest)
first_of [] c e = cc
first_of (x ∷ xs) c e = (xs, (let same : x ≡ c = (let q : Some x ≡ Some c = e in cc) in ap (λ y. y ∷ xs) same))

last_of : (xs : List ℕ) (c : ℕ) → slice_get (reverse xs) 0 ≡ Some c → (front : List ℕ) × (xs ≡ front ++ c ∷ [])
last_of xs c e =
    let r = first_of (reverse xs) c e in
    (reverse r.0, sym (reverse-reverse xs) ∙ ap reverse r.1 ∙ reverse-append (c ∷ []) r.0)

-- a newline is one byte
newline_byte : (t cs : List ℕ) (i : ℕ) → encodes cs ≡ t → length t ≡ i → slice_get (reverse cs) 0 ≡ Some 10 → get_or t (i - 1) 0 ≡ 10
unfolding encode
newline_byte t cs i e n h =
    let r = last_of cs 10 h in
    let front : List ℕ = encodes r.0 in
    let is : t ≡ front ++ 10 ∷ [] = sym e ∙ ap encodes r.1 ∙ encodes-append r.0 (10 ∷ []) in
    let at : i - 1 ≡ length front = omega (arith, ap length is, length-append front (10 ∷ []), n) in
    ap (λ (xs : List ℕ). get_or xs (i - 1) 0) is ∙ ap (λ (k : ℕ). get_or (front ++ 10 ∷ []) k 0) at ∙ get_or-append_seam front 10 [] 0

newline_before : (s : List ℕ) → IsUtf8 s → (i : ℕ) → IsCharBoundary s i → i ≢ 0 → is_newline (char_before s i) ≡ true → get_or s (i - 1) 0 ≡ 10
unfolding char_before
newline_before s u i b some y = go (slice_get (reverse (chars (take i s))) 0) refl y
  where
    go : (o : Option ℕ) → slice_get (reverse (chars (take i s))) 0 ≡ o → is_newline o ≡ true → get_or s (i - 1) 0 ≡ 10
    go None q z = cc
    go (Some c) q z =
        let ten : c ≡ 10 = eqb-true c 10 z in
        sym (get_or-take i s (i - 1) 0 (omega arith))
        ∙ newline_byte (take i s) (chars (take i s)) i (encodes-chars (take i s) (IsUtf8-take s i u b)) (length-take-le i s b.0) (q ∙ ap Some ten)

-- no line begins after another byte
pub no_line : (s : List ℕ) → IsUtf8 s → (i : ℕ) → i ≢ 0 → get_or s (i - 1) 0 ≢ 10 → IsCharBoundary s i → anchor_holds s Anchor.LineStart i ≡ false
no_line s u i some other b = elim (cases_Bool (is_newline (char_before s i))) [
  | inl y ↦ absurd (other (newline_before s u i b some y))
  | inr n ↦
      ap (λ (z : Bool). z || (is_newline (char_before s i) && not (i == length s))) (ne_eqb i 0 some)
      ∙ ap (λ (z : Bool). z && not (i == length s)) n
]
