-- Parts, characters and signs at the front of a text.
use Rattle.std.proofs.Common.{◌≡◌, ℕ, zero, suc, ◌+◌, ◌-◌, ◌<◌, ◌≤◌, false, List, [], ◌∷◌, ◌++◌, length, get_or, take, drop, refl, sym, ap, ◌∙◌, inl, inr, arith, append_assoc}
use Rattle.std.proofs.lemmas.Bool.{cases_lt}
use Rattle.std.proofs.lemmas.Bool.Decides.{nat_tests, eqb_tells}
use Rattle.std.proofs.lemmas.List.{get_or_past, length-take-le, get_or-take}
use Rattle.std.proofs.lemmas.List.Sums.{prefix_len-le-length, prefix_len_stops}
use Rattle.std.proofs.lemmas.Str.{IsCharBoundary-from_rest}
use Rattle.std.specs.Prelude.{flat_map}
use Rattle.std.specs.List.{prefix_len}
use Rattle.std.specs.Str.{IsCharBoundary}
use Rattle.syntect_grammar_rewrite.specs.Cutting.{parts_behind, parts, goes_on, char_len, sign_len, sign}

behind : {A : Type 0} (len : List ℕ → ℕ) (part : List ℕ → A) (k : ℕ) (t : List ℕ) → parts_behind len part k t ≡ parts_behind len part 0 (drop k t)
behind len part zero t = refl
behind len part (suc k) [] = refl
behind len part (suc k) (c ∷ t) = behind len part k t

pred-drop : (n : ℕ) (c : ℕ) (t : List ℕ) → 0 < n → drop (n - 1) t ≡ drop n (c ∷ t)
pred-drop zero c t h = absurd (omega arith)
pred-drop (suc n) c t h = ap (λ (k : ℕ). drop k t) (omega arith)

-- the first part of a text, and the parts of what follows it
pub parts-cons : {A : Type 0} (len : List ℕ → ℕ) (part : List ℕ → A) (t : List ℕ) → 0 < length t → 0 < len t → parts len part t ≡ part t ∷ parts len part (drop (len t) t)
unfolding parts
parts-cons len part [] some h = absurd (omega arith)
parts-cons len part (c ∷ t) some h =
    ap (λ ps. part (c ∷ t) ∷ ps) (behind len part (len (c ∷ t) - 1) t ∙ ap (parts_behind len part 0) (pred-drop (len (c ∷ t)) c t h))

pub parts-none : {A : Type 0} (len : List ℕ → ℕ) (part : List ℕ → A) (t : List ℕ) → length t ≡ 0 → parts len part t ≡ []
unfolding parts
parts-none len part [] none = refl
parts-none len part (c ∷ t) none = absurd (omega arith)

pub flat-cons : {A : Type 0} (f : A → List ℕ) (len : List ℕ → ℕ) (part : List ℕ → A) (t : List ℕ) → 0 < length t → 0 < len t → flat_map f (parts len part t) ≡ f (part t) ++ flat_map f (parts len part (drop (len t) t))
flat-cons f len part t some h = ap (flat_map f) (parts-cons len part t some h)

-- a text may be cut after its first character
pub char_boundary : (t : List ℕ) → IsCharBoundary t (char_len t)
char_boundary [] = (omega arith, λ h. absurd (omega arith))
char_boundary (c ∷ t) =
    let n : ℕ = prefix_len goes_on t in
    let within : prefix_len goes_on t ≤ length t = prefix_len-le-length goes_on t in
    let one : 1 + prefix_len goes_on t ≡ suc (prefix_len goes_on t) = omega arith in
    rw one (
      omega arith,
      λ more.
          let stops : goes_on (get_or t (prefix_len goes_on t) 0) ≡ false = prefix_len_stops goes_on t 0 (omega arith) in
          λ high. grind (arith, nat_tests, stops),
    )

pub char_some : (t : List ℕ) → 0 < length t → 0 < char_len t
char_some [] h = absurd (omega arith)
char_some (c ∷ t) h = omega arith

pub char_len-none : (t : List ℕ) → length t ≡ 0 → char_len t ≡ 0
char_len-none [] h = refl
char_len-none (c ∷ t) h = absurd (omega arith)

pub char_len-some : (t : List ℕ) → 0 < length t → char_len t ≡ 1 + prefix_len goes_on (drop 1 t)
char_len-some [] h = absurd (omega arith)
char_len-some (c ∷ t) h = refl

pub ruleset char_lens = (char_len-none, char_len-some, char_boundary)

-- a byte that is not 0 stands inside the text
pub inside : (xs : List ℕ) (i : ℕ) → 0 < get_or xs i 0 → i < length xs
inside xs i h = elim (cases_lt i (length xs)) [ inl within ↦ within | inr past ↦ absurd (omega (arith, get_or_past xs i 0 past)) ]

-- a turn of a loop that writes a text from its front on
pub step : (F : List ℕ → List ℕ) (whole out new t back w : List ℕ) (n : ℕ) → F t ≡ w ++ F (drop n t) → back ≡ drop n t → new ≡ out ++ w → out ++ F t ≡ whole → new ++ F back ≡ whole
step F whole out new t back w n turn rest more so_far =
    ap (λ (x : List ℕ). x ++ F back) more ∙ append_assoc out w (F back) ∙ ap (λ (x : List ℕ). out ++ (w ++ F x)) rest ∙ ap (λ (x : List ℕ). out ++ x) (sym turn) ∙ so_far

escaped_boundary : (t : List ℕ) → 0 < length t → IsCharBoundary t (1 + char_len (drop 1 t))
escaped_boundary t some = IsCharBoundary-from_rest t 1 (char_len (drop 1 t)) (omega arith) (char_boundary (drop 1 t))

-- a text may be cut after its first sign
pub sign_boundary : (t : List ℕ) → IsCharBoundary t (sign_len t)
unfolding sign_len
sign_boundary [] = char_boundary []
sign_boundary (c ∷ t) = elim (eqb_tells c 92) [
  | inl e ↦ rw e.0 (escaped_boundary (c ∷ t) (omega arith))
  | inr e ↦ rw e.0 (char_boundary (c ∷ t))
]

pub sign_some : (t : List ℕ) → 0 < length t → 0 < sign_len t
unfolding sign_len
sign_some [] some = absurd (omega arith)
sign_some (c ∷ t) some = elim (eqb_tells c 92) [ inl e ↦ rw e.0 (omega arith) | inr e ↦ rw e.0 (omega arith) ]

pub length-sign : (t : List ℕ) → length (sign t) ≡ sign_len t
unfolding sign
length-sign t = length-take-le (sign_len t) t (sign_boundary t).0

-- a part of a text that is not empty begins as the text does
pub first-take : (n : ℕ) (t : List ℕ) → 0 < n → get_or (take n t) 0 0 ≡ get_or t 0 0
first-take n t some = get_or-take n t 0 0 some
