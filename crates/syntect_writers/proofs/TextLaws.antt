-- Where texts are cut, and what their parts are.
use Rattle.std.proofs.Common.{◌≡◌, ℕ, suc, ◌+◌, ◌<◌, Bool, true, false, ◌==◌, not, List, [], ◌∷◌, ◌++◌, length, take, drop, IsUtf8, inl, inr, arith, refl, sym, ap, ◌∙◌, add-one}
use Rattle.std.specs.Prelude.{slice_index}
use Rattle.std.specs.List.{prefix_len}
use Rattle.std.specs.Str.{IsCharBoundary}
use Rattle.std.proofs.lemmas.Bool.{cases_Bool}
use Rattle.std.proofs.lemmas.Bool.Decides.{nat_tests}
use Rattle.std.proofs.lemmas.List.Sums.{prefix_len_stops}
use Rattle.std.proofs.lemmas.Str.{IsCharBoundary-before_ascii, IsCharBoundary-after_ascii}
use Rattle.syntect_writers.specs.Entities.{entity, escaped}
use Rattle.syntect_writers.specs.Lines.{lines_of, before_lines}
use Rattle.syntect_writers.specs.Text.{is_plain, is_in_line}

-- a byte that has a meaning is ASCII
pub plain_stop : (b : ℕ) → is_plain b ≡ false → b < 128
plain_stop b e = grind (arith, nat_tests)

pub line_ascii : (b : ℕ) → is_in_line b ≡ false → b < 128
line_ascii b e = grind (arith, nat_tests)

-- what stops a front is where it ends
pub stops : (p : ℕ → Bool) (t : List ℕ) (n : ℕ) → n ≡ prefix_len p t → n < length t → p (slice_index t n) ≡ false
stops p t n e h = rw (e) (prefix_len_stops p t 0 (rw (← e) h))

pub boundary : (t : List ℕ) (n : ℕ) → n < length t → slice_index t n < 128 → IsCharBoundary t n
boundary t n h a = IsCharBoundary-before_ascii t n h a

pub boundary_behind : (t : List ℕ) (n : ℕ) → IsUtf8 t → n < length t → slice_index t n < 128 → IsCharBoundary t (n + 1)
boundary_behind t n u h a = IsCharBoundary-after_ascii t n u h a

step_on : (p : ℕ → Bool) (b : ℕ) (t : List ℕ) → p b ≡ true → prefix_len p (b ∷ t) ≡ suc (prefix_len p t)
step_on p b t e = let one : 1 + prefix_len p t ≡ suc (prefix_len p t) = omega arith in rw (e) one

step_off : (p : ℕ → Bool) (b : ℕ) (t : List ℕ) → p b ≡ false → prefix_len p (b ∷ t) ≡ 0
step_off p b t e = rw (e) refl

-- ---- HTML ----

pub entity_plain : (b : ℕ) → is_plain b ≡ true → entity b ≡ b ∷ []
unfolding entity
entity_plain b e = grind (arith, nat_tests)

-- a text without such a byte stands as it is
pub escaped_whole : (t : List ℕ) → prefix_len is_plain t ≡ length t → escaped t ≡ t
escaped_whole [] e = refl
escaped_whole (b ∷ t) e =
    elim (cases_Bool (is_plain b)) [
      | inl e1 ↦
          let same : prefix_len is_plain t ≡ length t = omega (arith, step_on is_plain b t e1, e) in
          rw (entity_plain b e1, escaped_whole t same)
      | inr e2 ↦ absurd (omega (arith, step_off is_plain b t e2, e))
    ]

-- a text at its first byte that has a meaning
pub escaped_parts : (t : List ℕ) → prefix_len is_plain t < length t
    → escaped t ≡ take (prefix_len is_plain t) t ++ (entity (slice_index t (prefix_len is_plain t)) ++ escaped (drop (suc (prefix_len is_plain t)) t))
escaped_parts [] h = absurd (omega (arith, h))
escaped_parts (b ∷ t) h =
    elim (cases_Bool (is_plain b)) [
      | inl e1 ↦
          let less : prefix_len is_plain t < length t = omega (arith, step_on is_plain b t e1, h) in
          rw (step_on is_plain b t e1, entity_plain b e1) (ap (λ (xs : List ℕ). b ∷ xs) (escaped_parts t less))
      | inr e2 ↦ rw (step_off is_plain b t e2) refl
    ]

-- ---- lines ----

-- a text at its first newline
pub line_parts : (t : List ℕ) → prefix_len is_in_line t < length t → lines_of t ≡ take (suc (prefix_len is_in_line t)) t ∷ lines_of (drop (suc (prefix_len is_in_line t)) t)
unfolding lines_of
line_parts [] h = absurd (omega (arith, h))
line_parts (b ∷ t) h =
    elim (cases_Bool (b == 10)) [
      | inl e1 ↦ let same : 10 ≡ b = grind (arith, nat_tests) in rw (step_off is_in_line b t (ap not e1), e1) (ap (λ (c : ℕ). (c ∷ []) ∷ lines_of t) same)
      | inr e2 ↦
          let less : prefix_len is_in_line t < length t = omega (arith, step_on is_in_line b t (ap not e2), h) in
          rw (step_on is_in_line b t (ap not e2), e2) (ap (before_lines b) (line_parts t less))
    ]

-- a text without one
pub line_whole : (b : ℕ) (t : List ℕ) → prefix_len is_in_line (b ∷ t) ≡ length (b ∷ t) → lines_of (b ∷ t) ≡ (b ∷ t) ∷ []
unfolding lines_of
line_whole b [] e =
    elim (cases_Bool (b == 10)) [
      | inl e1 ↦ absurd (omega (arith, step_off is_in_line b [] (ap not e1), e))
      | inr e2 ↦ rw (e2) refl
    ]
line_whole b (c ∷ t) e =
    elim (cases_Bool (b == 10)) [
      | inl e1 ↦ absurd (omega (arith, step_off is_in_line b (c ∷ t) (ap not e1), e))
      | inr e2 ↦
          let same : prefix_len is_in_line (c ∷ t) ≡ length (c ∷ t) = omega (arith, step_on is_in_line b (c ∷ t) (ap not e2), e) in
          rw (e2) (ap (before_lines b) (line_whole c t same))
    ]

-- ---- the same where the code has the place by its name ----

pub ascii_at : (p : ℕ → Bool) → ((b : ℕ) → p b ≡ false → b < 128) → (t : List ℕ) (n : ℕ) → n ≡ prefix_len p t → n < length t → slice_index t n < 128
ascii_at p ascii t n e h = ascii _ (stops p t n e h)

pub escaped_at : (t : List ℕ) (n : ℕ) → n ≡ prefix_len is_plain t → n < length t → escaped t ≡ take n t ++ (entity (slice_index t n) ++ escaped (drop (n + 1) t))
escaped_at t n e h = rw (add-one, e) (escaped_parts t (rw (← e) h))

pub lines_at : (t : List ℕ) (n : ℕ) → n ≡ prefix_len is_in_line t → n < length t → lines_of t ≡ take (n + 1) t ∷ lines_of (drop (n + 1) t)
lines_at t n e h = rw (add-one, e) (line_parts t (rw (← e) h))

pub one_line : (t : List ℕ) (n : ℕ) → n ≡ prefix_len is_in_line t → n ≡ length t → 0 < length t → lines_of t ≡ t ∷ lines_of []
unfolding lines_of
one_line [] n e h k = absurd (omega arith)
one_line (b ∷ t) n e h k = line_whole b t (sym e ∙ h)

pub no_lines : (t : List ℕ) → length t ≡ 0 → lines_of t ≡ []
unfolding lines_of
no_lines [] e = refl
no_lines (b ∷ t) e = absurd (omega arith)
