-- Laws of texts in HTML and of lines.
use Rattle.std.proofs.Common.{◌≡◌, ℕ, true, false, ◌==◌, List, [], ◌∷◌, ◌++◌, inl, inr, arith, refl, ap, ◌∙◌}
use Rattle.std.specs.List.{concat, list_all}
use Rattle.std.proofs.lemmas.Bool.{cases_Bool}
use Rattle.std.proofs.lemmas.Bool.Decides.{nat_tests}
use Rattle.syntect_writers.specs.Entities.{entity, escaped}
use Rattle.syntect_writers.specs.Names.{shown_text, shown_behind, is_harmless}
use Rattle.syntect_writers.specs.Lines.{lines_of, before_lines, are_lines}

-- ---- HTML ----

show_one : (b : ℕ) (rest : List ℕ) → shown_text (entity b ++ rest) ≡ b ∷ shown_text rest
unfolding entity shown_behind
show_one b rest =
    elim (cases_Bool (b == 60)) [
      | inl e1 ↦ let same : 60 ≡ b = grind (arith, nat_tests) in rw (e1) (ap (λ (c : ℕ). c ∷ shown_text rest) same)
      | inr f1 ↦ elim (cases_Bool (b == 62)) [
        | inl e2 ↦ let same : 62 ≡ b = grind (arith, nat_tests) in rw (f1, e2) (ap (λ (c : ℕ). c ∷ shown_text rest) same)
        | inr f2 ↦ elim (cases_Bool (b == 38)) [
          | inl e3 ↦ let same : 38 ≡ b = grind (arith, nat_tests) in rw (f1, f2, e3) (ap (λ (c : ℕ). c ∷ shown_text rest) same)
          | inr f3 ↦ elim (cases_Bool (b == 39)) [
            | inl e4 ↦ let same : 39 ≡ b = grind (arith, nat_tests) in rw (f1, f2, f3, e4) (ap (λ (c : ℕ). c ∷ shown_text rest) same)
            | inr f4 ↦ elim (cases_Bool (b == 34)) [
              | inl e5 ↦ let same : 34 ≡ b = grind (arith, nat_tests) in rw (f1, f2, f3, f4, e5) (ap (λ (c : ℕ). c ∷ shown_text rest) same)
              | inr f5 ↦ rw (f1, f2, f3, f4, f5, f3) refl
            ]
          ]
        ]
      ]
    ]

pub shown : (text : List ℕ) → shown_text (escaped text) ≡ text
unfolding shown_behind
shown [] = refl
shown (b ∷ t) = show_one b (escaped t) ∙ ap (λ (xs : List ℕ). b ∷ xs) (shown t)

harmless_one : (b : ℕ) (rest : List ℕ) → list_all is_harmless rest ≡ true → list_all is_harmless (entity b ++ rest) ≡ true
unfolding entity
harmless_one b rest h =
    elim (cases_Bool (b == 60)) [
      | inl e1 ↦ rw (e1) h
      | inr f1 ↦ elim (cases_Bool (b == 62)) [
        | inl e2 ↦ rw (f1, e2) h
        | inr f2 ↦ elim (cases_Bool (b == 38)) [
          | inl e3 ↦ rw (f1, f2, e3) h
          | inr f3 ↦ elim (cases_Bool (b == 39)) [
            | inl e4 ↦ rw (f1, f2, f3, e4) h
            | inr f4 ↦ elim (cases_Bool (b == 34)) [
              | inl e5 ↦ rw (f1, f2, f3, f4, e5) h
              | inr f5 ↦ rw (f1, f2, f3, f4, f5, f1, f2, f4, f5) h
            ]
          ]
        ]
      ]
    ]

pub harmless : (text : List ℕ) → list_all is_harmless (escaped text) ≡ true
harmless [] = refl
harmless (b ∷ t) = harmless_one b (escaped t) (harmless t)

-- ---- lines ----

join_before : (b : ℕ) (lines : List (List ℕ)) → concat (before_lines b lines) ≡ b ∷ concat lines
join_before b [] = refl
join_before b (line ∷ lines) = refl

pub joined : (text : List ℕ) → concat (lines_of text) ≡ text
unfolding lines_of
joined [] = refl
joined (b ∷ t) =
    elim (cases_Bool (b == 10)) [
      | inl e1 ↦ let same : 10 ≡ b = grind (arith, nat_tests) in rw (e1, joined t) (ap (λ (c : ℕ). c ∷ t) same)
      | inr e2 ↦ rw (e2) (join_before b (lines_of t) ∙ ap (λ (xs : List ℕ). b ∷ xs) (joined t))
    ]

more_front : (b : ℕ) (lines : List (List ℕ)) → (b == 10) ≡ false → are_lines lines ≡ true → are_lines (before_lines b lines) ≡ true
more_front b [] e h = rw (e) refl
more_front b ([] ∷ []) e h = let f : false ≡ true = h in cc
more_front b ((c ∷ r) ∷ []) e h = rw (e) h
more_front b ([] ∷ (next ∷ lines)) e h = let f : false ≡ true = h in cc
more_front b ((c ∷ r) ∷ (next ∷ lines)) e h = rw (e) h

more_line : (lines : List (List ℕ)) → are_lines lines ≡ true → are_lines ((10 ∷ []) ∷ lines) ≡ true
more_line [] h = refl
more_line (line ∷ lines) h = h

pub ended : (text : List ℕ) → are_lines (lines_of text) ≡ true
unfolding lines_of
ended [] = refl
ended (b ∷ t) =
    elim (cases_Bool (b == 10)) [
      | inl e1 ↦ rw (e1) (more_line (lines_of t) (ended t))
      | inr e2 ↦ rw (e2) (more_front b (lines_of t) e2 (ended t))
    ]
