-- Rows of places.
use Rattle.std.proofs.Common.{◌≡◌, ℕ, zero, suc, ◌+◌, ◌-◌, ◌<◌, List, [], ◌∷◌, ◌++◌, length, get_or, set, Option, None, Some, sym, ap, subst, ◌∙◌, arith, inl, inr, length-append}
use Rattle.std.specs.Prelude.{IfSome, IsCharBoundary}
use Rattle.std.proofs.lemmas.Bool.{cases_lt}
use Rattle.std.proofs.lemmas.List.{get_or_append_left}
use Rattle.std.proofs.Math.Seq.{get_or-append_seam}
use Rattle.syntect_pattern_linear.specs.syntect_pattern.Trees.{Tree}
use Rattle.syntect_pattern_plan.specs.Cells.{ends}
use Rattle.syntect_pattern_linear.specs.Rows.{AreRows}
use Rattle.syntect_pattern_plan.specs.declared.cells.Cell.{Cell}

-- a cell more is known
pub set-cases : {A : Type 0} (l : List (Option A)) (n j : ℕ) (v : Option A) (p : A) (P : ℕ → A → Type 0) → IfSome v (λ b. P n b) → (get_or l j None ≡ Some p → P j p)
    → get_or (set l n v) j None ≡ Some p → P j p
set-cases [] n j v p P h a q = a q
set-cases (y ∷ l) zero zero None p P h a q = cc
set-cases {A} (y ∷ l) zero zero (Some b) p P h a q = let same : b ≡ p = cc in subst (λ (w : A). P zero w) same h
set-cases (y ∷ l) zero (suc j) v p P h a q = a q
set-cases (y ∷ l) (suc n) zero v p P h a q = a q
set-cases (y ∷ l) (suc n) (suc j) v p P h a q = set-cases l n j v p (λ i w. P (suc i) w) h a q

-- one row more, of the place before
pub rows-more : {A : Type 0} (d : A) (s : List ℕ) (cells : ℕ) (want : ℕ → ℕ → A) (rows new : List (List A)) (row : List A) (place : ℕ) → new ≡ rows ++ row ∷ []
    → length rows + place ≡ length s → ((q k : ℕ) → length s - q < length rows → IsCharBoundary s q → k < cells → get_or (get_or rows (length s - q) []) k d ≡ want k q)
    → (IsCharBoundary s place → (k : ℕ) → k < cells → get_or row k d ≡ want k place)
    → (q k : ℕ) → length s - q < length new → IsCharBoundary s q → k < cells → get_or (get_or new (length s - q) []) k d ≡ want k q
rows-more {A} d s cells want rows new row place e at h here q k l c i =
    let grown : length new ≡ length rows + 1 = ap length e ∙ length-append rows (row ∷ []) ∙ omega arith in
    let within = c.0 in
    ap (λ (x : List (List A)). get_or (get_or x (length s - q) []) k d) e
    ∙ elim (cases_lt (length s - q) (length rows)) [
      | inl a ↦ ap (λ (x : List A). get_or x k d) (get_or_append_left rows (row ∷ []) [] (length s - q) a) ∙ h q k a c i
      | inr a ↦
          let same : length s - q ≡ length rows = omega (arith, a, l, grown) in
          let is : q ≡ place = omega (arith, same, at, within) in
          let P : ℕ → Type 0 = λ j. get_or row k d ≡ want k j in
          ap (λ (x : ℕ). get_or (get_or (rows ++ row ∷ []) x []) k d) same
          ∙ ap (λ (x : List A). get_or x k d) (get_or-append_seam rows row [] [])
          ∙ subst P (sym is) (here (subst (λ (j : ℕ). IsCharBoundary s j) is c) k i)
    ]

pub rows-push : (s : List ℕ) (ts : List Tree) (cells : List Cell) (rows new : List (List (Option ℕ))) (row : List (Option ℕ)) (place : ℕ) → new ≡ rows ++ row ∷ []
    → length rows + place ≡ length s → AreRows s ts cells rows
    → (IsCharBoundary s place → (k : ℕ) → k < length cells → get_or row k None ≡ ends s ts cells k place) → AreRows s ts cells new
rows-push s ts cells = rows-more None s (length cells) (λ k q. ends s ts cells k q)
