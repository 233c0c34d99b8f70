-- Rows of marks.
use Rattle.std.proofs.Common.{◌≡◌, ℕ, suc, ◌+◌, ◌-◌, ◌<◌, Bool, false, List, [], ◌∷◌, ◌++◌, length, map, get_or, Option, None, sym, refl, zero, ap, ◌∙◌, arith}
use Rattle.std.specs.Prelude.{IsCharBoundary, is_some}
use Rattle.std.proofs.Math.ListN as math
use Rattle.std.proofs.lemmas.List.{length-map}
use Rattle.syntect_pattern_linear.specs.syntect_pattern.Trees.{Tree}
use Rattle.syntect_pattern_plan.specs.Cells.{ends}
use Rattle.syntect_pattern_linear.proofs.RowLaws.{rows-more}
use Rattle.syntect_pattern_linear.specs.Marks.{AreMarks}
use Rattle.syntect_pattern_linear.specs.Rows.{AreRows, row_end}
use Rattle.syntect_pattern_plan.specs.Sights.{row_flag}
use Rattle.syntect_pattern_plan.specs.declared.cells.Cell.{Cell}

-- one row more, of the place before
pub marks-push : (s : List ℕ) (ts : List Tree) (cells : List Cell) (marks new : List (List Bool)) (row : List Bool) (place : ℕ) → new ≡ marks ++ row ∷ []
    → length marks + place ≡ length s → AreMarks s ts cells marks
    → (IsCharBoundary s place → (k : ℕ) → k < length cells → get_or row k false ≡ is_some (ends s ts cells k place)) → AreMarks s ts cells new
marks-push s ts cells = rows-more false s (length cells) (λ k q. is_some (ends s ts cells k q))

-- the marks of rows of ends
flag-of-end : (rows : List (List (Option ℕ))) (row k : ℕ) → row_flag (map (λ r. map (λ e. is_some e) r) rows) row k ≡ is_some (row_end rows row k)
flag-of-end rows row k =
    ap (λ (x : List Bool). get_or x k false) (math.get_or-map (λ (r : List (Option ℕ)). map (λ e. is_some e) r) rows row [])
    ∙ math.get_or-map (λ (e : Option ℕ). is_some e) (get_or rows row []) k None

pub marks-of : (s : List ℕ) (ts : List Tree) (cells : List Cell) (rows : List (List (Option ℕ))) → AreRows s ts cells rows → AreMarks s ts cells (map (λ r. map (λ e. is_some e) r) rows)
marks-of s ts cells rows h q k l c i =
    flag-of-end rows (length s - q) k ∙ ap is_some (h q k (let e : length (map (λ (r : List (Option ℕ)). map (λ (o : Option ℕ). is_some o) r) rows) ≡ length rows = length-map rows _ in omega (arith, l, e)) c i)

-- one row more, which stands where its place says
pub view-push : (old new : List (List Bool)) (places more : List ℕ) (at : ℕ) (row : List Bool) → ((k d : ℕ) → k < length places → get_or places k d < length old)
    → ((i : ℕ) → i < length old → get_or new i [] ≡ get_or old i []) → get_or new at [] ≡ row → more ≡ places ++ at ∷ []
    → map (λ i. get_or new i []) more ≡ map (λ i. get_or old i []) places ++ row ∷ []
view-push old new places more at row below stays here e =
    ap (map (λ i. get_or new i [])) e ∙ all places below
  where
    all : (l : List ℕ) → ((k d : ℕ) → k < length l → get_or l k d < length old)
        → map (λ i. get_or new i []) (l ++ at ∷ []) ≡ map (λ i. get_or old i []) l ++ row ∷ []
    all [] b = ap (λ (r : List Bool). r ∷ []) here
    all (i ∷ l) b =
        ap (λ (r : List Bool). r ∷ map (λ i. get_or new i []) (l ++ at ∷ [])) (stays i (b 0 0 (omega arith)))
        ∙ ap (λ (m : List (List Bool)). get_or old i [] ∷ m) (all l (λ k d q. b (suc k) d (omega (arith, q))))

-- a row once more
row-at : (f : ℕ → List Bool) (l : List ℕ) (row d : ℕ) → row < length l → get_or (map f l) row [] ≡ f (get_or l row d)
row-at f [] row d h = absurd (omega (arith, h))
row-at f (i ∷ l) zero d h = refl
row-at f (i ∷ l) (suc row) d h = row-at f l row d (omega (arith, h))

pub view-again : (rows : List (List Bool)) (places more : List ℕ) (at row d : ℕ) → row < length places → at ≡ get_or places row d → more ≡ places ++ at ∷ []
    → map (λ i. get_or rows i []) more ≡ map (λ i. get_or rows i []) places ++ get_or (map (λ i. get_or rows i []) places) row [] ∷ []
view-again rows places more at row d l a e =
    ap (map (λ i. get_or rows i [])) e ∙ all places
    ∙ ap (λ (r : List Bool). map (λ i. get_or rows i []) places ++ r ∷ []) (ap (λ (i : ℕ). get_or rows i []) a ∙ sym (row-at (λ i. get_or rows i []) places row d l))
  where
    all : (l : List ℕ) → map (λ i. get_or rows i []) (l ++ at ∷ []) ≡ map (λ i. get_or rows i []) l ++ get_or rows at [] ∷ []
    all [] = refl
    all (i ∷ l) = ap (λ (m : List (List Bool)). get_or rows i [] ∷ m) (all l)
