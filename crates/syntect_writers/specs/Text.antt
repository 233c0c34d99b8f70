-- Fronts of texts.
use Rattle.std.specs.Prelude.{◌≡◌, ℕ, ◌<◌, ◌==◌, Bool, false, not, ◌&&◌, List, ◌∷◌, ◌++◌, length, Option, MatchOption}
use Rattle.std.specs.Borrow.{Bor}
use Rattle.syntect_writers.specs.Entities.{entity, escaped}
use Rattle.syntect_writers.specs.Lines.{lines_of}
use Rattle.syntect_writers.specs.declared.text.Front.{Front}
use Rattle.syntect_writers.specs.declared.text.Front.TheVariants.{Plain, InLine}

-- ---- For proofs and private functions alone ----

-- the byte stands in HTML as it is
abbrev pub is_plain : ℕ → Bool
is_plain b = not (b == 60) && (not (b == 62) && (not (b == 38) && (not (b == 39) && not (b == 34))))

-- the byte ends no line
abbrev pub is_in_line : ℕ → Bool
is_in_line b = not (b == 10)

abbrev pub test_of : Front → ℕ → Bool
test_of Plain = is_plain
test_of InLine = is_in_line

-- a text in HTML is its front, its first byte that has a meaning there, and the rest in HTML
pub record Parts (text : List ℕ) (r : Bor (List ℕ) × ℕ × Bor (List ℕ)) : Type 0 where
  pub stop : is_plain r.1 ≡ false
  pub written : escaped text ≡ r.0.now ++ (entity r.1 ++ escaped r.2.now)
  pub shorter : length r.2.now < length text

abbrev pub SplitsAtFirst : List ℕ → Option (Bor (List ℕ) × ℕ × Bor (List ℕ)) → Type 0
SplitsAtFirst text result = MatchOption result (escaped text ≡ text) (Parts text)

-- the first line of a text that is not empty, and the rest
pub record FirstLine (text line rest : List ℕ) : Type 0 where
  pub lines : 0 < length text → lines_of text ≡ line ∷ lines_of rest
  pub shorter : 0 < length text → length rest < length text
