-- From which cells the whole match ends anywhere.
use Rattle.std.specs.Prelude.{◌≡◌, ℕ, ◌-◌, ◌<◌, ◌≤◌, Bool, List, [], length, Option, Some, None, slice_index_or, is_some, IsCharBoundary}
use Rattle.syntect_pattern_linear.specs.syntect_pattern.Trees.{Tree}
use Rattle.syntect_pattern_linear.specs.syntect_pattern_table.Program.{trees_of}
use Rattle.syntect_pattern_plan.specs.Cells.{ends}
use Rattle.syntect_pattern_plan.specs.declared.cells.Cell.{Cell}
use Rattle.syntect_pattern_linear.specs.Ground.{IsGround, ends_at}
use Rattle.syntect_pattern_plan.specs.Sights.{row_flag}
use Rattle.syntect_pattern_linear.specs.declared.ground.Ground.{Ground}

-- the row with the number
abbrev pub row_at : List (List Bool) → ℕ → List Bool
row_at rows row = slice_index_or rows row []

-- the rows, from that of the text's end on, mark the cells from which the whole match ends anywhere
abbrev pub AreMarks : List ℕ → List Tree → List Cell → List (List Bool) → Type 0
AreMarks s ts cells marks =
    (q k : ℕ) → length s - q < length marks → IsCharBoundary s q → k < length cells
    → row_flag marks (length s - q) k ≡ is_some (ends s ts cells k q)

-- ---- For proofs and private functions alone ----

-- the marks are right, and they are there of all places after this one
pub record IsMarked (x : Ground) (marks : List (List Bool)) (place : ℕ) : Type 0 where
  pub ground : IsGround x place
  pub marks_are : AreMarks x.text.now (trees_of x.program.now) x.plan.now.cells marks
  pub later : length x.text.now - place ≤ length marks

-- what is known of the place is so
abbrev pub KnowsLeads : Ground → ℕ → List (Option Bool) → Type 0
KnowsLeads x place here = (k : ℕ) (b : Bool) → slice_index_or here k None ≡ Some b
    → b ≡ is_some (ends_at x k place)
