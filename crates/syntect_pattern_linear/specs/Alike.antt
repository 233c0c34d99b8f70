-- Places of a text from which the same cells of a plan lead on.
use Rattle.std.specs.Prelude.{◌≡◌, ℕ, ◌+◌, ◌-◌, ◌<◌, Bool, true, false, List, length, Some, IsCharBoundary}
use Rattle.std.specs.Char.{len_utf8}
use Rattle.syntect_pattern_linear.specs.syntect_pattern.Matches.{anchor_holds}
use Rattle.syntect_pattern_linear.specs.syntect_pattern.Text.{char_at}
use Rattle.syntect_pattern_linear.specs.syntect_pattern.Trees.{Tree, atomic}
use Rattle.syntect_pattern_linear.specs.syntect_pattern.declared.anchor.Anchor.{Anchor}
use Rattle.syntect_pattern_linear.specs.syntect_pattern_table.Program.{trees_of}
use Rattle.syntect_pattern_plan.specs.Cells.{cell_tree}
use Rattle.syntect_pattern_linear.specs.Ground.{IsIn}
use Rattle.syntect_pattern_linear.specs.Marks.{row_at}
use Rattle.syntect_pattern_plan.specs.Sights.{row_flag}
use Rattle.syntect_pattern_linear.specs.declared.alike.Spot.{Spot}
use Rattle.syntect_pattern_linear.specs.declared.ground.Ground.{Ground}

-- ---- For proofs and private functions alone ----

abbrev pub is_atomic : Tree → Bool
is_atomic (atomic a) = true
is_atomic _ = false

-- the cell is an atomic group
abbrev pub is_atomic_at : Ground → ℕ → Bool
is_atomic_at x k = is_atomic (cell_tree (trees_of x.program.now) x.plan.now.cells k)

-- no cell of the plan is one
abbrev pub IsLoose : Ground → Type 0
IsLoose x = (k : ℕ) → IsIn x k → is_atomic_at x k ≡ false

-- lookbehinds hold at both places or at neither
abbrev pub SeesAlike : Ground → ℕ → ℕ → Type 0
SeesAlike x p q = (i : ℕ) → row_flag x.sights.now i p ≡ row_flag x.sights.now i q

-- the same character stands at both places, the rows of the places after it are equal, and anchors
-- and lookbehinds hold at both or at neither
pub record AreAlike (x : Ground) (marks : List (List Bool)) (p q : ℕ) : Type 0 where
  pub c : ℕ
  pub here : char_at x.text.now p ≡ Some c
  pub there : char_at x.text.now q ≡ Some c
  pub here_on : IsCharBoundary x.text.now (p + len_utf8 c)
  pub there_on : IsCharBoundary x.text.now (q + len_utf8 c)
  pub rows : row_at marks (length x.text.now - (p + len_utf8 c))
      ≡ row_at marks (length x.text.now - (q + len_utf8 c))
  pub anchors : (a : Anchor) → anchor_holds x.text.now a p ≡ anchor_holds x.text.now a q
  pub sights : SeesAlike x p q

-- this stands at the place, which is neither the first nor one of the text's last two
pub record IsSpot (s : List ℕ) (place : ℕ) (v : Spot) : Type 0 where
  pub at : v.place ≡ place
  pub boundary : IsCharBoundary s place
  pub inner : 0 < place
  pub early : place + 1 < length s
  pub char : char_at s place ≡ Some v.c
  pub on : IsCharBoundary s (place + len_utf8 v.c)
  pub row_is : v.row ≡ length s - (place + len_utf8 v.c)
  pub edge : v.at_edge ≡ anchor_holds s Anchor.WordEdge place
  pub line : v.at_line ≡ anchor_holds s Anchor.LineStart place
