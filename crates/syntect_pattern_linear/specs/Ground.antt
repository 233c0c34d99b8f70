-- What a search stands on.
use Rattle.std.specs.Prelude.{ℕ, ◌-◌, ◌<◌, ◌≤◌, List, length, Option, IsUtf8, IsCharBoundary}
use Rattle.syntect_pattern_linear.specs.syntect_pattern_table.Program.{trees_of}
use Rattle.syntect_pattern_plan.specs.Cells as cells
use Rattle.syntect_pattern_plan.specs.PlanOf.{IsPlanOf}
use Rattle.syntect_pattern_linear.specs.Rows.{AreRows, AreKnown}
use Rattle.syntect_pattern_plan.specs.Sights.{AreSights}
use Rattle.syntect_pattern_linear.specs.declared.ground.Ground.{Ground}

-- the plan is the program's, where lookbehinds hold in the text is known, and the place is before a
-- character or at the end
pub record IsGround (x : Ground) (place : ℕ) : Type 0 where
  pub utf8 : IsUtf8 x.text.now
  pub plan_is : IsPlanOf x.program.now x.plan.now
  pub sights_are : AreSights x.text.now (trees_of x.program.now) x.plan.now.behinds x.sights.now
  pub boundary : IsCharBoundary x.text.now place

-- the rows are right, and they are there of the places after this one,
-- and so are those of lookbehinds
pub record IsReady (x : Ground) (place : ℕ) : Type 0 where
  pub utf8 : IsUtf8 x.text.now
  pub plan_is : IsPlanOf x.program.now x.plan.now
  pub sights_are : AreSights x.text.now (trees_of x.program.now) x.plan.now.behinds x.sights.now
  pub rows_are : AreRows x.text.now (trees_of x.program.now) x.plan.now.cells x.rows.now
  pub later : length x.text.now - place ≤ length x.rows.now
  pub boundary : IsCharBoundary x.text.now place

-- the plan has the cell
abbrev pub IsIn : Ground → ℕ → Type 0
IsIn x k = k < length x.plan.now.cells

-- where the whole match ends that goes on with the cell at the place
abbrev pub ends_at : Ground → ℕ → ℕ → Option ℕ
ends_at x k place = cells.ends x.text.now (trees_of x.program.now) x.plan.now.cells k place

-- what is known of the place is so
abbrev pub Knows : Ground → ℕ → List (Option (Option ℕ)) → Type 0
Knows x place now = AreKnown x.text.now (trees_of x.program.now) x.plan.now.cells place now

-- how high the cell is
abbrev pub height_of : Ground → ℕ → ℕ
height_of x k = cells.height (trees_of x.program.now) x.plan.now.cells k
