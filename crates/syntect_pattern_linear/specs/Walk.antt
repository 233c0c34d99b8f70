-- The match that the marks lead along.
use Rattle.std.specs.Prelude.{◌≡◌, ℕ, ◌-◌, ◌<◌, Bool, List, length, Some}
use Rattle.syntect_pattern_linear.specs.syntect_pattern.Matches.{Groups, matches}
use Rattle.syntect_pattern_linear.specs.syntect_pattern_table.Program.{trees_of}
use Rattle.syntect_pattern_plan.specs.Onward.{chosen, moved}
use Rattle.syntect_pattern_plan.specs.Cells.{cell_at, item_tree}
use Rattle.syntect_pattern_linear.specs.Ground.{IsGround, ends_at}
use Rattle.syntect_pattern_linear.specs.Marks.{AreMarks}
use Rattle.syntect_pattern_linear.specs.declared.ground.Ground.{Ground}

-- the marks of the place and of all after it are there
pub record IsFilled (x : Ground) (marks : List (List Bool)) (place : ℕ) : Type 0 where
  pub ground : IsGround x place
  pub marks_are : AreMarks x.text.now (trees_of x.program.now) x.plan.now.cells marks
  pub here : length x.text.now - place < length marks

-- this is the end, and these are the groups, of the match of the cell's item from the place on that
-- is chosen by what goes on
pub record Walks (x : Ground) (k place : ℕ) (g : Groups) (end : ℕ) (h : Groups) : Type 0 where
  pub is : chosen (moved place (ends_at x (cell_at x.plan.now.cells k).empty)
      (ends_at x (cell_at x.plan.now.cells k).next))
      (matches x.text.now (item_tree (trees_of x.program.now)
      (cell_at x.plan.now.cells k).item) place g) ≡ Some (end, h)
