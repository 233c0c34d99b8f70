-- A pattern's plan in a text.
use Rattle.std.specs.Prelude.{ℕ, List}
use Rattle.syntect_pattern_linear.specs.syntect_pattern_table.Program.{trees_of}
use Rattle.syntect_pattern_plan.specs.PlanOf.{IsPlanOf}
use Rattle.syntect_pattern_linear.specs.Marks.{AreMarks}
use Rattle.syntect_pattern_plan.specs.Sights.{AreSights}
use Rattle.syntect_pattern_linear.specs.declared.find.Guide.{Guide}

-- the plan is the program's, and lookbehinds and marks are those of the text
pub record IsGuideIn (s : List ℕ) (g : Guide) : Type 0 where
  pub plan_is : IsPlanOf g.program g.plan
  pub sights_are : AreSights s (trees_of g.program) g.plan.behinds g.sights.items
  pub marks_are : AreMarks s (trees_of g.program) g.plan.cells g.marks
