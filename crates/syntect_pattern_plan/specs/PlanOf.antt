-- The plan of a program.
use Rattle.std.specs.Prelude.{◌≡◌, length}
use Rattle.syntect_pattern_plan.specs.syntect_pattern_table.Program.{trees_of}
use Rattle.syntect_pattern_plan.specs.syntect_pattern_table.Table.{AreSpelt}
use Rattle.syntect_pattern_plan.specs.syntect_pattern_table.declared.program.Program.{Program}
use Rattle.syntect_pattern_plan.specs.Facts.{AreFacts}
use Rattle.syntect_pattern_plan.specs.Plan.{IsPlanned}
use Rattle.syntect_pattern_plan.specs.declared.plan.Plan.{Plan}

-- the plan has all cells of the program, none of whose nodes holds letters in a row,
-- and their parts
pub record IsPlanOf (p : Program) (plan : Plan) : Type 0 where
  pub spelt : AreSpelt p.nodes
  pub facts_are : AreFacts plan.facts (trees_of p)
  pub planned : IsPlanned (trees_of p) plan.cells plan.parts plan.behinds p.root
  pub whole : length plan.parts ≡ length plan.cells
