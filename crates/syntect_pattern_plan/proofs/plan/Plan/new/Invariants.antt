use Rattle.std.proofs.Common.{◌≡◌, ◌+◌, ◌-◌, ◌≤◌, length, get_or, true}
use Rattle.syntect_pattern_plan.specs.syntect_pattern_table.Program.{trees_of}
use Rattle.syntect_pattern_plan.specs.Facts.{AreFacts}
use Rattle.syntect_pattern_plan.specs.Plan.{IsPlanned, plan_cells}
use Rattle.syntect_pattern_plan.specs.Build.{AreBuilt}
use Rattle.syntect_pattern_plan.specs.syntect_pattern.Trees.{nothing}
use Rattle.syntect_pattern_plan.specs.Onward.{is_free}
use Rattle.syntect_pattern_plan.specs.Linear.{most_cells}
use Rattle.syntect_pattern_plan.proofs.PlanLaws.{Counts}
use Rattle.syntect_pattern_plan.proofs.plan.Plan.new.Given as goal

abbrev pub invariant-cells : goal.invariant-cells
invariant-cells l = record {
  facts_are : AreFacts l.plan.facts (trees_of l.program);
  built : AreBuilt (trees_of l.program) l.plan.cells;
  planned : IsPlanned (trees_of l.program) l.plan.cells l.plan.parts l.plan.behinds l.program.root;
  order : length l.plan.parts ≤ length l.plan.cells;
  few : length l.plan.parts ≡ length l.plan.cells → length l.plan.cells ≤ most_cells;
  free : is_free (get_or (trees_of l.program) l.program.root nothing) ≡ true;
  counts : Counts (trees_of l.program) l.plan.cells (length l.plan.parts) (plan_cells (get_or (trees_of l.program) l.program.root nothing));
  paid : l.count.made ≡ l.fn.count.made + length l.plan.parts;
}

abbrev pub decreases-cells : goal.decreases-cells
decreases-cells l = 40001 - length l.plan.parts
