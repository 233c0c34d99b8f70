-- How many steps a search takes by a plan.
use Rattle.std.specs.Prelude.{ℕ, ◌+◌, ◌*◌}
use Rattle.syntect_pattern_linear.specs.syntect_pattern.Trees.{Tree}
use Rattle.syntect_pattern_plan.specs.Passes.{passes}
use Rattle.syntect_pattern_plan.specs.Plan.{plan_cells}
use Rattle.syntect_pattern_linear.specs.Steps.{step_weight}

-- the most steps that a search of a text so long takes by the tree's plan: one for each cell as the
-- plan is made, and then so many for each byte and for the end, with one for each pass that
-- lookbehinds take over the text
abbrev pub planned_steps : Tree → ℕ → ℕ
planned_steps t long = plan_cells t + (step_weight (plan_cells t) t + passes t) * (long + 1)
