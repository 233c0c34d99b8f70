-- Patterns whose searches take steps in proportion to the text.
use Rattle.std.specs.Prelude.{ℕ, Bool, ◌&&◌, nat_le}
use Rattle.syntect_pattern_plan.specs.syntect_pattern.Trees.{Tree}
use Rattle.syntect_pattern_plan.specs.Onward.{is_free}
use Rattle.syntect_pattern_plan.specs.Plan.{plan_cells}

-- so many cells a plan has at most
abbrev pub most_cells : ℕ
most_cells = 40000

-- The tree has a plan: there is no back reference, what lookbehinds look for is plain and sets no
-- groups, no lookahead in a loop of more turns than one sets groups, and the cells are not too
-- many.
abbrev pub is_linear : Tree → Bool
is_linear t = is_free t && nat_le (plan_cells t) most_cells
