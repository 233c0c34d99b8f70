use Rattle.std.proofs.Common.{◌≡◌, ◌<◌, ℕ, length, get_or, true}
use Rattle.std.specs.Prelude.{IsCharBoundary}
use Rattle.syntect_pattern_plan.specs.syntect_pattern.Trees.{nothing}
use Rattle.syntect_pattern_plan.specs.syntect_pattern_table.Program.{trees_of}
use Rattle.syntect_pattern_plan.specs.Onward.{plain}
use Rattle.syntect_pattern_plan.specs.Sights.{row_flag, ends_here}
use Rattle.syntect_pattern_plan.proofs.sight.sights_of.Given as goal

abbrev pub invariant-loop-node : goal.invariant-loop-node
invariant-loop-node l = record {
  count : length l.sights.items ≡ l.node-index;
  right : (b p : ℕ) → b < l.node-index → plain (get_or (trees_of l.program) (get_or l.plan.behinds b 0) nothing) ≡ true → IsCharBoundary l.text p
      → row_flag l.sights.items b p ≡ ends_here l.text (get_or (trees_of l.program) (get_or l.plan.behinds b 0) nothing) p;
}
