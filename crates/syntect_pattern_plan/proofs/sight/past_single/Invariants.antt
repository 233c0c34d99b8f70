use Rattle.std.proofs.Common.{◌≡◌, List, true}
use Rattle.syntect_pattern_plan.specs.syntect_pattern.Trees.{Tree}
use Rattle.syntect_pattern_plan.specs.syntect_pattern_table.Table.{node_tree}
use Rattle.syntect_pattern_plan.specs.Sights.{is_single}
use Rattle.syntect_pattern_plan.proofs.SightLaws.{Spreads}
use Rattle.syntect_pattern_plan.proofs.sight.past_single.Given as goal

abbrev pub invariant-loop-place : goal.invariant-loop-place
invariant-loop-place l = (ts : List Tree) → is_single (node_tree ts l.node) ≡ true → Spreads l.text (node_tree ts l.node) l.before l.place l.row.items
