use Rattle.std.proofs.Common.{◌≡◌, ◌<◌, ◌≤◌, ◌+◌, ◌*◌, ℕ, length, get_or, None}
use Rattle.syntect_pattern_linear.specs.Ground.{Knows, ends_at}
use Rattle.syntect_pattern_linear.specs.Steps.{unknown}
use Rattle.syntect_pattern_linear.proofs.fill.row_of.Given as goal

abbrev pub invariant-loop-cell : goal.invariant-loop-cell
invariant-loop-cell l = record {
  knows : Knows l.ground l.place l.now.items;
  long : length l.now.items ≡ length l.ground.plan.now.cells;
  paid : l.count.made + 4 * unknown l.now.items ≤ l.initial.count.made + 4 * unknown l.initial.now.items + l.cell;
  filled : length l.row.items ≡ l.cell;
  right : (k : ℕ) → k < l.cell → get_or l.row.items k None ≡ ends_at l.ground k l.place;
  counted : l.initial.count.made + l.cell ≤ l.count.made;
}
