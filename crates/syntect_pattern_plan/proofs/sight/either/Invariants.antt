use Rattle.std.proofs.Common.{◌≡◌, ◌||◌, ◌<◌, ℕ, length}
use Rattle.syntect_pattern_plan.specs.Sights.{flag_of}
use Rattle.syntect_pattern_plan.proofs.sight.either.Given as goal

abbrev pub invariant-loop-place : goal.invariant-loop-place
invariant-loop-place l = record {
  count : length l.row.items ≡ l.place;
  right : (j : ℕ) → j < l.place → flag_of l.row.items j ≡ (flag_of l.one j || flag_of l.other j);
}
