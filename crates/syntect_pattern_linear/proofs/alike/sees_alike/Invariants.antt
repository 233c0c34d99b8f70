use Rattle.std.proofs.Common.{◌≡◌, ◌<◌, ℕ}
use Rattle.syntect_pattern_plan.specs.Sights.{row_flag}
use Rattle.syntect_pattern_linear.proofs.alike.sees_alike.Given as goal

abbrev pub invariant-loop-row : goal.invariant-loop-row
invariant-loop-row l = (i : ℕ) → i < l.row → row_flag l.ground.sights.now i l.place ≡ row_flag l.ground.sights.now i l.other
