use Rattle.std.proofs.Common.{◌≡◌, ◌+◌}
use Rattle.syntect_count.proofs.count.GhostCount.add.Given as goal

abbrev pub invariant-loop-step : goal.invariant-loop-step
invariant-loop-step l = l.self.made ≡ l.initial.self.made + l._step
