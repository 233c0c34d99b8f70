use Rattle.std.proofs.Common.{◌≡◌, ◌++◌, map, drop}
use Rattle.syntect_metadata.specs.Ranking.{matching}
use Rattle.syntect_metadata.proofs.metadata.matching.Given as goal

abbrev pub invariant-loop-set : goal.invariant-loop-set
invariant-loop-set l = map (λ p. (p.0, p.1.now)) l.scored.items ++ matching l.stack (drop l.set-index l.set-items) ≡ matching l.stack l.set-items
