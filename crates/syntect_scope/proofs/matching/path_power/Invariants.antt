use Rattle.std.proofs.Common.{◌≡◌, ◌+◌, drop}
use Rattle.std.specs.Option.{option_map}
use Rattle.syntect_scope.specs.Greedy.{greedy_score}
use Rattle.syntect_scope.proofs.matching.path_power.Given as goal

abbrev pub invariant-loop-place : goal.invariant-loop-place
invariant-loop-place l = option_map (λ n. l.power + n) (greedy_score l.rest (drop l.place l.stack) l.place) ≡ greedy_score l.path l.stack 0
