use Rattle.std.proofs.Common.{◌≡◌, drop}
use Rattle.std.specs.List.{list_any}
use Rattle.syntect_style.specs.syntect_scope.Atoms.{is_prefix}
use Rattle.syntect_style.proofs.contest.any_begins.Given as goal

abbrev pub invariant-loop-rule : goal.invariant-loop-rule
invariant-loop-rule l = list_any (λ r. is_prefix r.scope l.top) (drop l.rule-index l.rules) ≡ list_any (λ r. is_prefix r.scope l.top) l.rules
