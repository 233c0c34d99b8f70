use Rattle.std.proofs.Common.{◌≡◌, ◌++◌, drop}
use Rattle.std.specs.List.{flat_map}
use Rattle.syntect_style.specs.Rules.{last_rule}
use Rattle.syntect_style.proofs.ready.push_lasts.Given as goal

abbrev pub invariant-loop-exclusion : goal.invariant-loop-exclusion
invariant-loop-exclusion l = l.rules.items ++ flat_map (λ x. last_rule x.scopes l.other.style) (drop l.exclusion-index l.exclusion-items) ≡ l.fn.rules.items ++ flat_map (λ x. last_rule x.scopes l.other.style) l.other.selector.excludes
