use Rattle.std.proofs.Common.{◌≡◌, ◌++◌, drop}
use Rattle.std.specs.List.{filter_map}
use Rattle.syntect_style.specs.syntect_scope.SelectorText.{sole_scope}
use Rattle.syntect_style.specs.Rules.{rule_of, item_rules}
use Rattle.syntect_style.proofs.ready.push_rules.Given as goal

abbrev pub invariant-loop-selector : goal.invariant-loop-selector
invariant-loop-selector l = l.rules.items ++ filter_map (λ selector. rule_of (sole_scope selector) l.item.style) (drop l.selector-index l.selector-items) ≡ l.fn.rules.items ++ item_rules l.item
