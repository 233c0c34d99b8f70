use Rattle.std.proofs.Common.{◌≡◌, ◌++◌, drop, map}
use Rattle.std.specs.List.{filter_map}
use Rattle.syntect_style.specs.syntect_scope.SelectorText.{sole_scope}
use Rattle.syntect_style.specs.Rules.{other_of, item_others, rule_from}
use Rattle.syntect_style.proofs.ready.push_others.Given as goal

abbrev pub invariant-loop-selector : goal.invariant-loop-selector
invariant-loop-selector l = map rule_from l.others.items ++ filter_map (λ selector. other_of (sole_scope selector) selector l.item.style) (drop l.selector-index l.selector-items) ≡ map rule_from l.fn.others.items ++ item_others l.item
