use Rattle.std.proofs.Common.{◌≡◌, ◌++◌, drop, map}
use Rattle.std.specs.List.{flat_map}
use Rattle.syntect_style.specs.Rules.{item_rules, item_others, single_rules, other_rules, rule_from}
use Rattle.syntect_style.proofs.highlighter.Highlighter.new.Given as goal

abbrev pub invariant-loop-item : goal.invariant-loop-item
invariant-loop-item l = record {
  rules : l.rules.items ++ flat_map item_rules (drop l.item-index l.item-items) ≡ single_rules l.theme;
  others : map rule_from l.others.items ++ flat_map item_others (drop l.item-index l.item-items) ≡ other_rules l.theme;
}
