use Rattle.std.proofs.Common.{◌≡◌, ◌++◌, string_bytes, drop}
use Rattle.syntect_writers.specs.Left.{rule_left}
use Rattle.syntect_writers.specs.Sheet.{path_selectors, rule_text}
use Rattle.syntect_writers.proofs.sheet.push_rule.Given as goal

-- what is written, and the rest of the rule, are the whole
abbrev pub invariant-loop-selector : goal.invariant-loop-selector
invariant-loop-selector l =
    string_bytes l.out ++ rule_left l.first (path_selectors l.prefix l.repository (drop l.selector-index l.selector-items)) l.fn.item.style ≡ string_bytes l.fn.out ++ rule_text l.prefix l.repository l.fn.item
