use Rattle.std.proofs.Common.{◌≡◌, ◌++◌, drop, map}
use Rattle.syntect_style.specs.Rules.{last_rules, rule_from}
use Rattle.syntect_style.proofs.ready.last_rules.Given as goal

abbrev pub invariant-loop-other : goal.invariant-loop-other
invariant-loop-other l = l.rules.items ++ last_rules (map rule_from (drop l.other-index l.others)) ≡ last_rules (map rule_from l.others)
