use Rattle.std.proofs.Common.{◌≡◌, drop}
use Rattle.syntect_grammar_limits.specs.Limited.{count_each, count_pattern}
use Rattle.syntect_grammar_limits.proofs.within.count_patterns.Given as goal

abbrev pub invariant-loop-pattern : goal.invariant-loop-pattern
invariant-loop-pattern l =
    count_each (count_pattern l.counting.limits l.counting.variables l.context l.item) l.left (drop l.pattern-index l.patterns) ≡ count_each (count_pattern l.counting.limits l.counting.variables l.context l.item) l.fn.left l.patterns
