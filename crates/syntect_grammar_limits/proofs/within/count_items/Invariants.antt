use Rattle.std.proofs.Common.{◌≡◌, drop, map}
use Rattle.syntect_yaml.specs.View.{view}
use Rattle.syntect_grammar_limits.specs.Limited.{count_items}
use Rattle.syntect_grammar_limits.proofs.within.count_items.Given as goal

abbrev pub invariant-loop-item : goal.invariant-loop-item
invariant-loop-item l =
    count_items l.counting.limits l.counting.variables l.context l.item l.left (map view (drop l.item l.items)) ≡ count_items l.counting.limits l.counting.variables l.context 0 l.fn.left (map view l.items)
