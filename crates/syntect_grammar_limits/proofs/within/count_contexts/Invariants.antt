use Rattle.std.proofs.Common.{◌≡◌, drop, map}
use Rattle.syntect_yaml.specs.View.{entry_view}
use Rattle.syntect_grammar_limits.specs.Limited.{count_each, count_entry}
use Rattle.syntect_grammar_limits.proofs.within.count_contexts.Given as goal

abbrev pub invariant-loop-entry : goal.invariant-loop-entry
invariant-loop-entry l =
    count_each (count_entry l.counting.limits l.counting.variables) l.left (map entry_view (drop l.entry-index l.entries)) ≡ count_each (count_entry l.counting.limits l.counting.variables) l.fn.left (map entry_view l.entries)
