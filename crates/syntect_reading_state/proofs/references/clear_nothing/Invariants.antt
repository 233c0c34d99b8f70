use Rattle.std.proofs.Common.{◌≡◌, drop}
use Rattle.std.specs.List.{filter_map}
use Rattle.syntect_reading_state.specs.syntect_grammar_contexts.Contexts.{target}
use Rattle.syntect_reading_state.specs.Opens.{clear_nothing}
use Rattle.syntect_reading_state.proofs.references.clear_nothing.Given as goal

abbrev pub invariant-loop-r : goal.invariant-loop-r
invariant-loop-r l = clear_nothing l.set (filter_map target (drop l.r-index l.refs)) ≡ clear_nothing l.set (filter_map target l.refs)
