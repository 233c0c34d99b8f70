use Rattle.std.proofs.Common.{◌≡◌, ◌++◌, drop}
use Rattle.std.specs.List.{filter_map}
use Rattle.syntect_reading_state.specs.syntect_grammar_contexts.Contexts.{target}
use Rattle.syntect_reading_state.proofs.names.targets.Given as goal

abbrev pub invariant-loop-r : goal.invariant-loop-r
invariant-loop-r l = l.ids.items ++ filter_map target (drop l.r-index l.refs) ≡ filter_map target l.refs
