use Rattle.std.proofs.Common.{◌≡◌, ◌++◌, find, drop}
use Rattle.std.specs.Prelude.{is_none}
use Rattle.std.specs.Option.{option_to_list}
use Rattle.std.specs.List.{filter_map}
use Rattle.syntect_reading_state.specs.syntect_grammar_contexts.Contexts.{target}
use Rattle.syntect_grammar.specs.Contexts.{context_at}
use Rattle.syntect_reading_state.specs.syntect_grammar_contexts.Contexts.{named}
use Rattle.syntect_reading_state.proofs.names.missing_in.Given as goal

abbrev pub invariant-loop-r : goal.invariant-loop-r
invariant-loop-r l =
    find (λ id. is_none (context_at l.set id)) (filter_map target (drop l.r-index l.refs ++ option_to_list l.pattern.with_prototype))
    ≡ find (λ id. is_none (context_at l.set id)) (filter_map target (named l.pattern))
