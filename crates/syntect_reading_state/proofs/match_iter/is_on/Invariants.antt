use Rattle.std.proofs.Common.{◌≡◌, drop}
use Rattle.std.specs.List.{list_any}
use Rattle.syntect_reading_state.specs.syntect_grammar_contexts.Contexts.{is_same}
use Rattle.syntect_reading_state.specs.Places.{path_of}
use Rattle.syntect_reading_state.proofs.match_iter.is_on.Given as goal

abbrev pub invariant-loop-w : goal.invariant-loop-w
invariant-loop-w l = list_any (is_same l.id) (path_of (drop l.w-index l.waiting)) ≡ list_any (is_same l.id) (path_of l.waiting)
