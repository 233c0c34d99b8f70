use Rattle.std.proofs.Common.{◌≡◌, ◌++◌, drop}
use Rattle.std.specs.Option.{option_and_then}
use Rattle.syntect_parsing.specs.syntect_grammar_contexts.Contexts.{target}
use Rattle.syntect_parsing.specs.Turn.{new_levels}
use Rattle.syntect_parsing.specs.MatchViews.{opening_by}
use Rattle.syntect_parsing.proofs.levels.open_levels.Given as goal

abbrev pub invariant-loop-i : goal.invariant-loop-i
invariant-loop-i l = record {
  same : l.with_prototype ≡ option_and_then target l.taken.candidate.now.pattern.now.with_prototype;
  levels : l.levels ++ new_levels l.taken.set.now (opening_by l.taken) l.prototypes l.with_prototype (drop l.i l.ids)
      ≡ l.fn.levels ++ new_levels l.taken.set.now (opening_by l.taken) l.fn.kept (option_and_then target l.taken.candidate.now.pattern.now.with_prototype) l.ids;
}
