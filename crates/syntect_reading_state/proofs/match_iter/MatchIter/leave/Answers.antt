use Rattle.std.proofs.Common.{◌≡◌, ℕ, ◌+◌, ◌-◌, ◌<◌, List, [], ◌∷◌, ◌++◌, length, drop, sym, arith}
use Rattle.syntect_reading_state.specs.Places.{path_of, places_from, places_behind}
use Rattle.syntect_reading_state.specs.Walking.{steps_from, steps_behind}
use Rattle.syntect_reading_state.proofs.PlaceLaws.{waiting_places, waiting_steps}
use Rattle.syntect_reading_state.specs.syntect_grammar_contexts.declared.context.Context.{Context}
use Rattle.syntect_grammar.specs.declared.syntax_set.SyntaxSet.{SyntaxSet}
use Rattle.syntect_reading_state.specs.declared.match_iter.Waiting.{Waiting}
use Rattle.syntect_reading_state.proofs.match_iter.MatchIter.leave.Goals as goal

places : (room : ℕ) (set : SyntaxSet) (ws ns : List Waiting) (w : Waiting) (c : Context) (k : ℕ) → ws ≡ ns ++ w ∷ [] → drop k c.patterns ≡ []
    → places_from (room - length ns) set (path_of ns) w.context.now w.next ++ places_behind room set [] ns ≡ places_from (room - length ws) set (path_of ws) c k ++ places_behind room set [] ws
places room set ws ns w c k e n = rw (n, e) (sym (waiting_places room set ns w))

steps : (room : ℕ) (set : SyntaxSet) (ws ns : List Waiting) (w : Waiting) (c : Context) (k : ℕ) → ws ≡ ns ++ w ∷ [] → drop k c.patterns ≡ []
    → steps_from (room - length ns) set (path_of ns) w.context.now w.next + steps_behind room set [] ns < steps_from (room - length ws) set (path_of ws) c k + steps_behind room set [] ws
steps room set ws ns w c k e n = rw (n, e) (omega (arith, waiting_steps room set ns w))

pub returns-in-Some-clause-steps : goal.returns-in-Some-clause-steps
returns-in-Some-clause-steps c = (
  places c.args.self.now.room c.args.self.now.syntax_set.now c.args.self.now.waiting.items c.pop.new.self.items c.in-Some.w c.args.self.now.context.now c.args.self.now.next c.in-Some.ensures.items c.requires,
  steps c.args.self.now.room c.args.self.now.syntax_set.now c.args.self.now.waiting.items c.pop.new.self.items c.in-Some.w c.args.self.now.context.now c.args.self.now.next c.in-Some.ensures.items c.requires,
)
