use Rattle.std.proofs.Common.{◌≡◌, ℕ, ◌+◌, ◌-◌, ◌<◌, List, [], ◌∷◌, ◌++◌, length, arith}
use Rattle.syntect_reading_state.specs.Places.{EntryPlace, path_of, places_from, places_behind}
use Rattle.syntect_reading_state.specs.Walking.{steps_from, steps_behind}
use Rattle.syntect_reading_state.proofs.PlaceLaws.{pushed_places, pushed_steps}
use Rattle.syntect_reading_state.specs.syntect_grammar_contexts.declared.context.Context.{Context}
use Rattle.syntect_grammar.specs.declared.syntax_set.SyntaxSet.{SyntaxSet}
use Rattle.syntect_reading_state.specs.declared.match_iter.Waiting.{Waiting}
use Rattle.syntect_reading_state.proofs.match_iter.MatchIter.follow.Goals as goal

-- what the walk gives after a context began to wait
places : (room : ℕ) (set : SyntaxSet) (ws ns : List Waiting) (w : Waiting) (c : Context) (given : List EntryPlace) → ns ≡ ws ++ w ∷ []
    → given ≡ places_from (room - length ws - 1) set (path_of ws ++ w.target ∷ []) c 0
    → places_from (room - length ns) set (path_of ns) c 0 ++ places_behind room set [] ns ≡ given ++ (places_from (room - length ws) set (path_of ws) w.context.now w.next ++ places_behind room set [] ws)
places room set ws ns w c given e h = rw (e, h) (pushed_places room set ws w c 0)

steps : (room : ℕ) (set : SyntaxSet) (ws ns : List Waiting) (w : Waiting) (c : Context) (given : ℕ) → ns ≡ ws ++ w ∷ []
    → given ≡ steps_from (room - length ws - 1) set (path_of ws ++ w.target ∷ []) c 0
    → steps_from (room - length ns) set (path_of ns) c 0 + steps_behind room set [] ns < given + (steps_from (room - length ws) set (path_of ws) w.context.now w.next + steps_behind room set [] ws) + 1
steps room set ws ns w c given e h = rw (e, h) (omega (arith, pushed_steps room set ws w c 0))

pub returns-in_ok-push-clause-places : goal.returns-in_ok-push-clause-places
returns-in_ok-push-clause-places c =
    places c.args.self.now.room c.args.self.now.syntax_set.now c.args.self.now.waiting.items c.push.new.self.items _ c.in-Some.context.now _ c.in_ok-push.ensures.items c.in-Some.ensures.places

pub returns-in_ok-push-clause-steps : goal.returns-in_ok-push-clause-steps
returns-in_ok-push-clause-steps c =
    steps c.args.self.now.room c.args.self.now.syntax_set.now c.args.self.now.waiting.items c.push.new.self.items _ c.in-Some.context.now _ c.in_ok-push.ensures.items c.in-Some.ensures.steps
