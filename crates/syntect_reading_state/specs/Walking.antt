-- The steps of a walk over the entries of a context, one at a time.
use Rattle.std.specs.Prelude.{◌≡◌, ℕ, zero, suc, ◌+◌, ◌-◌, ◌<◌, List, [], ◌∷◌, ◌++◌, drop, Option, Some, None, if◌then◌else◌}
use Rattle.std.specs.Option.{option_map_or}
use Rattle.std.specs.List.{list_any}
use Rattle.syntect_reading_state.specs.syntect_grammar_contexts.Contexts.{is_same, target}
use Rattle.syntect_grammar.specs.Contexts.{context_at}
use Rattle.syntect_reading_state.specs.Places.{path_of, room_of, walk_left}
use Rattle.syntect_reading_state.specs.declared.match_iter.Waiting.{Waiting}
use Rattle.syntect_reading_state.specs.declared.match_iter.MatchIter.{MatchIter}
use Rattle.syntect_reading_state.specs.declared.match_iter.Step.{Step}
use Rattle.syntect_reading_state.specs.declared.match_iter.Step.TheVariants.{Found, Goes, Ends}
use Rattle.syntect_reading_state.specs.syntect_grammar_contexts.declared.context.ContextId.{ContextId}
use Rattle.syntect_reading_state.specs.syntect_grammar_contexts.declared.context.Pattern.{Pattern}
use Rattle.syntect_reading_state.specs.syntect_grammar_contexts.declared.context.Pattern.TheVariants.{Match, Include}
use Rattle.syntect_reading_state.specs.syntect_grammar_contexts.declared.context.Context.{Context}
use Rattle.syntect_grammar.specs.declared.syntax_set.SyntaxSet.{SyntaxSet}

-- ---- For proofs and private functions alone ----

-- how many steps an include takes, besides its own
abbrev pub included_steps : (ContextId → ℕ) → List ContextId → Option ContextId → ℕ
included_steps inner path None = 0
included_steps inner path (Some id) = if list_any (is_same id) path then 0 else inner id

-- a step for each entry, those of the includes, and one for the end
abbrev pub entry_steps : (ContextId → ℕ) → List ContextId → List Pattern → ℕ
entry_steps inner path [] = 1
entry_steps inner path (Match m ∷ ps) = suc (entry_steps inner path ps)
entry_steps inner path (Include r ∷ ps) =
    suc (included_steps inner path (target r) + entry_steps inner path ps)

abbrev pub target_steps : ℕ → SyntaxSet → List ContextId → ContextId → ℕ
target_steps zero set path id = 0
target_steps (suc room) set path id =
    option_map_or (λ c. entry_steps (λ x. target_steps room set (path ++ id ∷ []) x)
    (path ++ id ∷ []) c.patterns) (context_at set id) 0

abbrev pub steps_from : ℕ → SyntaxSet → List ContextId → Context → ℕ → ℕ
steps_from room set path c k =
    entry_steps (λ id. target_steps room set path id) path (drop k c.patterns)

abbrev pub steps_behind : ℕ → SyntaxSet → List ContextId → List Waiting → ℕ
steps_behind room set path [] = 0
steps_behind room set path (w ∷ ws) =
    steps_behind (room - 1) set (path ++ w.target ∷ []) ws
    + steps_from room set path w.context.now w.next

abbrev pub steps_left : MatchIter → ℕ
steps_left it =
    steps_from (room_of it) it.syntax_set.now (path_of it.waiting.items) it.context.now it.next
    + steps_behind it.room it.syntax_set.now [] it.waiting.items

-- one step: a place is found, or the walk goes on, or it is at its end
abbrev pub StepsTo : MatchIter → MatchIter → Step → Type 0
StepsTo old new (Found c k) = walk_left old ≡ (c.now, k) ∷ walk_left new
StepsTo old new Goes = (walk_left new ≡ walk_left old) × (steps_left new < steps_left old)
StepsTo old new Ends = (walk_left old ≡ []) × (walk_left new ≡ [])
