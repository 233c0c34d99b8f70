-- Where the match patterns of a context stand, in the order of its walk.
use Rattle.std.specs.Prelude.{◌≡◌, ℕ, zero, suc, ◌+◌, ◌-◌, List, [], ◌∷◌, ◌++◌, length, drop, map, Option, Some, None, Result, Ok, Err, if◌then◌else◌}
use Rattle.std.specs.Option.{option_map_or}
use Rattle.std.specs.Borrow.{Bor}
use Rattle.std.specs.List.{list_any}
use Rattle.std.specs.declared.alloc.AllocError.{AllocError}
use Rattle.syntect_reading_state.specs.syntect_grammar_contexts.Contexts.{is_same, match_of, target}
use Rattle.syntect_grammar.specs.Contexts.{contexts_of, context_at}
use Rattle.syntect_reading_state.specs.syntect_grammar_contexts.Contexts.{count_contexts}
use Rattle.syntect_grammar.specs.Patterns.{patterns_in}
use Rattle.syntect_reading_state.specs.declared.match_iter.Waiting.{Waiting}
use Rattle.syntect_reading_state.specs.declared.match_iter.MatchIter.{MatchIter}
use Rattle.syntect_reading_state.specs.syntect_grammar_contexts.declared.context.ContextId.{ContextId}
use Rattle.syntect_reading_state.specs.syntect_grammar_contexts.declared.context.Pattern.{Pattern}
use Rattle.syntect_reading_state.specs.syntect_grammar_contexts.declared.context.Pattern.TheVariants.{Match, Include}
use Rattle.syntect_reading_state.specs.syntect_grammar_contexts.declared.context.Context.{Context}
use Rattle.syntect_grammar.specs.declared.syntax_set.SyntaxSet.{SyntaxSet}

-- where a match pattern stands: the context that holds it, and its index there
abbrev pub EntryPlace : Type 0
EntryPlace = Context × ℕ

-- an include gives what its target gives, and nothing where it is unresolved or its target is on
-- the include path
abbrev pub included_places : (ContextId → List EntryPlace) → List ContextId → Option ContextId
    → List EntryPlace
included_places inner path None = []
included_places inner path (Some id) = if list_any (is_same id) path then [] else inner id

-- entries of a context from this index on, includes walked in place
abbrev pub entry_places : (ContextId → List EntryPlace) → List ContextId → Context → ℕ → List Pattern
    → List EntryPlace
entry_places inner path c k [] = []
entry_places inner path c k (Match m ∷ ps) = (c, k) ∷ entry_places inner path c (k + 1) ps
entry_places inner path c k (Include r ∷ ps) =
    included_places inner path (target r) ++ entry_places inner path c (k + 1) ps

-- what an include of this context gives, which was reached by this include path: nothing where the
-- set lacks it
abbrev pub target_places : ℕ → SyntaxSet → List ContextId → ContextId → List EntryPlace
target_places zero set path id = []
target_places (suc room) set path id =
    option_map_or (λ c. entry_places (λ x. target_places room set (path ++ id ∷ []) x)
    (path ++ id ∷ []) c 0 c.patterns) (context_at set id) []

-- those of a context from an index on, with the include path that it was reached by and the room
-- for more includes
abbrev pub places_from : ℕ → SyntaxSet → List ContextId → Context → ℕ → List EntryPlace
places_from room set path c k =
    entry_places (λ id. target_places room set path id) path c k (drop k c.patterns)

-- An include path has no context twice: the room is never felt.
abbrev pub places_in : SyntaxSet → Context → List EntryPlace
places_in set c = places_from (count_contexts (contexts_of set)) set [] c 0

-- they are where the patterns of the context's walk stand
abbrev pub PlacesArePatterns : Type 0
PlacesArePatterns = (set : SyntaxSet) (c : Context)
    → map (λ p. match_of p.0 p.1) (places_in set c) ≡ map Some (patterns_in set c.patterns)

-- ---- what an iterator has left ----

-- what the contexts give that wait for the end of an include, the outermost first
abbrev pub places_behind : ℕ → SyntaxSet → List ContextId → List Waiting → List EntryPlace
places_behind room set path [] = []
places_behind room set path (w ∷ ws) =
    places_behind (room - 1) set (path ++ w.target ∷ []) ws
    ++ places_from room set path w.context.now w.next

-- the include path of a walk
abbrev pub path_of : List Waiting → List ContextId
path_of ws = map (λ w. w.target) ws

-- how many more includes an iterator may follow into one another
abbrev pub room_of : MatchIter → ℕ
room_of it = it.room - length it.waiting.items

-- what the rest of an iterator's walk gives
abbrev pub walk_left : MatchIter → List EntryPlace
walk_left it =
    places_from (room_of it) it.syntax_set.now (path_of it.waiting.items) it.context.now it.next
    ++ places_behind it.room it.syntax_set.now [] it.waiting.items

-- the places that are still to come: none after a refusal
abbrev pub places_left : MatchIter → List EntryPlace
places_left it = if it.failed then [] else walk_left it

-- one call of `next`: the next place that is left; none where none is left; once memory ran out
-- none is left
abbrev pub GivesPlace : MatchIter → Option (Result (Bor Context × ℕ) AllocError) → MatchIter
    → Type 0
GivesPlace old None new = (places_left old ≡ []) × (places_left new ≡ [])
GivesPlace old (Some (Ok p)) new = places_left old ≡ (p.0.now, p.1) ∷ places_left new
GivesPlace old (Some (Err e)) new = places_left new ≡ []

-- no more items than there are places left, and a refusal
abbrev pub items_left : MatchIter → ℕ
items_left it = length (places_left it) + (if it.failed then 0 else 1)
