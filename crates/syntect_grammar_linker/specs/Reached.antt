-- Which contexts are reached from others: for prototypes and for marks of back references.
use Rattle.std.specs.Prelude.{◌≡◌, ◌↔◌, ℕ, zero, suc, Bool, true, false, ◌||◌, List, [], codes, slice_get, Option, Some, None, if◌then◌else◌}
use Rattle.std.specs.List.{list_any, filter_map, flat_map}
use Rattle.std.specs.Option.{option_or, option_and_then, option_map_or, option_to_list}
use Rattle.syntect_grammar_contexts.specs.Contexts.{is_same}
use Rattle.syntect_grammar_contexts.specs.Contexts.{count_contexts}
use Rattle.syntect_grammar_contexts.specs.Contexts.{list_of}
use Rattle.syntect_grammar_contexts.specs.Contexts.{named_in}
use Rattle.syntect_grammar_linker.specs.References.{context_named, link_of}
use Rattle.syntect_grammar_contexts.specs.declared.context.ContextId.{ContextId}
use Rattle.syntect_grammar_contexts.specs.declared.context.ContextReference.{ContextReference}
use Rattle.syntect_grammar_contexts.specs.declared.context.ContextReference.TheVariants.{Named, Inline, ByScope, File, Direct}
use Rattle.syntect_grammar_contexts.specs.declared.context.Pattern.{Pattern}
use Rattle.syntect_grammar_contexts.specs.declared.context.Pattern.TheVariants.{Match, Include}
use Rattle.syntect_grammar_contexts.specs.declared.context.Context.{Context}
use Rattle.syntect_grammar_contexts.specs.declared.syntax_reference.SyntaxReference.{SyntaxReference}

-- ---- steps from context to context ----

-- from this context, in at most so many steps, one that passes the test is reached
abbrev pub has_path_in : (ContextId → List ContextId) → (ContextId → Bool) → ℕ → ContextId → Bool
has_path_in steps test zero id = test id
has_path_in steps test (suc n) id = test id || list_any (has_path_in steps test n) (steps id)

-- the same for any number of steps
pub data HasPath (steps : ContextId → List ContextId) (test : ContextId → Bool) : ContextId
    → Type 0 where
  here : {id : ContextId} → test id ≡ true → HasPath steps test id
  there : {id next : ContextId} → list_any (is_same next) (steps id) ≡ true → HasPath steps test next
      → HasPath steps test id

-- the context of a number among contexts as they are given
abbrev pub given_at : List (List Context) → ContextId → Option Context
given_at bodies id =
    option_and_then (λ cs. slice_get cs id.context_index) (slice_get bodies id.syntax_index)

-- the entries of a context as they are given
abbrev pub entries_given : List (List Context) → ContextId → List Pattern
entries_given bodies id = option_map_or (λ c. c.patterns) (given_at bodies id) []

-- ---- from a prototype ----

-- What an include leads to for the prototype of the syntax of this index, whose contexts have these
-- names: a name as it stands is looked up there.
abbrev pub include_step : ℕ → List (List ℕ) → ContextReference → Option ContextId
include_step home names (Named name) = named_in home names name
include_step home names (Inline name) = None
include_step home names (ByScope scope sub_context with_escape) = None
include_step home names (File name sub_context with_escape) = None
include_step home names (Direct id) = Some id

-- what a reference of a push or set leads to: contexts without a name of their own too
abbrev pub open_step : ℕ → List (List ℕ) → ContextReference → Option ContextId
open_step home names (Named name) = named_in home names name
open_step home names (Inline name) = named_in home names name
open_step home names (ByScope scope sub_context with_escape) = None
open_step home names (File name sub_context with_escape) = None
open_step home names (Direct id) = Some id

-- the steps of an entry
abbrev pub entry_steps : ℕ → List (List ℕ) → Pattern → List ContextId
entry_steps home names (Include r) = option_to_list (include_step home names r)
entry_steps home names (Match m) =
    filter_map (open_step home names) (option_map_or (λ refs. refs) (list_of m.operation) [])

-- the steps of a context
abbrev pub prototype_steps : List (List Context) → ℕ → List (List ℕ) → ContextId → List ContextId
prototype_steps bodies home names id = flat_map (entry_steps home names) (entries_given bodies id)

-- the names of the contexts of the syntax of this index
abbrev pub names_at : List SyntaxReference → ℕ → List (List ℕ)
names_at heads index = option_map_or (λ s. s.names) (slice_get heads index) []

-- a context is reached from this prototype of its syntax, in none or more steps
abbrev pub is_reached : List SyntaxReference → List (List Context) → ContextId → ContextId → Bool
is_reached heads bodies prototype id =
    has_path_in (prototype_steps bodies id.syntax_index (names_at heads id.syntax_index)) (is_same id)
    (count_contexts bodies) prototype

-- the prototype of the syntax, if the context wants it and isn't reached from it
abbrev pub unless_reached : List SyntaxReference → List (List Context) → ContextId
    → Option ContextId → Option ContextId
unless_reached heads bodies id None = None
unless_reached heads bodies id (Some prototype) =
    if is_reached heads bodies prototype id then None else Some prototype

-- A context keeps the prototype that it was given. Else it has that of its syntax, if it wants it
-- and isn't reached from it.
abbrev pub prototype_for : List SyntaxReference → List (List Context) → ContextId → Context
    → Option ContextId
prototype_for heads bodies id c =
    option_or c.prototype
    (if c.meta_include_prototype
    then unless_reached heads bodies id (context_named heads id.syntax_index (codes "prototype"))
    else None)

-- ---- back references ----

-- what an entry includes, linked
abbrev pub included_by : List SyntaxReference → ℕ → Pattern → List ContextId
included_by heads index (Include r) = option_to_list (link_of heads index r)
included_by heads index (Match m) = []

-- the contexts that a context includes
abbrev pub includes_of : List SyntaxReference → List (List Context) → ContextId → List ContextId
includes_of heads bodies id = flat_map (included_by heads id.syntax_index) (entries_given bodies id)

-- whether a context is marked as it is given
abbrev pub is_marked : List (List Context) → ContextId → Bool
is_marked bodies id = option_map_or (λ c. c.uses_backrefs) (given_at bodies id) false

-- A context is marked where it is or includes, over any number of includes,
-- one that is marked as given.
abbrev pub is_marked_in_set : List SyntaxReference → List (List Context) → ContextId → Bool
is_marked_in_set heads bodies id =
    has_path_in (includes_of heads bodies) (is_marked bodies) (count_contexts bodies) id

-- ---- so many steps are enough ----

-- As many steps as there are contexts reach from a prototype what any number of steps reach.
abbrev pub PrototypesReach : Type 0
PrototypesReach =
    (heads : List SyntaxReference) (bodies : List (List Context)) (prototype id : ContextId)
    → (is_reached heads bodies prototype id ≡ true)
    ↔ HasPath (prototype_steps bodies id.syntax_index (names_at heads id.syntax_index))
    (is_same id) prototype

-- The same of includes and marks.
abbrev pub MarksReach : Type 0
MarksReach = (heads : List SyntaxReference) (bodies : List (List Context)) (id : ContextId)
    → (is_marked_in_set heads bodies id ≡ true) ↔ HasPath (includes_of heads bodies)
    (is_marked bodies) id
