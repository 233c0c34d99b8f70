-- The includes of contexts, seen from what is included.
use Rattle.std.specs.Prelude.{◌≡◌, true, ℕ, ◌+◌, List, [], ◌∷◌, ◌++◌, map, filter, if◌then◌else◌}
use Rattle.std.specs.List.{flat_map, list_any}
use Rattle.syntect_grammar_contexts.specs.Contexts.{is_same}
use Rattle.syntect_grammar_linker.specs.Reached.{included_by}
use Rattle.syntect_grammar_contexts.specs.declared.context.ContextId.{ContextId}
use Rattle.syntect_grammar_contexts.specs.declared.context.Pattern.{Pattern}
use Rattle.syntect_grammar_contexts.specs.declared.context.Context.{Context}
use Rattle.syntect_grammar_contexts.specs.declared.syntax_reference.SyntaxReference.{SyntaxReference}

-- ---- For proofs and private functions alone ----

-- an id is one of these
abbrev pub Among : ContextId → List ContextId → Type 0
Among id ids = list_any (is_same id) ids ≡ true

-- what is reached from these, in none or more steps
pub data From (steps : ContextId → List ContextId) (start : List ContextId) : ContextId
    → Type 0 where
  first : {id : ContextId} → Among id start → From steps start id
  onward : {id next : ContextId} → From steps start id → Among next (steps id)
      → From steps start next

-- what is included, with what includes it
abbrev pub Inclusion : Type 0
Inclusion = ContextId × ContextId

-- the inclusions of entries of a context
abbrev pub inclusions_of : List SyntaxReference → ContextId → List Pattern → List Inclusion
inclusions_of heads id entries =
    map (λ target. (target, id)) (flat_map (included_by heads id.syntax_index) entries)

-- what each of these contexts of the syntax of an index gives, from this place on
abbrev pub each_in : {A : Type 0} → (ContextId → Context → List A) → ℕ → ℕ → List Context → List A
each_in f index place [] = []
each_in f index place (c ∷ cs) =
    f (record { syntax_index = index; context_index = place }) c ++ each_in f index (place + 1) cs

-- what each context of these syntaxes gives, from this index on
abbrev pub each_from : {A : Type 0} → (ContextId → Context → List A) → ℕ → List (List Context)
    → List A
each_from f index [] = []
each_from f index (cs ∷ css) = each_in f index 0 cs ++ each_from f (index + 1) css

-- the inclusions of a context
abbrev pub inclusions_by : List SyntaxReference → ContextId → Context → List Inclusion
inclusions_by heads id c = inclusions_of heads id c.patterns

-- what includes a context, by these inclusions
abbrev pub includers_in : List Inclusion → ContextId → List ContextId
includers_in inclusions id =
    map (λ inclusion. inclusion.1) (filter (λ inclusion. is_same id inclusion.0) inclusions)

-- the context, if it is marked as it is given
abbrev pub if_marked : ContextId → Context → List ContextId
if_marked id c = if c.uses_backrefs then id ∷ [] else []
