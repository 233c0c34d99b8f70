-- Contexts, their numbers and what references stand for.
use Rattle.std.specs.Prelude.{ℕ, ◌==◌, ◌+◌, Bool, ◌&&◌, List, [], ◌∷◌, ◌++◌, length, position, Option, Some, None, slice_get}
use Rattle.std.specs.Cmp.Lexicographic.{pointwise}
use Rattle.std.specs.Option.{option_map, option_map_or, option_and_then, option_to_list}
use Rattle.syntect_grammar_contexts.specs.declared.context.ContextId.{ContextId}
use Rattle.syntect_grammar_contexts.specs.declared.context.ContextReference.{ContextReference}
use Rattle.syntect_grammar_contexts.specs.declared.context.ContextReference.TheVariants.{Direct}
use Rattle.syntect_grammar_contexts.specs.declared.context.MatchOperation.{MatchOperation}
use Rattle.syntect_grammar_contexts.specs.declared.context.MatchOperation.TheVariants as op
use Rattle.syntect_grammar_contexts.specs.declared.context.MatchPattern.{MatchPattern}
use Rattle.syntect_grammar_contexts.specs.declared.context.Pattern.{Pattern}
use Rattle.syntect_grammar_contexts.specs.declared.context.Pattern.TheVariants.{Match, Include}
use Rattle.syntect_grammar_contexts.specs.declared.context.Context.{Context}

-- whether two numbers are those of one context
abbrev pub is_same : ContextId → ContextId → Bool
is_same a b = (a.syntax_index == b.syntax_index) && (a.context_index == b.context_index)

-- what a reference stands for, if it is resolved
abbrev pub target : ContextReference → Option ContextId
target (Direct id) = Some id
target _ = None

-- an entry of a context that isn't an include
abbrev pub match_in : Pattern → Option MatchPattern
match_in (Match m) = Some m
match_in (Include r) = None

-- the match pattern at an index of a context
abbrev pub match_of : Context → ℕ → Option MatchPattern
match_of context index = option_and_then match_in (slice_get context.patterns index)

-- the list of a push or a set
abbrev pub list_of : MatchOperation → Option (List ContextReference)
list_of (op.Push refs) = Some refs
list_of (op.Set refs) = Some refs
list_of op.Pop = None
list_of op.None = None

-- the references that a match names: those of a push or set, then its `with_prototype`
abbrev pub named : MatchPattern → List ContextReference
named m = option_map_or (λ refs. refs ++ option_to_list m.with_prototype) (list_of m.operation) []

-- scopes, the outermost first
abbrev pub Scopes : Type 0
Scopes = List (List ℕ)

-- how many contexts there are in all
abbrev pub count_contexts : List (List Context) → ℕ
count_contexts [] = 0
count_contexts (cs ∷ css) = length cs + count_contexts css

-- the context of a name in the syntax of this index whose contexts have these names
abbrev pub named_in : ℕ → List (List ℕ) → List ℕ → Option ContextId
named_in index names name =
    option_map (λ i. record { syntax_index = index; context_index = i })
    (position (pointwise ◌==◌ name) names)
