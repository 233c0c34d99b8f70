-- What a set holds, and its contexts.
use Rattle.std.specs.Prelude.{ℕ, List, [], map, Option, slice_get}
use Rattle.std.specs.Option.{option_map_or, option_and_then}
use Rattle.syntect_grammar.specs.syntect_grammar_contexts.declared.context.ContextId.{ContextId}
use Rattle.syntect_grammar.specs.syntect_grammar_contexts.declared.context.Context.{Context}
use Rattle.syntect_grammar.specs.syntect_grammar_contexts.declared.syntax_reference.SyntaxReference.{SyntaxReference}
use Rattle.syntect_grammar.specs.declared.syntax_set.SyntaxSet.{SyntaxSet}

-- the syntaxes of a set
abbrev pub syntaxes_in : SyntaxSet → List SyntaxReference
syntaxes_in set = set.syntaxes

-- the paths of the files from which some of them were loaded, each with the place of its syntax
abbrev pub set_paths : SyntaxSet → List (List ℕ × ℕ)
set_paths set = set.path_syntaxes

-- the contexts of each syntax of a set
abbrev pub contexts_of : SyntaxSet → List (List Context)
contexts_of set = map (λ s. s.contexts) (syntaxes_in set)

-- the context of a number, if the set has it
abbrev pub context_at : SyntaxSet → ContextId → Option Context
context_at set id =
    option_and_then (λ cs. slice_get cs id.context_index)
    (slice_get (contexts_of set) id.syntax_index)

-- a part of a context, nothing where the set lacks it
abbrev pub part_of : {X : Type 0} → (Context → List X) → SyntaxSet → ContextId → List X
part_of part set id = option_map_or part (context_at set id) []

-- ---- What invariants alone rest on ----

-- the set of these syntaxes, none of which was loaded from a file, without metadata
abbrev pub set_of : List SyntaxReference → SyntaxSet
set_of syntaxes =
    record { syntaxes = syntaxes; path_syntaxes = []; metadata = record { scoped_metadata = [] } }
