-- What linking gives to contexts, besides their references:
-- prototypes and marks of back references.
use Rattle.std.specs.Prelude.{ℕ, ◌+◌, Bool, List, [], ◌∷◌, map, Option}
use Rattle.std.specs.List.{zip}
use Rattle.syntect_grammar_linker.specs.Reached.{prototype_for, is_marked_in_set}
use Rattle.syntect_grammar_linker.specs.LinkedContexts.{context_with}
use Rattle.syntect_grammar_contexts.specs.declared.context.ContextId.{ContextId}
use Rattle.syntect_grammar_contexts.specs.declared.context.Context.{Context}
use Rattle.syntect_grammar_contexts.specs.declared.syntax_reference.SyntaxReference.{SyntaxReference}

-- a prototype or none, and a mark or none
abbrev pub Gift : Type 0
Gift = Option ContextId × Bool

-- what a context is given
abbrev pub gift_for : List SyntaxReference → List (List Context) → ContextId → Context → Gift
gift_for heads bodies id c = (prototype_for heads bodies id c, is_marked_in_set heads bodies id)

-- the same for the contexts of the syntax of an index, from this place on
abbrev pub gifts_in : List SyntaxReference → List (List Context) → ℕ → ℕ → List Context → List Gift
gifts_in heads bodies index place [] = []
gifts_in heads bodies index place (c ∷ cs) =
    gift_for heads bodies (record { syntax_index = index; context_index = place }) c
    ∷ gifts_in heads bodies index (place + 1) cs

-- the same for syntaxes, from this index on
abbrev pub gifts_from : List SyntaxReference → List (List Context) → ℕ → List (List Context)
    → List (List Gift)
gifts_from heads bodies index [] = []
gifts_from heads bodies index (cs ∷ css) =
    gifts_in heads bodies index 0 cs ∷ gifts_from heads bodies (index + 1) css

-- contexts of the syntax of an index, linked and with their gifts
abbrev pub given_all : List SyntaxReference → ℕ → List Gift → List Context → List Context
given_all heads index gifts contexts =
    map (λ given. context_with heads index given.1.0 given.1.1 given.0) (zip contexts gifts)

-- the same for syntaxes, from this index on
abbrev pub given_from : List SyntaxReference → ℕ → List (List Context × List Gift)
    → List (List Context)
given_from heads index [] = []
given_from heads index (given ∷ rest) =
    given_all heads index given.1 given.0 ∷ given_from heads (index + 1) rest

-- ---- For proofs and private functions alone ----

-- a head with these contexts
abbrev pub whole : SyntaxReference × List Context → SyntaxReference
whole parts = record parts.0 { contexts = parts.1 }

-- heads with their contexts
abbrev pub put_together : List SyntaxReference → List (List Context) → List SyntaxReference
put_together heads bodies = map whole (zip heads bodies)
