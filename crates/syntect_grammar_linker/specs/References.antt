-- What references stand for in a set.
use Rattle.std.specs.Prelude.{ℕ, ◌==◌, suc, Bool, List, [], ◌∷◌, codes, slice_get, Option, Some, None, unwrap_or, if◌then◌else◌}
use Rattle.std.specs.Option.{option_map, option_or, option_and_then}
use Rattle.std.specs.Cmp.Lexicographic.{pointwise}
use Rattle.syntect_grammar_contexts.specs.declared.context.ContextId.{ContextId}
use Rattle.syntect_grammar_contexts.specs.declared.context.ContextReference.{ContextReference}
use Rattle.syntect_grammar_contexts.specs.declared.context.ContextReference.TheVariants.{Named, Inline, ByScope, File, Direct}
use Rattle.syntect_grammar_contexts.specs.declared.syntax_reference.SyntaxReference.{SyntaxReference}
use Rattle.syntect_grammar_contexts.specs.Contexts.{named_in}

-- ---- names ----

-- the context of a name in the syntax of this index
abbrev pub context_named : List SyntaxReference → ℕ → List ℕ → Option ContextId
context_named heads index name =
    option_and_then (λ s. named_in index s.names name) (slice_get heads index)

-- the name that a reference means: `$top_level_main` is `main`
abbrev pub meant : List ℕ → List ℕ
meant name = if pointwise ◌==◌ name (codes "$top_level_main") then codes "main" else name

-- the place of the last one that passes the test
abbrev pub last_that : {A : Type 0} → (A → Bool) → List A → Option ℕ
last_that test [] = None
last_that test (x ∷ xs) =
    option_or (option_map suc (last_that test xs)) (if test x then Some 0 else None)

-- whether a syntax has this scope, or this name
abbrev pub has_scope : List ℕ → SyntaxReference → Bool
has_scope scope s = pointwise ◌==◌ s.scope scope

-- whether a syntax has this name
abbrev pub has_name : List ℕ → SyntaxReference → Bool
has_name name s = pointwise ◌==◌ s.name name

-- the context of this name, else `main`, in the last syntax that passes the test
abbrev pub context_by : (SyntaxReference → Bool) → List SyntaxReference → Option (List ℕ)
    → Option ContextId
context_by test heads sub_context =
    option_and_then (λ index. context_named heads index (unwrap_or sub_context (codes "main")))
    (last_that test heads)

-- `main` of the last syntax named `Plain Text`
abbrev pub plain_text_in : List SyntaxReference → Option ContextId
plain_text_in heads = context_by (has_name (codes "Plain Text")) heads None

-- plain text takes the place of nothing, for a reference that has a way out
abbrev pub or_plain_text : List SyntaxReference → Bool → Option ContextId → Option ContextId
or_plain_text heads with_escape found =
    option_or found (if with_escape then plain_text_in heads else None)

-- ---- references ----

-- what a reference stands for in the syntax of this index
abbrev pub link_of : List SyntaxReference → ℕ → ContextReference → Option ContextId
link_of heads index (Named name) = context_named heads index (meant name)
link_of heads index (Inline name) = context_named heads index (meant name)
link_of heads index (ByScope scope sub_context with_escape) =
    or_plain_text heads with_escape (context_by (has_scope scope) heads sub_context)
link_of heads index (File name sub_context with_escape) =
    or_plain_text heads with_escape (context_by (has_name name) heads sub_context)
link_of heads index (Direct id) = Some id

-- a reference that stands for something is linked to it, any other stays
abbrev pub linked_reference : List SyntaxReference → ℕ → ContextReference → ContextReference
linked_reference heads index r = unwrap_or (option_map Direct (link_of heads index r)) r
