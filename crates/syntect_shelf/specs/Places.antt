-- Which grammars lead to which, and shelves on which some stand as heads alone.
use Rattle.std.specs.Prelude.{◌≡◌, ℕ, ◌==◌, ◌+◌, Bool, true, List, [], ◌∷◌, ◌++◌, codes, Option, Some, None, slice_get, if◌then◌else◌}
use Rattle.std.specs.List.{filter_map, flat_map}
use Rattle.std.specs.Cmp.Lexicographic.{pointwise}
use Rattle.std.specs.Option.{option_map, option_map_or, option_to_list}
use Rattle.syntect_grammar.specs.syntect_grammar_contexts.Contexts.{list_of}
use Rattle.syntect_grammar.specs.syntect_grammar_contexts.declared.context.Context.{Context}
use Rattle.syntect_grammar.specs.syntect_grammar_contexts.declared.context.ContextId.{ContextId}
use Rattle.syntect_grammar.specs.syntect_grammar_contexts.declared.context.ContextReference.{ContextReference}
use Rattle.syntect_grammar.specs.syntect_grammar_contexts.declared.context.ContextReference.TheVariants.{Named, Inline, ByScope, File, Direct}
use Rattle.syntect_grammar.specs.syntect_grammar_contexts.declared.context.Pattern.{Pattern}
use Rattle.syntect_grammar.specs.syntect_grammar_contexts.declared.context.Pattern.TheVariants.{Match, Include}
use Rattle.syntect_grammar.specs.syntect_grammar_linker.References.{last_that}
use Rattle.syntect_grammar.specs.syntect_grammar_loader.declared.definition.SyntaxDefinition.{SyntaxDefinition}

-- each of these is so
abbrev pub Each : {A : Type 0} → (A → Type 0) → List A → Type 0
Each P [] = Unit {0}
Each P (x ∷ xs) = P x × Each P xs

-- which syntaxes are whole, by their places
abbrev pub Whole : Type 0
Whole = ℕ → Bool

-- the head of a definition alone, without variables and contexts
abbrev pub head_alone : SyntaxDefinition → SyntaxDefinition
head_alone d = record d { variables = []; contexts = [] }

-- the definition at this place: whole, or its head alone
abbrev pub shelved_at : Whole → ℕ → SyntaxDefinition → SyntaxDefinition
shelved_at whole index d = if whole index then d else head_alone d

-- definitions from this index on, each whole or as its head alone
abbrev pub shelved : Whole → ℕ → List SyntaxDefinition → List SyntaxDefinition
shelved whole index [] = []
shelved whole index (d ∷ ds) = shelved_at whole index d ∷ shelved whole (index + 1) ds

-- ---- where references lead ----

-- the place of the last definition of this scope, and of this name
abbrev pub last_of_scope : List ℕ → List SyntaxDefinition → Option ℕ
last_of_scope scope ds = last_that (λ d. pointwise ◌==◌ d.scope scope) ds

abbrev pub last_of_name : List ℕ → List SyntaxDefinition → Option ℕ
last_of_name name ds = last_that (λ d. pointwise ◌==◌ d.name name) ds

-- the place of the syntax that a reference names, if it names one; one by name alone stays in its own
abbrev pub place_of : List SyntaxDefinition → ContextReference → Option ℕ
place_of ds (Named name) = None
place_of ds (Inline name) = None
place_of ds (ByScope scope sub_context with_escape) = last_of_scope scope ds
place_of ds (File name sub_context with_escape) = last_of_name name ds
place_of ds (Direct id) = Some id.syntax_index

-- the references of an entry
abbrev pub references_of : Pattern → List ContextReference
references_of (Match m) =
    option_map_or (λ refs. refs) (list_of m.operation) [] ++ option_to_list m.with_prototype
references_of (Include r) = r ∷ []

-- the places to which references lead, an entry, a context with the prototype that it is given, and
-- a definition
abbrev pub places_by : List SyntaxDefinition → List ContextReference → List ℕ
places_by ds refs = filter_map (place_of ds) refs

abbrev pub places_of_entry : List SyntaxDefinition → Pattern → List ℕ
places_of_entry ds p = places_by ds (references_of p)

abbrev pub places_of_context : List SyntaxDefinition → Context → List ℕ
places_of_context ds c =
    flat_map (places_of_entry ds) c.patterns
    ++ option_to_list (option_map (λ (id : ContextId). id.syntax_index) c.prototype)

abbrev pub places_of_definition : List SyntaxDefinition → SyntaxDefinition → List ℕ
places_of_definition ds d =
    flat_map (λ (entry : List ℕ × Context). places_of_context ds entry.1) d.contexts

-- these places are whole
abbrev pub AreWhole : Whole → List ℕ → Type 0
AreWhole whole places = Each (λ i. whole i ≡ true) places

-- Plain text is whole, which takes the place of what a reference with a way out doesn't find; and
-- whole definitions lead to whole ones.
pub record IsClosedShelf (whole : Whole) (ds : List SyntaxDefinition) : Type 0 where
  pub plain : AreWhole whole (option_to_list (last_of_name (codes "Plain Text") ds))
  pub leads : (i : ℕ) (d : SyntaxDefinition) → whole i ≡ true → slice_get ds i ≡ Some d
      → AreWhole whole (places_of_definition ds d)
