-- Small grammars, linked by the definition.
use Rattle.std.proofs.Common.{◌≡◌, ℕ, Bool, true, false, List, [], ◌∷◌, ◌++◌, map, Option, Some, None, refl}
use Rattle.std.specs.Prelude.{codes}
use Rattle.std.specs.List.{flat_map}
use Rattle.syntect_laws.specs.syntect_grammar.Link.{heads_from}
use Rattle.syntect_laws.specs.syntect_grammar_linker.References.{linked_reference}
use Rattle.syntect_laws.specs.syntect_grammar.Link.{linked}
use Rattle.syntect_laws.specs.syntect_grammar_contexts.declared.context.ContextId.{ContextId}
use Rattle.syntect_laws.specs.syntect_grammar_contexts.declared.context.ContextReference.{ContextReference}
use Rattle.syntect_laws.specs.syntect_grammar_contexts.declared.context.ContextReference.TheVariants.{Named, Inline, ByScope, File, Direct}
use Rattle.syntect_laws.specs.syntect_grammar_contexts.declared.context.MatchOperation.{MatchOperation}
use Rattle.syntect_laws.specs.syntect_grammar_contexts.declared.context.MatchOperation.TheVariants as op
use Rattle.syntect_laws.specs.syntect_grammar_contexts.declared.context.Pattern.{Pattern}
use Rattle.syntect_laws.specs.syntect_grammar_contexts.declared.context.Pattern.TheVariants.{Match, Include}
use Rattle.syntect_laws.specs.syntect_grammar_contexts.declared.context.Context.{Context}
use Rattle.syntect_laws.specs.syntect_grammar_loader.declared.definition.SyntaxDefinition.{SyntaxDefinition}
use Rattle.syntect_laws.specs.syntect_grammar_contexts.declared.syntax_reference.SyntaxReference.{SyntaxReference}

abbrev on : List ℕ → MatchOperation → Pattern
on regex operation = Match (record { has_captures = false; regex = regex; scope = []; captures = None; operation = operation; with_prototype = None })

-- a context that wants the prototype or not, and has back references or not
abbrev context : Bool → Bool → List Pattern → Context
context wants marked patterns = record { meta_scope = []; meta_content_scope = []; meta_include_prototype = wants; clear_scopes = None; prototype = None; uses_backrefs = marked; patterns = patterns }

abbrev grammar : List ℕ → List ℕ → List (List ℕ × Context) → SyntaxDefinition
grammar name scope contexts = record { name = name; file_extensions = []; scope = scope; first_line_match = None; hidden = false; variables = []; contexts = contexts }

abbrev named : List ℕ → ContextReference
named name = Named name

abbrev id : ℕ → ℕ → ContextId
id i j = record { syntax_index = i; context_index = j }

abbrev contexts_in : List SyntaxDefinition → List Context
contexts_in ds = flat_map (λ s. s.contexts) (linked ds)

-- ---- prototypes ----

-- a prototype that pushes a context, with the contexts that loading adds
abbrev with_prototype : SyntaxDefinition
with_prototype = grammar (codes "T") (1 ∷ []) (
    (codes "__main", context true false (Include (named (codes "main")) ∷ []))
    ∷ (codes "__start", context false false (on (codes "") (op.Push (named (codes "__main") ∷ [])) ∷ []))
    ∷ (codes "c", context true false (on (codes "x") op.Pop ∷ []))
    ∷ (codes "main", context true false [])
    ∷ (codes "prototype", context false false (on (codes "#") (op.Push (named (codes "c") ∷ [])) ∷ []))
    ∷ [])

-- exactly `__main` and `main` have it
prototypes_row : map (λ c. c.prototype) (contexts_in (with_prototype ∷ [])) ≡ Some (id 0 4) ∷ None ∷ None ∷ Some (id 0 4) ∷ None ∷ []
prototypes_row = refl

-- ---- references ----

abbrev plain_text : SyntaxDefinition
plain_text = grammar (codes "Plain Text") (2 ∷ []) ((codes "main", context true false []) ∷ [])

abbrev embedding : SyntaxDefinition
embedding = grammar (codes "T") (1 ∷ []) ((codes "main", context true false []) ∷ [])

abbrev nowhere : ContextReference
nowhere = ByScope (9 ∷ []) None true

-- an embedded scope that no syntax has is plain text where there is such a syntax, and else stays
embedded_row : linked_reference (heads_from 0 (plain_text ∷ embedding ∷ [])) 1 nowhere ≡ Direct (id 0 0)
embedded_row = refl

embedded_alone_row : linked_reference (heads_from 0 (embedding ∷ [])) 0 nowhere ≡ nowhere
embedded_alone_row = refl

-- without a way out it stays in any case
pushed_row : linked_reference (heads_from 0 (plain_text ∷ embedding ∷ [])) 1 (ByScope (9 ∷ []) None false) ≡ ByScope (9 ∷ []) None false
pushed_row = refl

-- the last syntax of a scope
last_row : linked_reference (heads_from 0 (embedding ∷ plain_text ∷ embedding ∷ [])) 1 (ByScope (1 ∷ []) None false) ≡ Direct (id 2 0)
last_row = refl

top_row : linked_reference (heads_from 0 (plain_text ∷ embedding ∷ [])) 1 (named (codes "$top_level_main")) ≡ Direct (id 1 0)
top_row = refl

-- ---- marks ----

-- a mark goes over two includes
abbrev with_mark : SyntaxDefinition
with_mark = grammar (codes "T") (1 ∷ []) (
    (codes "a", context true false (Include (named (codes "b")) ∷ []))
    ∷ (codes "b", context true false (Include (named (codes "c")) ∷ []))
    ∷ (codes "c", context true true [])
    ∷ (codes "d", context true false [])
    ∷ [])

marks_row : map (λ c. c.uses_backrefs) (contexts_in (with_mark ∷ [])) ≡ true ∷ true ∷ true ∷ false ∷ []
marks_row = refl
