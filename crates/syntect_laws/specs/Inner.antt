-- The definition of a grammar, however the contexts inside of its top contexts are read.
use Rattle.std.specs.Prelude.{ℕ, zero, suc, Bool, not, List, [], Option, Some, None, Result, Err}
use Rattle.std.specs.Str.{bytes_eq}
use Rattle.syntect_yaml.specs.Node.{Node, text_of}
use Rattle.syntect_yaml.specs.Yaml.{yaml_of}
use Rattle.syntect_yaml.specs.declared.value.Scalar.{Scalar}
use Rattle.syntect_laws.specs.syntect_grammar_loader.LoadingSteps.{Refusal, no_node, no_value, wrong_kind, Step, give, ◌>>=◌, known, found_in, each}
use Rattle.syntect_laws.specs.syntect_grammar_loader.LoadingValues.{list_in, map_in}
use Rattle.syntect_laws.specs.syntect_grammar_loader.LoadingParts.{scope}
use Rattle.syntect_laws.specs.syntect_grammar_loader.LoadingContexts.{begin, named_context}
use Rattle.syntect_laws.specs.syntect_grammar_loader.Loading.{prototype_name, enter, contexts_at, scope_text_at, variables_at, nothing_read, finish}
use Rattle.syntect_laws.specs.syntect_grammar_loader.declared.definition.SyntaxDefinition.{SyntaxDefinition}

-- how a context without a name of its own is read from its items, and whether it wants a prototype
abbrev pub Inner : Type 0
Inner = Bool → List Node → Step (List ℕ)

-- a definition and the repository that reading it leaves, or the first refusal
abbrev pub Loaded : Type 0
Loaded = Result (SyntaxDefinition × List (List ℕ)) Refusal

module _ (inner : Inner) where
  abbrev pub top_context_over : Option (List ℕ) → Option (List Node) → Step (List ℕ)
  top_context_over (Some name) (Some items) =
      λ s. named_context inner name (not (bytes_eq name prototype_name)) items (enter name s)
  top_context_over (Some name) None = give []
  top_context_over None items = give []

  -- an entry that is text to list is a context, others are passed over
  abbrev pub top_entry_over : List ℕ → Scalar × Node → Step (List ℕ)
  top_entry_over found e = top_context_over (text_of e.0) (list_in e.1) >>= λ name. give []

  -- the contexts are read, and the scope of the grammar before them
  abbrev pub read_contexts_over : Node → Step (List ℕ)
  read_contexts_over v =
      known wrong_kind (map_in v) >>= λ es.
      (found_in (contexts_at v) >>= λ contexts.
      (found_in (scope_text_at v) >>= λ text.
      (scope text >>= λ top_scope.
      (each top_entry_over [] contexts >>= λ none.
      give top_scope))))

  -- the definition of a value
  abbrev pub definition_over : Node → Bool → Option (List ℕ) → List (List ℕ) → Loaded
  definition_over v lines_include_newline fallback repository =
      let before = nothing_read (variables_at v) lines_include_newline repository in
      finish v fallback (read_contexts_over v before)

  abbrev pub definition_in_over : Option (Option Node)
      → Bool → Option (List ℕ) → List (List ℕ) → Loaded
  definition_in_over None lines_include_newline fallback repository = Err no_value
  definition_in_over (Some None) lines_include_newline fallback repository = Err no_node
  definition_in_over (Some (Some v)) lines_include_newline fallback repository =
      definition_over v lines_include_newline fallback repository

  -- the definition of a text
  abbrev pub loaded_over : List ℕ → Bool → Option (List ℕ) → List (List ℕ) → Loaded
  loaded_over text lines_include_newline fallback repository =
      definition_in_over (yaml_of text) lines_include_newline fallback repository

-- a context inside of another, where one that is n deep is not refused,
-- but read in a way of its own
unfoldable pub context_above : Inner → ℕ → Inner
context_above deep zero wants_prototype items = deep wants_prototype items
context_above deep (suc n) wants_prototype items =
    begin >>= λ name. named_context (context_above deep n) name wants_prototype items
