-- The definition of a grammar: of its value, and of its text.
use Rattle.std.specs.Prelude.{ℕ, Bool, false, not, List, [], ◌∷◌, ◌++◌, codes, Option, Some, None, unwrap_or, option_map, Result, Ok, Err}
use Rattle.std.specs.List.{filter_map}
use Rattle.std.specs.Str.{bytes_eq}
use Rattle.std.specs.BTreeMap.{is_at, insert_entry}
use Rattle.std.specs.Map.{lookup, remove_entry}
use Rattle.std.specs.Cmp.Lexicographic.{slice_cmp}
use Rattle.std.specs.Ordering.{nat_cmp}
use Rattle.syntect_yaml.specs.Node.{Node, text_of, get}
use Rattle.syntect_yaml.specs.Yaml.{yaml_of, deepest}
use Rattle.syntect_yaml.specs.declared.value.Scalar.{Scalar}
use Rattle.syntect_grammar_loader.specs.LoadingSteps.{Refusal, no_node, no_value, no_main, missing, wrong_kind, Step, give, ◌>>=◌, known, found_in, each}
use Rattle.syntect_grammar_loader.specs.LoadingValues.{text_in, truth_in, list_in, map_in, at}
use Rattle.syntect_grammar_loader.specs.LoadingParts.{scope}
use Rattle.syntect_grammar_loader.specs.LoadingContexts.{put, new_context, named_context, context}
use Rattle.syntect_grammar_loader.specs.declared.yaml_load_state.Reading.{Reading}
use Rattle.syntect_grammar_contexts.specs.declared.context.ContextReference.TheVariants.{Named}
use Rattle.syntect_grammar_contexts.specs.declared.context.MatchOperation.TheVariants as op
use Rattle.syntect_grammar_contexts.specs.declared.context.MatchPattern.{MatchPattern}
use Rattle.syntect_grammar_contexts.specs.declared.context.Pattern.TheVariants.{Match, Include}
use Rattle.syntect_grammar_contexts.specs.declared.context.Context.{Context}
use Rattle.syntect_grammar_loader.specs.declared.definition.SyntaxDefinition.{SyntaxDefinition}

-- ---- the contexts ----

-- the name of the context whose patterns stand in every other one
abbrev pub prototype_name : List ℕ
prototype_name = codes "prototype"

-- the name of the context that every grammar has to define
abbrev pub main_name : List ℕ
main_name = codes "main"

-- the name of the context that reading begins in
abbrev pub start_name : List ℕ
start_name = codes "__start"

-- the name of the context that the start pushes, and that includes `main`
abbrev pub outer_name : List ℕ
outer_name = codes "__main"

-- the reading of a top context begins: none inside of it has begun
abbrev pub enter : List ℕ → Reading → Reading
enter name s = record s { top = name; begun = [] }

-- a context is read, if there are a name and items; at first all but `prototype` want a prototype
abbrev pub top_context : Option (List ℕ) → Option (List Node) → Step (List ℕ)
top_context (Some name) (Some items) =
    λ s. named_context (context deepest) name (not (bytes_eq name prototype_name)) items
    (enter name s)
top_context (Some name) None = give []
top_context None items = give []

-- an entry that is text to list is a context, others are passed over
abbrev pub top_entry : List ℕ → Scalar × Node → Step (List ℕ)
top_entry found e = top_context (text_of e.0) (list_in e.1) >>= λ name. give []

-- the top contexts among these entries are read, in order
abbrev pub top_contexts : List (Scalar × Node) → Step (List ℕ)
top_contexts es = each top_entry [] es

-- a context of a match that pushes by name
abbrev pub start_match : MatchPattern
start_match = record {
  has_captures = false;
  regex = [];
  scope = [];
  captures = None;
  operation = op.Push (Named outer_name ∷ []);
  with_prototype = None;
}

-- reading begins in a context that pushes the outer one at once, under the scope of the grammar
abbrev pub start_context : List ℕ → Context
start_context top_scope =
    record (new_context false) {
      meta_content_scope = top_scope ∷ [];
      patterns = Match start_match ∷ [];
    }

-- the outer one has the scopes of `main`, and its patterns
abbrev pub outer_context : Context → Context
outer_context main = record (new_context main.meta_include_prototype) {
  meta_scope = main.meta_scope;
  meta_content_scope = main.meta_content_scope;
  patterns = Include (Named main_name) ∷ [];
}

-- where another syntax opens it, `main` gives the scope of the grammar
abbrev pub main_context : List ℕ → Context → Context
main_context top_scope main =
    record main { meta_content_scope = top_scope ∷ main.meta_content_scope }

-- the other contexts, with those of the start and `main` in its last form
abbrev pub around_main : List ℕ → Context → List (List ℕ × Context) → List (List ℕ × Context)
around_main top_scope main others =
    put main_name (main_context top_scope main)
    (put outer_name (outer_context main)
    (put start_name (start_context top_scope) others))

-- these contexts with this `main` in its last form, and with those of the start
abbrev pub with_start : List ℕ → Context → List (List ℕ × Context) → List (List ℕ × Context)
with_start top_scope main contexts =
    around_main top_scope main (remove_entry (is_at (slice_cmp nat_cmp main_name)) contexts)

-- ---- the other keys ----

-- the texts of a list, if there is one
abbrev pub texts_in : Option (List Node) → List (List ℕ)
texts_in items = unwrap_or (option_map (filter_map text_in) items) []

-- the texts at `file_extensions`, and after them those at `hidden_file_extensions`
abbrev pub extensions : Node → List (List ℕ)
extensions v =
    texts_in (at list_in (codes "file_extensions") v)
    ++ texts_in (at list_in (codes "hidden_file_extensions") v)

-- the text at `name`, else the fallback, else `Unnamed`
abbrev pub name_of : Node → Option (List ℕ) → List ℕ
name_of v fallback = unwrap_or (at text_in (codes "name") v) (unwrap_or fallback (codes "Unnamed"))

-- the truth value at `hidden`, else false
abbrev pub is_hidden : Node → Bool
is_hidden v = unwrap_or (at truth_in (codes "hidden") v) false

-- the variables found, with this text at this name, where there are both
abbrev pub variable : List (List ℕ × List ℕ) → Option (List ℕ) → Option (List ℕ)
    → List (List ℕ × List ℕ)
variable found (Some name) (Some text) = insert_entry (slice_cmp nat_cmp) found name text
variable found (Some name) None = found
variable found None text = found

-- the entries of text to text, after those found
abbrev pub variables_from : List (List ℕ × List ℕ) → List (Scalar × Node) → List (List ℕ × List ℕ)
variables_from found [] = found
variables_from found (e ∷ es) = variables_from (variable found (text_of e.0) (text_in e.1)) es

-- the variables of a grammar: those entries at `variables` that are of text to text
abbrev pub variables_at : Node → List (List ℕ × List ℕ)
variables_at v = variables_from [] (unwrap_or (at map_in (codes "variables") v) [])

-- ---- the definition ----

-- before anything is read
abbrev pub nothing_read : List (List ℕ × List ℕ) → Bool → List (List ℕ) → Reading
nothing_read variables lines_include_newline repository = record {
  repository = repository;
  variables = variables;
  lines_include_newline = lines_include_newline;
  contexts = [];
  top = [];
  begun = [];
}

-- the definition of these contexts
abbrev pub defined : Node → List (List ℕ × List ℕ) → Option (List ℕ) → List ℕ
    → List (List ℕ × Context) → SyntaxDefinition
defined v variables fallback top_scope contexts = record {
  name = name_of v fallback;
  file_extensions = extensions v;
  scope = top_scope;
  first_line_match = at text_in (codes "first_line_match") v;
  hidden = is_hidden v;
  variables = variables;
  contexts = contexts;
}

-- what has to stand at a key
abbrev pub of_kind : {A : Type 0} → Option A → Result A Refusal
of_kind None = Err wrong_kind
of_kind (Some a) = Ok a

-- the value at a key, refused where it is missing, and where it is of another kind
abbrev pub wanted_by : {A : Type 0} → (Node → Option A) → List ℕ → Option Node → Result A Refusal
wanted_by kind key None = Err (missing key)
wanted_by kind key (Some v) = of_kind (kind v)

-- the entries of the map that has to stand at `contexts`
abbrev pub contexts_at : Node → Result (List (Scalar × Node)) Refusal
contexts_at v = wanted_by map_in (codes "contexts") (get (codes "contexts") v)

-- the text that has to stand at `scope`
abbrev pub scope_text_at : Node → Result (List ℕ) Refusal
scope_text_at v = wanted_by text_in (codes "scope") (get (codes "scope") v)

-- the contexts are read, and the scope of the grammar before them
abbrev pub read_contexts : Node → Step (List ℕ)
read_contexts v =
    known wrong_kind (map_in v) >>= λ es.
    (found_in (contexts_at v) >>= λ contexts.
    (found_in (scope_text_at v) >>= λ text.
    (scope text >>= λ top_scope.
    (top_contexts contexts >>= λ none.
    give top_scope))))

-- the definition of these contexts around this `main`, refused where there is none
abbrev pub finished_with : Node → List (List ℕ × List ℕ) → Option (List ℕ) → List ℕ
    → List (List ℕ × Context) → Option Context → Result SyntaxDefinition Refusal
finished_with v variables fallback top_scope contexts None = Err no_main
finished_with v variables fallback top_scope contexts (Some main) =
    Ok (defined v variables fallback top_scope (with_start top_scope main contexts))

-- the definition, where one of the contexts is `main`
abbrev pub finished : Node → List (List ℕ × List ℕ) → Option (List ℕ) → List ℕ
    → List (List ℕ × Context) → Result SyntaxDefinition Refusal
finished v variables fallback top_scope contexts =
    finished_with v variables fallback top_scope contexts
    (lookup (is_at (slice_cmp nat_cmp main_name)) contexts)

-- a definition, and the repository that its reading leaves; or the refusal
abbrev pub leaving : List (List ℕ) → Result SyntaxDefinition Refusal
    → Result (SyntaxDefinition × List (List ℕ)) Refusal
leaving repository (Ok d) = Ok (d, repository)
leaving repository (Err r) = Err r

-- the answer, from what reading the contexts gave: a definition and the repository, or a refusal
abbrev pub finish : Node → Option (List ℕ) → Result (List ℕ × Reading) Refusal
    → Result (SyntaxDefinition × List (List ℕ)) Refusal
finish v fallback (Err r) = Err r
finish v fallback (Ok p) =
    leaving p.1.repository (finished v p.1.variables fallback p.0 p.1.contexts)

-- the definition of a value, and the repository that it leaves; or the first refusal
abbrev pub definition_of : Node → Bool → Option (List ℕ) → List (List ℕ)
    → Result (SyntaxDefinition × List (List ℕ)) Refusal
definition_of v lines_include_newline fallback repository =
    finish v fallback (read_contexts v (nothing_read
    (variables_at v) lines_include_newline repository))

-- the definition of a text's value, refused where the text has no value, or has no node
abbrev pub definition_in : Option (Option Node) → Bool → Option (List ℕ) → List (List ℕ)
    → Result (SyntaxDefinition × List (List ℕ)) Refusal
definition_in None lines_include_newline fallback repository = Err no_value
definition_in (Some None) lines_include_newline fallback repository = Err no_node
definition_in (Some (Some v)) lines_include_newline fallback repository =
    definition_of v lines_include_newline fallback repository

-- the definition of a text
abbrev pub loaded : List ℕ → Bool → Option (List ℕ) → List (List ℕ)
    → Result (SyntaxDefinition × List (List ℕ)) Refusal
loaded text lines_include_newline fallback repository =
    definition_in (yaml_of text) lines_include_newline fallback repository
