-- The parts of a context: scopes, patterns, captures and references by text.
use Rattle.std.specs.Prelude.{ℕ, Bool, true, false, if◌then◌else◌, List, [], ◌∷◌, ◌++◌, map, Option, Some, None, is_some, option_and_then, Result, Ok, Err, ℤ, pos, negsuc}
use Rattle.syntect_grammar_loader.specs.syntect_scope.Words.{words}
use Rattle.syntect_grammar_loader.specs.syntect_scope.Repository.{with_atoms, with_scopes, atom_texts, scope_in, first_refusal}
use Rattle.syntect_grammar_loader.specs.syntect_scope.declared.repository.ParseScopeError.{ParseScopeError}
use Rattle.syntect_grammar_loader.specs.syntect_pattern.Pattern.{pattern_tree}
use Rattle.syntect_grammar_loader.specs.syntect_pattern.Trees.{group_in_look}
use Rattle.syntect_grammar_loader.specs.syntect_pattern.declared.error.PatternError.TheVariants.{NotAPattern}
use Rattle.syntect_yaml.specs.Node.{Node, number_of}
use Rattle.syntect_yaml.specs.declared.value.Scalar.{Scalar}
use Rattle.syntect_grammar_contexts.specs.Contexts.{Scopes}
use Rattle.syntect_grammar_rewrite.specs.Rewriting.{rewritten}
use Rattle.syntect_grammar_rewrite.specs.Testing.{tested_text}
use Rattle.syntect_grammar_loader.specs.LoadingSteps.{Refusal, no_scope, no_pattern, Step, give, ◌>>=◌, each}
use Rattle.syntect_grammar_loader.specs.LoadingValues.{text_in, head, sub_context, scope_text, is_file, file_name}
use Rattle.syntect_grammar_loader.specs.declared.yaml_load_state.Reading.{Reading}
use Rattle.syntect_grammar_contexts.specs.declared.context.ContextReference.{ContextReference}
use Rattle.syntect_grammar_contexts.specs.declared.context.ContextReference.TheVariants.{Named, ByScope, File}

-- ---- scopes ----

-- with this repository from here on
abbrev pub with_repository : List (List ℕ) → Reading → Reading
with_repository repository s = record s { repository = repository }

-- the scopes of these texts in this repository, which is kept from here on; or the refusal
abbrev pub scopes_unless : Option ParseScopeError → List (List ℕ) → List (List ℕ) → Step Scopes
scopes_unless (Some e) repository texts s = Err (no_scope e)
scopes_unless None repository texts s =
    Ok (map (scope_in repository) texts, with_repository repository s)

-- the scopes that a text names, taken up into the repository
abbrev pub scopes : List ℕ → Step Scopes
scopes text s =
    scopes_unless (first_refusal s.repository (words text)) (with_scopes s.repository (words text))
    (words text) s

-- the scope of this text in this repository, which is kept from here on; or the refusal
abbrev pub scope_unless : Option ParseScopeError → List (List ℕ) → List ℕ → Step (List ℕ)
scope_unless (Some e) repository text s = Err (no_scope e)
scope_unless None repository text s = Ok (scope_in repository text, with_repository repository s)

-- the one scope of a text
abbrev pub scope : List ℕ → Step (List ℕ)
scope text s =
    scope_unless (first_refusal s.repository (text ∷ []))
    (with_atoms s.repository (atom_texts text)) text s

-- ---- patterns ----

-- the text is a pattern
abbrev pub is_pattern : List ℕ → Bool
is_pattern text = is_some (pattern_tree text)

-- the text of a pattern after its rewrites, refused where the text that is tested in its place is
-- no pattern
abbrev pub expression : List ℕ → Reading → Result (List ℕ) Refusal
expression raw s =
    let text = rewritten s.variables s.lines_include_newline raw in
    if is_pattern (tested_text text) then Ok text
    else Err (no_pattern (tested_text text) NotAPattern)

-- ---- captures ----

-- the natural number that a key is
abbrev pub natural : Option ℤ → Option ℕ
natural None = None
natural (Some (pos n)) = Some n
natural (Some (negsuc n)) = None

-- the group is one of this pattern, and stands in no lookaround
abbrev pub is_outside : Option Bool → Bool
is_outside (Some false) = true
is_outside (Some true) = false
is_outside None = false

-- the number, where the text is a pattern with a group of this number outside lookarounds
abbrev pub group_outside : List ℕ → Option ℕ → Option ℕ
group_outside text None = None
group_outside text (Some n) =
    if is_outside (option_and_then (λ tree. group_in_look tree n) (pattern_tree text)) then Some n
    else None

-- the group of a capture's key, where it counts
abbrev pub capture_group : List ℕ → Scalar → Option ℕ
capture_group text key = group_outside text (natural (number_of key))

-- the captures found, and one more where there are a group and a text that names scopes
abbrev pub add_capture : List (ℕ × Scopes) → Option ℕ → Option (List ℕ) → Step (List (ℕ × Scopes))
add_capture found (Some group) (Some text) = scopes text >>= λ ss. give (found ++ (group, ss) ∷ [])
add_capture found (Some group) None = give found
add_capture found None text = give found

-- an entry counts where its key is a group outside lookarounds and its value is a text
abbrev pub capture : List ℕ → List (ℕ × Scopes) → Scalar × Node → Step (List (ℕ × Scopes))
capture text found e = add_capture found (capture_group text e.0) (text_in e.1)

-- the captures of a pattern whose tested text is this
abbrev pub captures : List ℕ → List (Scalar × Node) → Step (List (ℕ × Scopes))
captures text es = each (capture text) [] es

-- ---- references by text ----

-- a reference by the text of a scope; without one by a file's name, else by a context's
abbrev pub reference_unless : Option (List ℕ) → Bool → List ℕ → Option (List ℕ)
    → Step ContextReference
reference_unless (Some text) with_escape name sub =
    scope text >>= λ s. give (ByScope s sub with_escape)
reference_unless None with_escape name sub =
    if is_file name then give (File (file_name name) sub with_escape)
    else give (Named name)

-- what a text without its marks refers to
abbrev pub named_reference : Bool → List ℕ → Option (List ℕ) → Step ContextReference
named_reference with_escape name sub = reference_unless (scope_text name) with_escape name sub

-- what a text refers to
abbrev pub text_reference : Bool → List ℕ → Step ContextReference
text_reference with_escape text = named_reference with_escape (head text) (sub_context text)
