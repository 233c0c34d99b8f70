-- What linking left unresolved, as texts.
use Rattle.std.specs.Prelude.{ℕ, ◌==◌, Bool, true, false, ◌||◌, List, [], ◌∷◌, ◌++◌, map, is_none, codes, chars, encode_utf8_all, Option, Some, None, unwrap_or, if◌then◌else◌}
use Rattle.std.specs.BTreeSet.{insert_key}
use Rattle.std.specs.Cmp.Lexicographic.{slice_cmp}
use Rattle.std.specs.Ordering.{nat_cmp}
use Rattle.std.specs.List.{filter, flat_map}
use Rattle.syntect_grammar_linker.specs.syntect_scope.Repository.{scope_text}
use Rattle.syntect_grammar_contexts.specs.Contexts.{target}
use Rattle.syntect_grammar_contexts.specs.Contexts.{list_of}
use Rattle.syntect_grammar_contexts.specs.declared.context.ContextReference.{ContextReference}
use Rattle.syntect_grammar_contexts.specs.declared.context.ContextReference.TheVariants.{Named, ByScope, File, Inline, Direct}
use Rattle.syntect_grammar_contexts.specs.declared.context.Pattern.{Pattern}
use Rattle.syntect_grammar_contexts.specs.declared.context.Pattern.TheVariants.{Match, Include}
use Rattle.syntect_grammar_contexts.specs.declared.syntax_reference.SyntaxReference.{SyntaxReference}

-- ---- the text of a reference ----

-- a character between quotes: a quote and a backslash get a backslash before them
abbrev pub quoted_char : ℕ → List ℕ
quoted_char c = if (c == 34) || (c == 92) then 92 ∷ c ∷ [] else c ∷ []

abbrev pub between_quotes : List ℕ → List ℕ
between_quotes text = encode_utf8_all (flat_map quoted_char (chars text))

-- a text in quotes
abbrev pub quoted : List ℕ → List ℕ
quoted text = codes "\"" ++ (between_quotes text ++ codes "\"")

-- the name of a context in another syntax, if there is one
abbrev pub sub_context_text : Option (List ℕ) → List ℕ
sub_context_text None = codes "None"
sub_context_text (Some name) = codes "Some(" ++ (quoted name ++ codes ")")

abbrev pub truth_text : Bool → List ℕ
truth_text true = codes "true"
truth_text false = codes "false"

-- the end of a reference into another syntax, from its sub context on
abbrev pub elsewhere_text : Option (List ℕ) → Bool → List ℕ
elsewhere_text sub with_escape =
    sub_context_text sub ++ (codes ", with_escape: " ++ (truth_text with_escape ++ codes " }"))

-- a reference by scope, by the text of its scope
abbrev pub by_scope_text : List ℕ → Option (List ℕ) → Bool → List ℕ
by_scope_text scope sub with_escape =
    codes "ByScope { scope: <"
    ++ (scope ++ (codes ">, sub_context: " ++ elsewhere_text sub with_escape))

-- a reference by the name of a syntax
abbrev pub file_text : List ℕ → Option (List ℕ) → Bool → List ℕ
file_text name sub with_escape =
    codes "File { name: " ++ (quoted name ++ (codes ", sub_context: "
    ++ elsewhere_text sub with_escape))

-- a reference that isn't resolved, its scope written by a repository; a resolved one has no text
abbrev pub reference_text : List (List ℕ) → ContextReference → List ℕ
reference_text atoms (Named name) = codes "Named(" ++ (quoted name ++ codes ")")
reference_text atoms (Inline name) = codes "Inline(" ++ (quoted name ++ codes ")")
reference_text atoms (ByScope scope sub with_escape) =
    by_scope_text (scope_text atoms scope) sub with_escape
reference_text atoms (File name sub with_escape) = file_text name sub with_escape
reference_text atoms (Direct id) = []

-- what is said of a syntax with this name and scope and a reference of it, by their texts
abbrev pub said : List ℕ → List ℕ → List ℕ → List ℕ
said name scope reference =
    codes "Syntax '" ++ (name ++ (codes "' with scope '"
    ++ (scope ++ (codes "' has unresolved context reference " ++ reference))))

abbrev pub unlinked_text : List (List ℕ) → SyntaxReference → ContextReference → List ℕ
unlinked_text atoms s r = said s.name (scope_text atoms s.scope) (reference_text atoms r)

-- ---- those of a syntax ----

-- what a pattern pushes or sets
abbrev pub pushed_by : Pattern → List ContextReference
pushed_by (Match m) = unwrap_or (list_of m.operation) []
pushed_by (Include r) = []

-- the texts of those among them that aren't resolved
abbrev pub unlinked_among : List (List ℕ) → SyntaxReference → List ContextReference → List (List ℕ)
unlinked_among atoms s refs = map (unlinked_text atoms s) (filter (λ r. is_none (target r)) refs)

-- those of a syntax
abbrev pub unlinked_of : List (List ℕ) → SyntaxReference → List (List ℕ)
unlinked_of atoms s =
    unlinked_among atoms s (flat_map (λ c. flat_map pushed_by c.patterns) s.contexts)

-- texts in their order, each once, with these
abbrev pub with_texts : List (List ℕ) → List (List ℕ) → List (List ℕ)
with_texts keys [] = keys
with_texts keys (t ∷ ts) = with_texts (insert_key (slice_cmp nat_cmp) keys t) ts
