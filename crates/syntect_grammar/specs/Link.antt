-- What linking makes of definitions.
pub use Rattle.syntect_grammar.specs.Contexts.{syntaxes_in, set_paths}
use Rattle.std.specs.Prelude.{ℕ, ◌+◌, List, [], ◌∷◌, map}
use Rattle.syntect_grammar_linker.specs.LinkedContexts.{linked_contexts}
use Rattle.syntect_grammar.specs.syntect_grammar_contexts.declared.context.Context.{Context}
use Rattle.syntect_grammar_loader.specs.declared.definition.SyntaxDefinition.{SyntaxDefinition}
use Rattle.syntect_grammar.specs.syntect_grammar_contexts.declared.syntax_reference.SyntaxReference.{SyntaxReference}
use Rattle.syntect_grammar.specs.declared.syntax_set.SyntaxSetBuilder.{SyntaxSetBuilder}

-- the definitions that a builder holds
abbrev pub definitions_in : SyntaxSetBuilder → List SyntaxDefinition
definitions_in builder = builder.syntaxes

-- the paths of the files from which some of them were loaded, each with the place of its definition
abbrev pub paths_in : SyntaxSetBuilder → List (List ℕ × ℕ)
paths_in builder = builder.path_syntaxes

-- ---- heads and bodies of definitions ----

-- the names of contexts in their order, which is that of their bytes
abbrev pub names_of : List (List ℕ × Context) → List (List ℕ)
names_of contexts = map (λ entry. entry.0) contexts

-- the head of the syntax of this index: all that it holds but its contexts, and their names
abbrev pub head_of : ℕ → SyntaxDefinition → SyntaxReference
head_of index d = record {
  name = d.name;
  file_extensions = d.file_extensions;
  scope = d.scope;
  first_line_match = d.first_line_match;
  hidden = d.hidden;
  variables = d.variables;
  index = index;
  names = names_of d.contexts;
  contexts = [];
  first_line = d.first_line_match;
}

-- the heads of definitions, from this index on
abbrev pub heads_from : ℕ → List SyntaxDefinition → List SyntaxReference
heads_from index [] = []
heads_from index (d ∷ ds) = head_of index d ∷ heads_from (index + 1) ds

-- the contexts of a definition as they are given, in the order of their names
abbrev pub body_of : SyntaxDefinition → List Context
body_of d = map (λ entry. entry.1) d.contexts

-- ---- syntaxes ----

-- The definition that stands at this index, linked with these heads and contexts of all
-- definitions: its contexts are linked, and all else is as it was given.
abbrev pub linked_definition : List SyntaxReference → List (List Context) → ℕ → SyntaxDefinition
    → SyntaxReference
linked_definition heads bodies index d =
    record (head_of index d) { contexts = linked_contexts heads bodies index 0 (body_of d) }

-- definitions from this index on
abbrev pub linked_from : List SyntaxReference → List (List Context) → ℕ → List SyntaxDefinition
    → List SyntaxReference
linked_from heads bodies index [] = []
linked_from heads bodies index (d ∷ ds) =
    linked_definition heads bodies index d ∷ linked_from heads bodies (index + 1) ds

-- all of them, linked to one another
abbrev pub linked : List SyntaxDefinition → List SyntaxReference
linked definitions = linked_from (heads_from 0 definitions) (map body_of definitions) 0 definitions
