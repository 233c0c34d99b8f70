-- What becomes of a set that is taken apart.
use Rattle.std.specs.Prelude.{ℕ, List, []}
use Rattle.std.specs.List.{zip, fold}
use Rattle.std.specs.BTreeMap.{insert_entry}
use Rattle.std.specs.Cmp.Lexicographic.{slice_cmp}
use Rattle.std.specs.Ordering.{nat_cmp}
use Rattle.syntect_grammar.specs.syntect_grammar_contexts.declared.context.Context.{Context}
use Rattle.syntect_grammar_loader.specs.declared.definition.SyntaxDefinition.{SyntaxDefinition}
use Rattle.syntect_grammar.specs.syntect_grammar_contexts.declared.syntax_reference.SyntaxReference.{SyntaxReference}

-- one context entered by its name
abbrev pub entered : List (List ℕ × Context) → List ℕ × Context → List (List ℕ × Context)
entered contexts entry = insert_entry (slice_cmp nat_cmp) contexts entry.0 entry.1

-- contexts by their names, in the byte order of these
abbrev pub by_names : List (List ℕ × Context) → List (List ℕ × Context)
by_names entries = fold entered [] entries

-- the definition that a syntax is: all as it is there, with its references as they are linked, and
-- with its prototypes and marks
abbrev pub definition_of_syntax : SyntaxReference → SyntaxDefinition
definition_of_syntax s = record {
  name = s.name;
  file_extensions = s.file_extensions;
  scope = s.scope;
  first_line_match = s.first_line_match;
  hidden = s.hidden;
  variables = s.variables;
  contexts = by_names (zip s.names s.contexts);
}
