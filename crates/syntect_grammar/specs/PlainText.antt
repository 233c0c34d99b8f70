-- The syntax of text without markup.
use Rattle.std.specs.Prelude.{◌≡◌, ℕ, false, List, [], ◌∷◌, ◌++◌, codes, Some, None, Ok}
use Rattle.std.specs.Option.{option_map}
use Rattle.std.specs.BTreeMap.{is_at}
use Rattle.std.specs.Map.{lookup}
use Rattle.std.specs.Cmp.Lexicographic.{slice_cmp}
use Rattle.std.specs.Ordering.{nat_cmp}
use Rattle.syntect_grammar.specs.syntect_scope.Repository.{scope_in}
use Rattle.syntect_grammar.specs.Link.{definitions_in, paths_in}
use Rattle.syntect_grammar_loader.specs.Loading.{loaded}
use Rattle.syntect_grammar_loader.specs.declared.definition.SyntaxDefinition.{SyntaxDefinition}
use Rattle.syntect_grammar.specs.declared.syntax_set.SyntaxSetBuilder.{SyntaxSetBuilder}

-- its grammar
abbrev pub plain_text : List ℕ
plain_text =
    codes "---\nname: Plain Text\nfile_extensions: [txt]\nscope: text.plain\ncontexts: {main: []}"

-- named `Plain Text`, of the extension `txt` and the scope `text.plain`,
-- with a `main` that has no patterns
pub record IsPlainText (repository : List (List ℕ)) (d : SyntaxDefinition) : Type 0 where
  pub name : d.name ≡ codes "Plain Text"
  pub extensions : d.file_extensions ≡ codes "txt" ∷ []
  pub scope : d.scope ≡ scope_in repository (codes "text.plain")
  pub first_line : d.first_line_match ≡ None
  pub shown : d.hidden ≡ false
  pub variables : d.variables ≡ []
  pub main : option_map (λ c. c.patterns)
      (lookup (is_at (slice_cmp nat_cmp (codes "main"))) d.contexts) ≡ Some []

-- the builder with the definition of that grammar last, whose scopes are those of the repository
-- that is left
pub record AddsPlainText (old new : SyntaxSetBuilder) (before after : List (List ℕ)) : Type 0 where
  pub definition : SyntaxDefinition
  pub loads : loaded plain_text false None before ≡ Ok (definition, after)
  pub definitions : definitions_in new ≡ definitions_in old ++ definition ∷ []
  pub paths : paths_in new ≡ paths_in old

-- what the grammar of plain text gives is such a definition
abbrev pub PlainTextIsPlain : Type 0
PlainTextIsPlain = (before after : List (List ℕ)) (d : SyntaxDefinition)
    → loaded plain_text false None before ≡ Ok (d, after) → IsPlainText after d
