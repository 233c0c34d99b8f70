-- Sets that were built of definitions, and what the definitions have to be.
use Rattle.std.specs.Prelude.{◌≡◌, Bool, true, ℕ, ◌==◌, ◌≤◌, List, [], length, map, position, codes, Option, Some, None, IfSome, All, is_none, slice_get, Ok}
use Rattle.std.specs.List.{list_all}
use Rattle.std.specs.Option.{option_and_then}
use Rattle.std.specs.Cmp.Lexicographic.{pointwise}
use Rattle.syntect_parsing.specs.Line.{start_id}
use Rattle.syntect_easy.specs.syntect_grammar.Link.{linked, names_of, syntaxes_in}
use Rattle.syntect_easy.specs.syntect_grammar_loader.Loading.{loaded}
use Rattle.syntect_parsing.specs.Refusals.{lone_patterns, stays}
use Rattle.syntect_easy.specs.syntect_grammar_contexts.declared.context.Context.{Context}
use Rattle.syntect_easy.specs.syntect_grammar_loader.declared.definition.SyntaxDefinition.{SyntaxDefinition}
use Rattle.syntect_easy.specs.syntect_grammar_contexts.declared.syntax_reference.SyntaxReference.{SyntaxReference}
use Rattle.syntect_easy.specs.syntect_grammar.declared.syntax_set.SyntaxSet.{SyntaxSet}

-- the context `__start` of a definition, in which reading begins, if it has one
abbrev pub start_context : SyntaxDefinition → Option Context
start_context d =
    option_and_then (slice_get (map (λ entry. entry.1) d.contexts))
    (position (pointwise ◌==◌ (codes "__start")) (names_of d.contexts))

-- `__start` has no `meta_scope`, at most one content scope and clears nothing, as in every grammar
-- that is loaded
abbrev pub IsPlain : SyntaxDefinition → Type 0
IsPlain d =
    IfSome (start_context d)
    (λ c. (c.meta_scope ≡ []) × (length c.meta_content_scope ≤ 1) × (c.clear_scopes ≡ None))

-- no context of the definition has the key `clear_scopes`
abbrev pub clears_nothing : SyntaxDefinition → Bool
clears_nothing d = list_all (λ entry. is_none entry.1.clear_scopes) d.contexts

-- the set was built once, of these definitions, which are plain, and the syntax is one of it
pub record IsSyntaxOfBuilt (set : SyntaxSet) (syntax : SyntaxReference)
    (definitions : List SyntaxDefinition) : Type 0 where
  pub links : syntaxes_in set ≡ linked definitions
  pub place : ℕ
  pub among : slice_get (syntaxes_in set) place ≡ Some syntax
  pub plain : All IsPlain definitions

-- a definition that `load_from_str` answers to some text
pub record IsLoaded (d : SyntaxDefinition) : Type 0 where
  pub text : List ℕ
  pub lines_include_newline : Bool
  pub fallback : Option (List ℕ)
  pub repository : List (List ℕ)
  pub left : List (List ℕ)
  pub loads : loaded text lines_include_newline fallback repository ≡ Ok (d, left)

-- the set was built once, of these definitions, which are plain
pub record IsBuilt (set : SyntaxSet) (definitions : List SyntaxDefinition) : Type 0 where
  pub links : syntaxes_in set ≡ linked definitions
  pub plain : All IsPlain definitions

-- Nothing that is looked at in `__start` alone pops it or sets another context in its place: a text
-- never leaves it.
abbrev pub StaysInStart : SyntaxSet → SyntaxReference → Type 0
StaysInStart set syntax =
    IfSome (start_id syntax) (λ id. list_all (λ m. stays m.operation) (lone_patterns set id) ≡ true)
