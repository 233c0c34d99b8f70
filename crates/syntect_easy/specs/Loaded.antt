-- Sets of grammars that were loaded, as programs build them, and what is found in them.
use Rattle.std.specs.Prelude.{◌≡◌, ℕ, Bool, List, [], ◌∷◌, ◌++◌, Option, Some, All, Ok, slice_get}
use Rattle.syntect_easy.specs.syntect_base.Trees.{Answer}
use Rattle.syntect_easy.specs.syntect_base.declared.limits.Limits.{Limits}
use Rattle.syntect_grammar_limits.specs.FoldersWithin.{AddsFolderWithin}
use Rattle.syntect_grammar_limits.specs.WhatLoads.{AddsOfFolder}
use Rattle.syntect_grammar_limits.specs.declared.lenient.PassedOver.{PassedOver}
use Rattle.syntect_easy.specs.syntect_grammar.Link.{definitions_in, syntaxes_in, linked}
use Rattle.syntect_easy.specs.syntect_grammar.Finding.{found_by_scope, found_by_name, found_by_extension, found_by_token, found_by_first_line, found_for_file, found_plain_text}
use Rattle.syntect_easy.specs.syntect_grammar.Folders.{AddsFolder}
use Rattle.syntect_easy.specs.syntect_grammar.PlainText.{AddsPlainText}
use Rattle.syntect_easy.specs.syntect_grammar_loader.Loading.{loaded}
use Rattle.syntect_parsing.specs.Refusals.{AreByName}
use Rattle.syntect_easy.specs.syntect_grammar_loader.declared.definition.SyntaxDefinition.{SyntaxDefinition}
use Rattle.syntect_easy.specs.syntect_grammar_contexts.declared.syntax_reference.SyntaxReference.{SyntaxReference}
use Rattle.syntect_easy.specs.syntect_grammar.declared.syntax_set.SyntaxSet.{SyntaxSet}
use Rattle.syntect_easy.specs.syntect_grammar.declared.syntax_set.SyntaxSetBuilder.{SyntaxSetBuilder}
use Rattle.syntect_easy.specs.Built.{IsBuilt, IsSyntaxOfBuilt, IsLoaded, StaysInStart}
use Rattle.syntect_easy.specs.Leads.{BeginsPlain}

-- each definition of the builder was loaded
abbrev pub HoldsLoaded : SyntaxSetBuilder → Type 0
HoldsLoaded builder = All IsLoaded (definitions_in builder)

-- the set was built once, of definitions that were loaded
abbrev pub IsOfLoaded : SyntaxSet → Type 0
IsOfLoaded set =
    (definitions : List SyntaxDefinition) × (syntaxes_in set ≡ linked definitions)
    × All IsLoaded definitions

-- the syntax is one of the set
abbrev pub IsOneOf : SyntaxSet → SyntaxReference → Type 0
IsOneOf set syntax = (place : ℕ) × (slice_get (syntaxes_in set) place ≡ Some syntax)

-- ---- laws ----

-- What the calls of a builder add was loaded; so a set that it builds is one of loaded definitions.
pub record BuildersHold : Type 0 where
  pub nothing : (builder : SyntaxSetBuilder) → definitions_in builder ≡ [] → HoldsLoaded builder
  pub one : (old new : SyntaxSetBuilder) (text : List ℕ) (newlines : Bool)
      (fallback : Option (List ℕ)) (repository left : List (List ℕ)) (d : SyntaxDefinition)
      → HoldsLoaded old → loaded text newlines fallback repository ≡ Ok (d, left)
      → definitions_in new ≡ definitions_in old ++ d ∷ [] → HoldsLoaded new
  pub plain_text : (old new : SyntaxSetBuilder) (before after : List (List ℕ)) → HoldsLoaded old
      → AddsPlainText old new before after → HoldsLoaded new
  pub built : (builder : SyntaxSetBuilder) (set : SyntaxSet) → HoldsLoaded builder
      → syntaxes_in set ≡ linked (definitions_in builder) → IsOfLoaded set

-- What the calls of a builder add of a folder was loaded. `Told` is what calls on its tree told.
pub record FoldersHold (Told : Answer → Type 0) : Type 0 where
  pub folder : (newlines : Bool) (path : List ℕ) (before after : List (List ℕ))
      (old new : SyntaxSetBuilder)
      → HoldsLoaded old → AddsFolder Told newlines path before old after new → HoldsLoaded new
  pub folder_within : (limits : Limits) (newlines : Bool) (path : List ℕ)
      (before after : List (List ℕ)) (old new : SyntaxSetBuilder)
      → HoldsLoaded old → AddsFolderWithin Told limits newlines path before old after new
      → HoldsLoaded new
  pub what_loads : (limits : Limits) (newlines : Bool) (path : List ℕ)
      (before after : List (List ℕ)) (old new : SyntaxSetBuilder) (passed : List PassedOver)
      → HoldsLoaded old → AddsOfFolder Told limits newlines path before old passed after new
      → HoldsLoaded new

-- What is found in a set is one of it.
pub record FindsOwn : Type 0 where
  pub scope : (set : SyntaxSet) (scope : List ℕ) (syntax : SyntaxReference)
      → Some syntax ≡ found_by_scope set scope → IsOneOf set syntax
  pub name : (set : SyntaxSet) (name : List ℕ) (syntax : SyntaxReference)
      → Some syntax ≡ found_by_name set name → IsOneOf set syntax
  pub extension : (set : SyntaxSet) (extension : List ℕ) (syntax : SyntaxReference)
      → Some syntax ≡ found_by_extension set extension → IsOneOf set syntax
  pub token : (set : SyntaxSet) (token : List ℕ) (syntax : SyntaxReference)
      → Some syntax ≡ found_by_token set token → IsOneOf set syntax
  pub first_line : (set : SyntaxSet) (line : List ℕ) (syntax : SyntaxReference)
      → Some syntax ≡ found_by_first_line set line → IsOneOf set syntax
  pub plain_text : (set : SyntaxSet) (syntax : SyntaxReference) → Some syntax ≡ found_plain_text set
      → IsOneOf set syntax
  pub file : (set : SyntaxSet) (path line : List ℕ) (syntax : SyntaxReference)
      → Some syntax ≡ found_for_file set path line → IsOneOf set syntax

-- all that pages and lines have as premises of a set and a syntax
pub record MeetsPremises (set : SyntaxSet) (syntax : SyntaxReference) : Type 0 where
  pub definitions : List SyntaxDefinition
  pub loaded : All IsLoaded definitions
  pub built : IsBuilt set definitions
  pub built_of : IsSyntaxOfBuilt set syntax definitions
  pub by_name : AreByName definitions
  pub stays : StaysInStart set syntax
  pub begins_plain : BeginsPlain set syntax

-- a set of loaded definitions meets them with each of its syntaxes
abbrev pub LoadedSetsMeet : Type 0
LoadedSetsMeet = (set : SyntaxSet) (syntax : SyntaxReference) → IsOfLoaded set → IsOneOf set syntax
    → MeetsPremises set syntax
