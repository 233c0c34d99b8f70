-- What the handle of a set holds, and what its calls do.
use Rattle.std.specs.Prelude.{◌≡◌, ℕ, List, true, [], ◌∷◌, ◌++◌, Option, Some, Ok, IfSome, string_bytes}
use Rattle.std.specs.BTreeMap.{insert_entry}
use Rattle.std.specs.Cmp.Lexicographic.{slice_cmp}
use Rattle.std.specs.Ordering.{nat_cmp}
use Rattle.std.specs.Path.{path_file_stem}
use Rattle.syntect_assets.specs.Assets.{ShowsText, theme_named}
use Rattle.syntect_assets.specs.syntect_grammar.Link.{definitions_in}
use Rattle.syntect_assets.specs.syntect_grammar_limits.Limited.{LoadsWithin, left_of}
use Rattle.syntect_assets.specs.syntect_grammar_loader.Loading.{loaded}
use Rattle.syntect_assets.specs.syntect_grammar_loader.declared.definition.SyntaxDefinition.{SyntaxDefinition}
use Rattle.syntect_assets.specs.syntect_theme.declared.theme.Theme.{Theme}
use Rattle.syntect_assets.specs.syntect_theme_files.ThemeFiles.{IsThemeOf}
use Rattle.syntect_assets.specs.declared.assets.Assets.{Assets}
use Rattle.syntect_assets.specs.declared.assets.Shown.{Shown}
use Rattle.syntect_assets.specs.declared.builder.AssetsBuilder.{AssetsBuilder}
use Rattle.syntect_assets.specs.declared.format.Format.{Format}
use Rattle.syntect_easy.specs.Loaded.{HoldsLoaded, IsOfLoaded}
use Rattle.syntect_c.specs.declared.set.SetContent.{SetContent}
use Rattle.syntect_c.specs.declared.set.Stage.{Stage}

-- each grammar of the set was loaded from a text
abbrev pub IsLoadedStage : Stage → Type 0
IsLoadedStage (Stage.Gathering builder) = HoldsLoaded builder.grammars
IsLoadedStage (Stage.Linked assets) = IsOfLoaded assets.set
IsLoadedStage Stage.Lost = Unit {0}

-- so of the stage that a content has
abbrev pub HoldsLoadedAlone : SetContent → Type 0
HoldsLoadedAlone content = IsLoadedStage content.stage

-- the same of what a handle holds, if it holds something
abbrev pub HasLoadedAlone : Option SetContent → Type 0
HasLoadedAlone held = IfSome held HoldsLoadedAlone

-- a grammar is loaded from a text within limits, for lines with newlines, and is added; one without
-- a name has that of its file
pub record AddsGrammar (file text : List ℕ) (old new : AssetsBuilder) : Type 0 where
  pub definition : SyntaxDefinition
  pub loads : LoadsWithin (left_of old.limits text)
      (loaded text true (path_file_stem file) old.repository) (Ok definition) new.repository
  pub added : definitions_in new.grammars ≡ definitions_in old.grammars ++ definition ∷ []
  pub themes : new.themes ≡ old.themes
  pub limits : new.limits ≡ old.limits

-- the theme that bytes give is added under a name, in place of one of the same name
pub record AddsTheme (name bytes : List ℕ) (old new : AssetsBuilder) : Type 0 where
  pub theme : Theme
  pub reads : IsThemeOf old.repository bytes new.repository theme
  pub added : new.themes.themes ≡ insert_entry (slice_cmp nat_cmp) old.themes.themes name theme
  pub grammars : new.grammars ≡ old.grammars
  pub limits : new.limits ≡ old.limits

-- the same of what is gathered for a set
abbrev pub AddsGrammarTo : List ℕ → List ℕ → Stage → Stage → Type 0
AddsGrammarTo file text (Stage.Gathering old) (Stage.Gathering new) = AddsGrammar file text old new
AddsGrammarTo file text old new = ⊥

abbrev pub AddsThemeTo : List ℕ → List ℕ → Stage → Stage → Type 0
AddsThemeTo name bytes (Stage.Gathering old) (Stage.Gathering new) = AddsTheme name bytes old new
AddsThemeTo name bytes old new = ⊥

-- bytes show a text in the language of a name, by the theme of a name
pub record IsShown (assets : Assets) (text language theme : List ℕ) (format : Format)
    (out : List ℕ) : Type 0 where
  pub style : Theme
  pub theme_is : theme_named assets theme ≡ Some style
  pub shown : Shown
  pub out_is : string_bytes shown.text ≡ out
  pub shows : ShowsText assets text language style format shown

-- the output of a set whose grammars are linked shows a text
pub record ShowsStage (text language theme : List ℕ) (format : Format)
    (content : SetContent) : Type 0 where
  pub assets : Assets
  pub linked : content.stage ≡ Stage.Linked assets
  pub shows : IsShown assets text language theme format (string_bytes content.output)
