-- What `Assets` holds, and what they show.
use Rattle.std.specs.Prelude.{◌≡◌, ℕ, List, Option, Some, None, IsUtf8, string_bytes}
use Rattle.std.specs.Map.{lookup}
use Rattle.std.specs.BTreeMap.{is_at}
use Rattle.std.specs.Cmp.Lexicographic.{slice_cmp}
use Rattle.std.specs.Ordering.{nat_cmp}
use Rattle.syntect_assets.specs.syntect_base.Trees.{Answer, opened}
use Rattle.syntect_assets.specs.syntect_grammar.Finding.{found_by_token}
use Rattle.syntect_assets.specs.syntect_grammar_contexts.declared.syntax_reference.SyntaxReference.{SyntaxReference}
use Rattle.syntect_assets.specs.syntect_grammar.declared.error.Error.{Error}
use Rattle.syntect_assets.specs.syntect_grammar.declared.error.Error.TheVariants as error
use Rattle.syntect_assets.specs.syntect_theme.declared.theme.Theme.{Theme}
use Rattle.syntect_easy.specs.Files.{IsToldWithin}
use Rattle.syntect_easy.specs.Rows.{IsTextOf}
use Rattle.syntect_assets.specs.Texts.{IsWritten}
use Rattle.syntect_assets.specs.declared.assets.Assets.{Assets}
use Rattle.syntect_assets.specs.declared.assets.Shown.{Shown}
use Rattle.syntect_assets.specs.declared.error.AssetsError.{AssetsError}
use Rattle.syntect_assets.specs.declared.error.AssetsError.TheVariants as refusal
use Rattle.syntect_assets.specs.declared.format.Format.{Format}

-- the theme of a name, if there is one
abbrev pub theme_named : Assets → List ℕ → Option Theme
theme_named assets name = lookup (is_at (slice_cmp nat_cmp name)) assets.themes.themes

-- the syntax of a name: of this extension, or else of this name, whatever its case
abbrev pub language_named : Assets → List ℕ → Option SyntaxReference
language_named assets name = found_by_token assets.set name

-- what a refusal of the calls below becomes
abbrev pub not_shown : Error → AssetsError
not_shown error.Memory = refusal.Memory
not_shown e = refusal.NotShown e

-- ---- refusals ----

-- no syntax has the name, which is told, or memory ran out
abbrev pub LacksLanguage : Option SyntaxReference → List ℕ → AssetsError → Type 0
LacksLanguage found name (refusal.UnknownLanguage told known) =
    (found ≡ None) × (string_bytes told ≡ name)
LacksLanguage found name refusal.Memory = Unit {0}
LacksLanguage found name e = ⊥

-- no theme has the name, which is told, or memory ran out
abbrev pub LacksTheme : Option Theme → List ℕ → AssetsError → Type 0
LacksTheme found name (refusal.UnknownTheme told known) =
    (found ≡ None) × (string_bytes told ≡ name)
LacksTheme found name refusal.Memory = Unit {0}
LacksTheme found name e = ⊥

-- a text isn't shown: no syntax has the name, or the text is refused in one that has, or memory ran
-- out
abbrev pub RefusesText : Option SyntaxReference → List ℕ → AssetsError → Type 0
RefusesText found name (refusal.NotShown e) = (syntax : SyntaxReference) × (found ≡ Some syntax)
RefusesText found name e = LacksLanguage found name e

-- a line is refused, or memory ran out
abbrev pub RefusesLine : AssetsError → Type 0
RefusesLine (refusal.NotShown e) = Unit {0}
RefusesLine refusal.Memory = Unit {0}
RefusesLine e = ⊥

-- ---- what is shown ----

-- the text shows a text in a syntax, by a theme, in a format
abbrev pub ShowsIn : Assets → List ℕ → SyntaxReference → Theme → Format → Shown → Type 0
ShowsIn assets text syntax theme format shown =
    IsWritten assets.limits format assets.set theme syntax text (string_bytes shown.text) shown.plain

-- the same in the language of a name
pub record ShowsText (assets : Assets) (text name : List ℕ) (theme : Theme) (format : Format)
    (shown : Shown) : Type 0 where
  pub syntax : SyntaxReference
  pub named : language_named assets name ≡ Some syntax
  pub shows : ShowsIn assets text syntax theme format shown

-- the text shows what the file holds that was opened at the path, in the syntax of its path or of
-- what it had ahead, or as plain text
pub record ShowsFile (Told : Answer → Type 0) (assets : Assets) (path : List ℕ) (theme : Theme)
    (format : Format) (shown : Shown) : Type 0 where
  pub left : Option (List ℕ)
  pub told : Told (opened path left)
  pub syntax : SyntaxReference
  pub syntax_is : IsToldWithin assets.limits assets.set path left syntax shown.first_line
  pub text : List ℕ
  pub whole : IsTextOf left text
  pub utf8 : IsUtf8 text
  pub shows : ShowsIn assets text syntax theme format shown
