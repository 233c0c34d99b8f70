-- Texts that assets show, and builders that hold what was loaded.
use Rattle.std.proofs.Common.{◌≡◌, ℕ, List, sym, subst, inl, inr}
use Rattle.std.specs.Prelude.{Option, Some, Result, Ok, Err, IfOk}
use Rattle.std.specs.Io.KnownBytes.{Keeps}
use Rattle.std.specs.declared.io.Error.{Error as IoError}
use Rattle.syntect_assets.specs.syntect_grammar.Finding.{found_by_token}
use Rattle.syntect_assets.specs.syntect_grammar.declared.syntax_set.SyntaxSet.{SyntaxSet}
use Rattle.syntect_assets.specs.syntect_grammar_contexts.declared.syntax_reference.SyntaxReference.{SyntaxReference}
use Rattle.syntect_assets.specs.syntect_grammar_loader.declared.definition.SyntaxDefinition.{SyntaxDefinition}
use Rattle.syntect_assets.specs.syntect_theme.declared.theme.Theme.{Theme}
use Rattle.syntect_assets.specs.syntect_base.Trees.{Answer, not_read_on, opened}
use Rattle.syntect_assets.specs.syntect_base.declared.limits.Limits.{Limits}
use Rattle.syntect_assets.specs.syntect_grammar.declared.error.Error.{Error}
use Rattle.syntect_assets.specs.syntect_grammar.declared.error.Error.TheVariants as error
use Rattle.syntect_assets.specs.Assets.{ShowsIn, ShowsText, language_named}
use Rattle.syntect_assets.specs.Refusals.{RefusesReading, TellsFile}
use Rattle.syntect_assets.specs.declared.assets.Assets.{Assets}
use Rattle.syntect_assets.specs.declared.assets.Shown.{Shown}
use Rattle.syntect_assets.specs.declared.error.AssetsError.{AssetsError}
use Rattle.syntect_assets.specs.declared.error.AssetsError.TheVariants as refusal
use Rattle.syntect_assets.specs.declared.format.Format.{Format}
use Rattle.syntect_easy.specs.Built.{IsBuilt, IsSyntaxOfBuilt}
use Rattle.syntect_easy.specs.Files.{FaultsAre, HasNoLines, HasNoLinesWithin, IsFileFault, IsLineFault}
use Rattle.syntect_easy.specs.Within.{IsNoReadFault}
use Rattle.syntect_easy.proofs.FileLaws.{fault_within, line_fault_kept}
use Rattle.syntect_easy.proofs.LoadedSetLaws.{finds_own}

-- a syntax that is found in a set which was built is one of it
pub built_of : (set : SyntaxSet) (definitions : List SyntaxDefinition) (token : List ℕ) (syntax : SyntaxReference) → IsBuilt set definitions → found_by_token set token ≡ Some syntax → IsSyntaxOfBuilt set syntax definitions
built_of set definitions token syntax b e =
    let own = finds_own.token set token syntax (sym e) in
    record { links = b.links; place = own.0; among = own.1; plain = b.plain }

-- what is shown in a syntax is shown in the language of its name
pub shows_named : (result : Result Shown AssetsError) (assets : Assets) (text name : List ℕ) (theme : Theme) (format : Format) (syntax : SyntaxReference) → language_named assets name ≡ Some syntax
    → IfOk result (ShowsIn assets text syntax theme format) → IfOk result (ShowsText assets text name theme format)
shows_named (Ok shown) assets text name theme format syntax named h = record { syntax = syntax; named = named; shows = h }
shows_named (Err e) assets text name theme format syntax named h = h

-- ---- refusals of files ----

-- without faults of the file
no_faults_in : (Faults : IoError → Type 0) (set : SyntaxSet) (path : List ℕ) (e : Error) → IsNoReadFault e → HasNoLines Faults set path e → HasNoLines (λ _. ⊥) set path e
no_faults_in Faults set path (error.ParsingError e) n h = h
no_faults_in Faults set path error.Memory n h = h
no_faults_in Faults set path (error.ScopeError e) n h = h
no_faults_in Faults set path (error.Fmt e) n h = h
no_faults_in Faults set path (error.Io e) n h = absurd n
no_faults_in Faults set path (error.LoadingError e) n h = h
no_faults_in Faults set path error.NoSyntax n h = h
no_faults_in Faults set path (error.ParseSyntax e) n h = h
no_faults_in Faults set path (error.ParseScope e) n h = h
no_faults_in Faults set path (error.Pattern e) n h = h

no_faults_within : (Faults : IoError → Type 0) (limits : Limits) (set : SyntaxSet) (path : List ℕ) (e : Error) → IsNoReadFault e → HasNoLinesWithin Faults limits set path e → HasNoLinesWithin (λ _. ⊥) limits set path e
no_faults_within Faults limits set path e n (inl h) = inl (no_faults_in Faults set path e n h)
no_faults_within Faults limits set path e n (inr h) = inr h

module _ (Told : Answer → Type 0) (limits : Limits) (set : SyntaxSet) (path : List ℕ) where
  -- the file wasn't opened, or not read to find its syntax
  pub file_refused : (e : Error) (r : AssetsError) → TellsFile e r → HasNoLinesWithin (IsFileFault Told path) limits set path e → RefusesReading Told limits set path r
  file_refused e (refusal.NotRead told) t h = (t.0, inl (fault_within (IsFileFault Told path) limits set path t.0 e t.1 h))
  file_refused e (refusal.NotShown x) t h = inl (subst (HasNoLinesWithin (λ _. ⊥) limits set path) t.0 (no_faults_within (IsFileFault Told path) limits set path e t.1 h))
  file_refused e refusal.Memory t h = tt
  file_refused e (refusal.NotLoaded x) t h = absurd t
  file_refused e (refusal.UnknownLanguage x y) t h = absurd t
  file_refused e (refusal.UnknownTheme x y) t h = absurd t

  -- it was opened, and not shown then
  pub file_left_off : (left seen : Option (List ℕ)) → Keeps left seen → Told (opened path left) → (e : Error) (r : AssetsError) → TellsFile e r → FaultsAre (IsLineFault (λ e. Told (not_read_on path e)) seen) e → RefusesReading Told limits set path r
  file_left_off left seen k told e (refusal.NotRead x) t f = (t.0, inr (left, told, line_fault_kept (λ e. Told (not_read_on path e)) left seen k t.0 (subst (FaultsAre (IsLineFault (λ e. Told (not_read_on path e)) seen)) t.1 f)))
  file_left_off left seen k told e (refusal.NotShown x) t f = inr (left, told)
  file_left_off left seen k told e refusal.Memory t f = tt
  file_left_off left seen k told e (refusal.NotLoaded x) t f = absurd t
  file_left_off left seen k told e (refusal.UnknownLanguage x y) t f = absurd t
  file_left_off left seen k told e (refusal.UnknownTheme x y) t f = absurd t
