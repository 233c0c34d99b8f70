-- How refusals to load are told: the words for people say which, and lack of memory is told as such.
use Rattle.std.specs.Prelude.{◌≡◌, ◌≢◌, ◌⊎◌, ℕ, List, Option}
use Rattle.std.specs.declared.io.Error.{Error as IoError}
use Rattle.syntect_assets.specs.syntect_base.Trees.{Answer, opened}
use Rattle.syntect_assets.specs.syntect_base.declared.limits.Limits.{Limits}
use Rattle.syntect_assets.specs.syntect_base.declared.loading.LoadingError.{LoadingError}
use Rattle.syntect_assets.specs.syntect_base.declared.loading.LoadingError.TheVariants.{Memory}
use Rattle.syntect_assets.specs.syntect_easy.Files.{HasNoLinesWithin, IsTextFault}
use Rattle.syntect_assets.specs.syntect_easy.Within.{IsNoReadFault}
use Rattle.syntect_assets.specs.syntect_grammar.declared.error.Error.{Error}
use Rattle.syntect_assets.specs.syntect_grammar.declared.syntax_set.SyntaxSet.{SyntaxSet}
use Rattle.syntect_assets.specs.syntect_grammar.declared.error.Error.TheVariants as error
use Rattle.syntect_assets.specs.syntect_grammar_limits.declared.folder_error.FolderWithinError.{FolderWithinError}
use Rattle.syntect_assets.specs.syntect_grammar_limits.declared.folder_error.FolderWithinError.TheVariants.{Refused}
use Rattle.syntect_assets.specs.syntect_theme_files.ThemeFiles.{IsThemeFault}
use Rattle.syntect_assets.specs.declared.error.AssetsError.{AssetsError}
use Rattle.syntect_assets.specs.declared.error.AssetsError.TheVariants as refusal

-- a refusal of what stands at a path is told
abbrev pub TellsLoading : LoadingError → AssetsError → Type 0
TellsLoading e (refusal.NotLoaded told) = e ≢ Memory
TellsLoading e refusal.Memory = Unit {0}
TellsLoading e r = ⊥

-- a refusal of the grammars of a folder is told
abbrev pub TellsGrammars : FolderWithinError → AssetsError → Type 0
TellsGrammars e (refusal.NotLoaded told) = e ≢ Refused Memory
TellsGrammars e refusal.Memory = Unit {0}
TellsGrammars e r = ⊥

-- the file at the path gives no theme, and that is told
abbrev pub RefusesThemeIn : (Told : Answer → Type 0) → List ℕ → AssetsError → Type 0
RefusesThemeIn Told path r =
    (e : LoadingError) × IsThemeFault Told path e × TellsLoading e r

-- A file isn't shown, and that is told: it isn't read, for a fault of it; or no syntax fits it, or the
-- one that fits has no `__start`; or it was opened, and then a line was refused, which one isn't told;
-- or memory ran out.
abbrev pub RefusesReading : (Told : Answer → Type 0) → Limits → SyntaxSet → List ℕ → AssetsError
    → Type 0
RefusesReading Told limits set path (refusal.NotRead told) =
    (e : IoError) × IsTextFault Told path e
RefusesReading Told limits set path (refusal.NotShown e) =
    HasNoLinesWithin (λ _. ⊥) limits set path e
    ⊎ ((left : Option (List ℕ)) × Told (opened path left))
RefusesReading Told limits set path refusal.Memory = Unit {0}
RefusesReading Told limits set path r = ⊥

-- a refusal to show a file is told: a fault of the file, with its path
abbrev pub TellsFile : Error → AssetsError → Type 0
TellsFile e (refusal.NotRead told) = (fault : IoError) × (e ≡ error.Io fault)
TellsFile e (refusal.NotShown why) = (e ≡ why) × IsNoReadFault e
TellsFile e refusal.Memory = e ≡ error.Memory
TellsFile e r = ⊥
