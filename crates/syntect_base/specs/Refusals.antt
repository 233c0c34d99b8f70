-- How refusals and faults are passed on: lack of memory stays lack of memory.
use Rattle.std.specs.Prelude.{◌≡◌, ◌≢◌}
use Rattle.std.specs.IoError.{error_kind}
use Rattle.std.specs.declared.io.Error.{Error}
use Rattle.std.specs.declared.io.ErrorKind.TheVariants.{OutOfMemory}
use Rattle.serde_json.specs.Errors.{IsMemory}
use Rattle.serde_json.specs.declared.error.Error.{Error as JsonError}
use Rattle.syntect_scope.specs.declared.repository.ParseScopeError.{ParseScopeError}
use Rattle.syntect_scope.specs.declared.repository.ParseScopeError.TheVariants as scope
use Rattle.syntect_base.specs.declared.theme.ParseThemeError.{ParseThemeError}
use Rattle.syntect_base.specs.declared.theme.ParseThemeError.TheVariants as theme
use Rattle.syntect_base.specs.declared.loading.SettingsError.{SettingsError}
use Rattle.syntect_base.specs.declared.loading.SettingsError.TheVariants as settings
use Rattle.syntect_base.specs.declared.loading.LoadingError.{LoadingError}
use Rattle.syntect_base.specs.declared.loading.LoadingError.TheVariants.{Io, ParseMetadata, ParseTheme, ReadSettings, Memory}

-- a fault of reading, as a refusal to load
pub record IsReadFault (e : Error) (refusal : LoadingError) : Type 0 where
  pub memory : error_kind e ≡ OutOfMemory → refusal ≡ Memory
  pub fault : error_kind e ≢ OutOfMemory → refusal ≡ Io e
  pub either : refusal ≢ Memory → refusal ≡ Io e

-- a refusal of scopes, as one of a theme
abbrev pub from_scopes : ParseScopeError → ParseThemeError
from_scopes scope.Memory = theme.Memory
from_scopes scope.TooLong = theme.ScopeParse scope.TooLong
from_scopes scope.TooManyAtoms = theme.ScopeParse scope.TooManyAtoms

-- a refusal of a theme, as a refusal to load it
abbrev pub from_theme : ParseThemeError → LoadingError
from_theme theme.Memory = Memory
from_theme theme.IncorrectUnderlineOption = ParseTheme theme.IncorrectUnderlineOption
from_theme (theme.IncorrectFontStyle shown) = ParseTheme (theme.IncorrectFontStyle shown)
from_theme theme.IncorrectColor = ParseTheme theme.IncorrectColor
from_theme theme.IncorrectSyntax = ParseTheme theme.IncorrectSyntax
from_theme theme.IncorrectSettings = ParseTheme theme.IncorrectSettings
from_theme theme.UndefinedSettings = ParseTheme theme.UndefinedSettings
from_theme (theme.UndefinedScopeSettings name) = ParseTheme (theme.UndefinedScopeSettings name)
from_theme theme.ColorShemeScopeIsNotObject = ParseTheme theme.ColorShemeScopeIsNotObject
from_theme theme.ColorShemeSettingsIsNotObject = ParseTheme theme.ColorShemeSettingsIsNotObject
from_theme (theme.ScopeSelectorIsNotString shown) =
    ParseTheme (theme.ScopeSelectorIsNotString shown)
from_theme theme.DuplicateSettings = ParseTheme theme.DuplicateSettings
from_theme (theme.ScopeParse e) = ParseTheme (theme.ScopeParse e)

-- a value that was not read, as a refusal to load it
abbrev pub from_settings : SettingsError → LoadingError
from_settings settings.Memory = Memory
from_settings settings.Json = ReadSettings settings.Json

-- a fault of JSON, as a refusal to load metadata
pub record IsMetadataFault (e : JsonError) (refusal : LoadingError) : Type 0 where
  pub memory : IsMemory e → refusal ≡ Memory
  pub fault : ¬ (IsMemory e) → refusal ≡ ParseMetadata
