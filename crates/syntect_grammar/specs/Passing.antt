-- How refusals of the layers below are passed on.
use Rattle.syntect_grammar.specs.syntect_grammar_contexts.declared.error.ParsingError.{ParsingError}
use Rattle.syntect_grammar.specs.syntect_grammar_contexts.declared.error.ParsingError.TheVariants as parsing
use Rattle.syntect_grammar.specs.syntect_base.declared.loading.LoadingError.{LoadingError}
use Rattle.syntect_grammar.specs.syntect_base.declared.loading.LoadingError.TheVariants as loading
use Rattle.syntect_grammar.specs.syntect_scope.declared.stack.ScopeError.{ScopeError}
use Rattle.syntect_grammar.specs.syntect_scope.declared.stack.ScopeError.TheVariants as scope
use Rattle.syntect_grammar.specs.syntect_scope.declared.repository.ParseScopeError.{ParseScopeError}
use Rattle.syntect_grammar.specs.syntect_scope.declared.repository.ParseScopeError.TheVariants as scope_text
use Rattle.syntect_grammar.specs.syntect_base.declared.syntax.ParseSyntaxError.{ParseSyntaxError}
use Rattle.syntect_grammar.specs.syntect_base.declared.syntax.ParseSyntaxError.TheVariants as syntax
use Rattle.syntect_grammar.specs.syntect_base.declared.theme.ParseThemeError.{ParseThemeError}
use Rattle.syntect_grammar.specs.syntect_base.declared.loading.SettingsError.{SettingsError}
use Rattle.syntect_grammar.specs.syntect_base.Refusals.{from_theme, from_settings}
use Rattle.syntect_grammar.specs.syntect_pattern.declared.error.PatternError.{PatternError}
use Rattle.syntect_grammar.specs.syntect_pattern.declared.error.PatternError.TheVariants as pattern
use Rattle.std.specs.IoError.{error_kind}
use Rattle.std.specs.declared.io.Error.{Error as IoError}
use Rattle.std.specs.declared.io.ErrorKind.{ErrorKind}
use Rattle.std.specs.declared.io.ErrorKind.TheVariants.{OutOfMemory}
use Rattle.syntect_grammar.specs.declared.error.Error.{Error}
use Rattle.syntect_grammar.specs.declared.error.Error.TheVariants as error

abbrev pub from_loading : LoadingError → Error
from_loading loading.Memory = error.Memory
from_loading loading.WalkDir = error.LoadingError loading.WalkDir
from_loading (loading.Io e) = error.LoadingError (loading.Io e)
from_loading (loading.ParseSyntax e path) = error.LoadingError (loading.ParseSyntax e path)
from_loading loading.ParseMetadata = error.LoadingError loading.ParseMetadata
from_loading (loading.ParseTheme e) = error.LoadingError (loading.ParseTheme e)
from_loading (loading.ReadSettings e) = error.LoadingError (loading.ReadSettings e)
from_loading loading.BadPath = error.LoadingError loading.BadPath

abbrev pub from_parsing : ParsingError → Error
from_parsing parsing.Memory = error.Memory
from_parsing parsing.MissingMainContext = error.ParsingError parsing.MissingMainContext
from_parsing (parsing.MissingContext id) = error.ParsingError (parsing.MissingContext id)
from_parsing (parsing.BadMatchIndex i) = error.ParsingError (parsing.BadMatchIndex i)
from_parsing (parsing.UnresolvedContextReference r) =
    error.ParsingError (parsing.UnresolvedContextReference r)

abbrev pub from_scope : ScopeError → Error
from_scope scope.Memory = error.Memory
from_scope scope.NoClearedScopesToRestore = error.ScopeError scope.NoClearedScopesToRestore

-- a fault of a file or reader of this kind
abbrev pub from_kind : ErrorKind → IoError → Error
from_kind OutOfMemory e = error.Memory
from_kind kind e = error.Io e

abbrev pub from_io : IoError → Error
from_io e = from_kind (error_kind e) e

abbrev pub from_syntax : ParseSyntaxError → Error
from_syntax syntax.Memory = error.Memory
from_syntax syntax.InvalidYaml = error.ParseSyntax syntax.InvalidYaml
from_syntax syntax.EmptyFile = error.ParseSyntax syntax.EmptyFile
from_syntax (syntax.MissingMandatoryKey key) = error.ParseSyntax (syntax.MissingMandatoryKey key)
from_syntax (syntax.RegexCompileError text e) = error.ParseSyntax (syntax.RegexCompileError text e)
from_syntax (syntax.InvalidScope e) = error.ParseSyntax (syntax.InvalidScope e)
from_syntax syntax.BadFileRef = error.ParseSyntax syntax.BadFileRef
from_syntax syntax.MainMissing = error.ParseSyntax syntax.MainMissing
from_syntax syntax.TypeMismatch = error.ParseSyntax syntax.TypeMismatch

abbrev pub from_scope_text : ParseScopeError → Error
from_scope_text scope_text.Memory = error.Memory
from_scope_text scope_text.TooLong = error.ParseScope scope_text.TooLong
from_scope_text scope_text.TooManyAtoms = error.ParseScope scope_text.TooManyAtoms

abbrev pub from_pattern : PatternError → Error
from_pattern pattern.Memory = error.Memory
from_pattern pattern.NotAPattern = error.Pattern pattern.NotAPattern

-- a refusal of a theme's value, or of its bytes
abbrev pub from_theme_value : ParseThemeError → Error
from_theme_value e = from_loading (from_theme e)

abbrev pub from_settings_value : SettingsError → Error
from_settings_value e = from_loading (from_settings e)
