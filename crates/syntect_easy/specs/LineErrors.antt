-- Refusals of lines, beside the error of all calls.
use Rattle.syntect_easy.specs.syntect_grammar.declared.error.Error.{Error}
use Rattle.syntect_easy.specs.syntect_grammar.declared.error.Error.TheVariants as error
use Rattle.syntect_easy.specs.declared.reading.LinesError.{LinesError}
use Rattle.syntect_easy.specs.declared.reading.LinesError.TheVariants as lines

-- the same refusal of a call
abbrev pub error_of : LinesError → Error
error_of (lines.Io e) = error.Io e
error_of (lines.ParsingError e) = error.ParsingError e
error_of (lines.ScopeError e) = error.ScopeError e
error_of (lines.Fmt e) = error.Fmt e
error_of lines.Memory = error.Memory

-- the refusal of a call as one of lines, where those of loading never come
abbrev pub lines_error : Error → LinesError
lines_error (error.Io e) = lines.Io e
lines_error (error.ParsingError e) = lines.ParsingError e
lines_error (error.ScopeError e) = lines.ScopeError e
lines_error (error.Fmt e) = lines.Fmt e
lines_error e = lines.Memory
