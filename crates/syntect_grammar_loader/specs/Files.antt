-- Definitions from files.
use Rattle.std.specs.Prelude.{◌≡◌, ◌≢◌, ℕ, Bool, List, IsUtf8, Some, Ok, Err, String, string_bytes}
use Rattle.std.specs.Global.{Global}
use Rattle.std.specs.Path.{path_file_stem}
use Rattle.std.specs.IoError.{error_kind}
use Rattle.std.specs.declared.io.Error.{Error}
use Rattle.std.specs.declared.io.ErrorKind.TheVariants.{OutOfMemory}
use Rattle.syntect_base.specs.Trees.{Answer, has_bytes, RefusesText}
use Rattle.syntect_base.specs.declared.loading.LoadingError.{LoadingError}
use Rattle.syntect_base.specs.declared.loading.LoadingError.TheVariants.{Io, ParseSyntax, Memory}
use Rattle.syntect_base.specs.declared.syntax.ParseSyntaxError.{ParseSyntaxError}
use Rattle.syntect_grammar_loader.specs.Loading.{loaded}
use Rattle.syntect_grammar_loader.specs.LoadingSteps.{Refusal, refusal_of_error}
use Rattle.syntect_grammar_loader.specs.declared.definition.SyntaxDefinition.{SyntaxDefinition}

-- The definition of the bytes of a file of this path, read with a repository that becomes another
-- one. A syntax without a name has that of the file, without the extension.
pub record IsSyntaxOf (newlines : Bool) (path : List ℕ) (old : List (List ℕ)) (bytes : List ℕ)
    (new : List (List ℕ)) (d : SyntaxDefinition) : Type 0 where
  pub text : IsUtf8 bytes
  pub loads : loaded bytes newlines (path_file_stem path) old ≡ Ok (d, new)

-- why the bytes of a file of this path are no grammar's: for the reason that is reported with the
-- path; or there was no memory
pub data RefusesSyntax (newlines : Bool) (path bytes : List ℕ) (repo : List (List ℕ)) : LoadingError
    → Type 0 where
  no_grammar : {reason : Refusal} {e : ParseSyntaxError} {shown : String Global} → IsUtf8 bytes
      → loaded bytes newlines (path_file_stem path) repo ≡ Err reason → refusal_of_error e ≡ Some reason
      → string_bytes shown ≡ path
      → RefusesSyntax newlines path bytes repo (ParseSyntax e shown)
  no_memory : RefusesSyntax newlines path bytes repo Memory

-- Why a file gives no syntax, by what calls on its tree told: it gives no text, for a fault that is
-- not that memory ran out; or the bytes that were read are no grammar's; or there was no memory.
pub data RefusesRead (Told : Answer → Type 0) (newlines : Bool) (path : List ℕ)
    (repo : List (List ℕ)) : LoadingError → Type 0 where
  not_read : {e : Error} → RefusesText Told path e → error_kind e ≢ OutOfMemory
      → RefusesRead Told newlines path repo (Io e)
  refused : {bytes : List ℕ} {e : LoadingError} → Told (has_bytes path bytes)
      → RefusesSyntax newlines path bytes repo e → RefusesRead Told newlines path repo e
  no_room : RefusesRead Told newlines path repo Memory
