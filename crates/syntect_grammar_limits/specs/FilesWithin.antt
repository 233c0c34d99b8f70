-- Definitions from files, within limits.
use Rattle.std.specs.Prelude.{◌≡◌, ◌≢◌, ℕ, ◌-◌, ◌^◌, ◌==◌, nat_le, if◌then◌else◌, Bool, List, length, Option, Some, None, IsUtf8, Ok, Err, String, string_bytes}
use Rattle.std.specs.Global.{Global}
use Rattle.std.specs.IoError.{error_kind}
use Rattle.std.specs.declared.io.Error.{Error}
use Rattle.std.specs.declared.io.ErrorKind.TheVariants.{OutOfMemory}
use Rattle.syntect_grammar_limits.specs.syntect_base.Trees.{Answer, has_bytes, RefusesText}
use Rattle.syntect_grammar_limits.specs.syntect_base.declared.limits.Limits.{Limits}
use Rattle.syntect_grammar_limits.specs.syntect_base.declared.limits.LimitReached.{LimitReached as AReached}
use Rattle.syntect_grammar_limits.specs.syntect_base.declared.limits.LimitReached.TheVariants.{Folder}
use Rattle.syntect_grammar_limits.specs.syntect_base.declared.loading.LoadingError.{LoadingError}
use Rattle.syntect_grammar_limits.specs.syntect_base.declared.loading.LoadingError.TheVariants.{Io, Memory}
use Rattle.syntect_grammar_limits.specs.syntect_grammar_loader.Files.{IsSyntaxOf, RefusesSyntax}
use Rattle.syntect_grammar_limits.specs.syntect_grammar_loader.declared.definition.SyntaxDefinition.{SyntaxDefinition}
use Rattle.syntect_grammar_limits.specs.Limited.{left_of}
use Rattle.syntect_grammar_limits.specs.declared.folder_error.FolderWithinError.{FolderWithinError}
use Rattle.syntect_grammar_limits.specs.declared.folder_error.FolderWithinError.TheVariants.{Refused, LimitReached}

-- how many bytes more the grammars of a folder may have after one of n bytes, if they may have
-- those; nothing is counted where they may have any number
abbrev pub room_after : ℕ → ℕ → Option ℕ
room_after room n =
    if room == 2 ^ 64 - 1 then Some room
    else if nat_le n room then Some (room - n)
    else None

-- the definition of the bytes of a file of this path, as without limits;
-- and the bytes keep within them
pub record IsSyntaxWithin (limits : Limits) (newlines : Bool) (path : List ℕ)
    (old : List (List ℕ)) (bytes : List ℕ) (new : List (List ℕ)) (d : SyntaxDefinition)
    : Type 0 where
  pub syntax : IsSyntaxOf newlines path old bytes new d
  pub left : ℕ
  pub within : left_of limits bytes ≡ Ok left

-- Why the bytes of a file of this path give no definition within limits: they keep within them and
-- are refused as without them; or they pass the limit that is reported with the path; or there was
-- no memory.
pub data RefusesSyntaxWithin (limits : Limits) (newlines : Bool) (path bytes : List ℕ)
    (repo : List (List ℕ)) : FolderWithinError → Type 0 where
  no_grammar : {left : ℕ} {e : LoadingError} → left_of limits bytes ≡ Ok left
      → RefusesSyntax newlines path bytes repo e
      → RefusesSyntaxWithin limits newlines path bytes repo (Refused e)
  too_much : {r : AReached} {shown : String Global} → IsUtf8 bytes
      → left_of limits bytes ≡ Err r → string_bytes shown ≡ path
      → RefusesSyntaxWithin limits newlines path bytes repo (LimitReached r shown)
  no_memory : RefusesSyntaxWithin limits newlines path bytes repo (Refused Memory)

-- Why the bytes of a file of this path give no definition within limits, where the grammars of its
-- folder may have so many bytes more: they are more than those; or they give none; or there was no
-- memory.
pub data RefusesCounted (limits : Limits) (newlines : Bool) (path bytes : List ℕ)
    (repo : List (List ℕ)) (room : ℕ) : FolderWithinError → Type 0 where
  past_folder : {shown : String Global} → IsUtf8 bytes
      → room_after room (length bytes) ≡ None → string_bytes shown ≡ path
      → RefusesCounted limits newlines path bytes repo room (LimitReached Folder shown)
  refused : {left : ℕ} {e : FolderWithinError} → room_after room (length bytes) ≡ Some left
      → RefusesSyntaxWithin limits newlines path bytes repo e
      → RefusesCounted limits newlines path bytes repo room e
  no_room : RefusesCounted limits newlines path bytes repo room (Refused Memory)

-- the definition of the bytes that were read of a file, within limits, and the room that they leave
-- of this one
abbrev pub IsReadWithin : (Told : Answer → Type 0) → Limits → Bool → List ℕ → List (List ℕ) → ℕ
    → List (List ℕ) → ℕ → SyntaxDefinition → Type 0
IsReadWithin Told limits newlines path old room new left d =
    (bytes : List ℕ)
    × Told (has_bytes path bytes)
    × (room_after room (length bytes) ≡ Some left)
    × IsSyntaxWithin limits newlines path old bytes new d

-- Why a file gives no definition within limits, where the grammars of its folder may have so many
-- bytes more, by what calls on its tree told: it gives no text, for a fault that is not that memory
-- ran out; or the bytes that were read give none; or there was no memory.
pub data RefusesReadWithin (Told : Answer → Type 0) (limits : Limits) (newlines : Bool)
    (path : List ℕ) (repo : List (List ℕ)) (room : ℕ) : FolderWithinError → Type 0 where
  not_read : {e : Error} → RefusesText Told path e → error_kind e ≢ OutOfMemory
      → RefusesReadWithin Told limits newlines path repo room (Refused (Io e))
  of_bytes : {bytes : List ℕ} {e : FolderWithinError} → Told (has_bytes path bytes)
      → RefusesCounted limits newlines path bytes repo room e
      → RefusesReadWithin Told limits newlines path repo room e
  no_memory_here : RefusesReadWithin Told limits newlines path repo room (Refused Memory)
