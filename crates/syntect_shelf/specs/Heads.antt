-- The head of a grammar: what finders ask for. `Told` is what calls on the tree told.
use Rattle.std.specs.Prelude.{◌≡◌, ◌≢◌, ℕ, ◌+◌, ◌==◌, ◌||◌, ◌<◌, true, Bool, List, [], ◌∷◌, codes, drop, take, length, slice_index, Option, Some, None, IsUtf8, Ok, String, string_bytes}
use Rattle.std.specs.Global.{Global}
use Rattle.std.specs.IoError.{error_kind}
use Rattle.std.specs.Path.{path_file_stem}
use Rattle.std.specs.declared.io.Error.{Error}
use Rattle.std.specs.declared.io.ErrorKind.TheVariants.{InvalidData, OutOfMemory}
use Rattle.memchr.specs.Find.{OccursAt}
use Rattle.syntect_grammar.specs.syntect_scope.Repository.{scope_in}
use Rattle.syntect_grammar_limits.specs.FilesWithin.{room_after}
use Rattle.syntect_grammar_limits.specs.declared.folder_error.FolderWithinError.{FolderWithinError}
use Rattle.syntect_grammar_limits.specs.declared.folder_error.FolderWithinError.TheVariants.{Refused, LimitReached}
use Rattle.syntect_grammar_limits.specs.syntect_base.Trees.{Answer, has_bytes, not_read as unread}
use Rattle.syntect_grammar_limits.specs.syntect_base.declared.limits.LimitReached.TheVariants.{Folder}
use Rattle.syntect_grammar_limits.specs.syntect_base.declared.loading.LoadingError.TheVariants.{Io, ParseSyntax, Memory}
use Rattle.syntect_grammar_limits.specs.syntect_base.declared.syntax.ParseSyntaxError.{ParseSyntaxError}
use Rattle.syntect_grammar_limits.specs.syntect_base.declared.syntax.ParseSyntaxError.TheVariants as error
use Rattle.syntect_grammar_limits.specs.syntect_grammar_loader.Loading.{defined, scope_text_at}
use Rattle.syntect_grammar_limits.specs.syntect_grammar_loader.declared.definition.SyntaxDefinition.{SyntaxDefinition}
use Rattle.syntect_yaml.specs.Node.{Node}
use Rattle.syntect_yaml.specs.Yaml.{yaml_of}

-- ---- values ----

-- the definition is the head of a value: that of its name, its extensions, its first line and the
-- scope of its text in this repository, without variables and contexts
pub record IsHeadOf (v : Node) (fallback : Option (List ℕ)) (repository : List (List ℕ))
    (d : SyntaxDefinition) : Type 0 where
  pub text : List ℕ
  pub scope_text : scope_text_at v ≡ Ok text
  pub is : d ≡ defined v [] fallback (scope_in repository text) []

-- ---- texts ----

-- a line that begins so has no key in its first column: it is blank, a comment, or deeper
abbrev pub is_deep : List ℕ → Bool
is_deep [] = true
is_deep (b ∷ bs) = b == 32 || b == 35 || b == 13 || b == 10

-- each line of a text but the first is so
abbrev pub StaysDeep : List ℕ → Type 0
StaysDeep text = (k : ℕ) → k < length text → slice_index text k ≡ 10
    → is_deep (drop (k + 1) text) ≡ true

-- this stands before a line that begins with `contexts:`, and no later line has a key in its first
-- column
pub record IsFront (text front : List ℕ) : Type 0 where
  pub place : ℕ
  pub front_is : front ≡ take place text
  pub contexts : OccursAt text (codes "\ncontexts:") place
  pub deep : StaysDeep (drop 1 (drop place text))

-- the head of the value of a front of the text, or of the whole text
pub data IsHeadIn (text : List ℕ) (fallback : Option (List ℕ)) (repository : List (List ℕ))
    (d : SyntaxDefinition) : Type 0 where
  in_front : {front : List ℕ} {v : Node} → IsFront text front → yaml_of front ≡ Some (Some v)
      → IsHeadOf v fallback repository d → IsHeadIn text fallback repository d
  in_whole : {v : Node} → IsUtf8 text → yaml_of text ≡ Some (Some v)
      → IsHeadOf v fallback repository d → IsHeadIn text fallback repository d

-- ---- files ----

-- the head of the bytes that were read of a file, which counts with those of its folder: the room
-- that they leave of this one
pub record IsHeadRead (Told : Answer → Type 0) (path : List ℕ) (room : ℕ)
    (repository : List (List ℕ)) (left : ℕ) (d : SyntaxDefinition) : Type 0 where
  pub bytes : List ℕ
  pub told : Told (has_bytes path bytes)
  pub counted : room_after room (length bytes) ≡ Some left
  pub head : IsHeadIn bytes (path_file_stem path) repository d

-- the refusal of a file of this path with which the grammars of its folder would have too many
-- bytes; or there was no memory
pub data IsPastFolder (path : List ℕ) : FolderWithinError → Type 0 where
  past : {shown : String Global} → string_bytes shown ≡ path
      → IsPastFolder path (LimitReached Folder shown)
  no_room : IsPastFolder path (Refused Memory)

-- why the bytes of a file of this path give no head: they are no text, of which a fault of this kind
-- tells; or their head is refused, with the path; or there was no memory
pub data RefusesBytes (path bytes : List ℕ) : FolderWithinError → Type 0 where
  no_text : {e : Error} → ¬ (IsUtf8 bytes) → error_kind e ≡ InvalidData
      → RefusesBytes path bytes (Refused (Io e))
  no_head : {e : ParseSyntaxError} {shown : String Global} → e ≢ error.Memory
      → string_bytes shown ≡ path → RefusesBytes path bytes (Refused (ParseSyntax e shown))
  no_memory : RefusesBytes path bytes (Refused Memory)

-- Why a file gives no head, where the grammars of its folder may have so many bytes more: it was not
-- read, for a fault that is not that memory ran out; or it has more bytes than those; or the bytes
-- that were read give none; or there was no memory.
pub data RefusesHead (Told : Answer → Type 0) (path : List ℕ) (room : ℕ) : FolderWithinError
    → Type 0 where
  not_read : {e : Error} → Told (unread path e) → error_kind e ≢ OutOfMemory
      → RefusesHead Told path room (Refused (Io e))
  past_folder : {bytes : List ℕ} {e : FolderWithinError} → Told (has_bytes path bytes)
      → room_after room (length bytes) ≡ None → IsPastFolder path e
      → RefusesHead Told path room e
  of_bytes : {bytes : List ℕ} {left : ℕ} {e : FolderWithinError} → Told (has_bytes path bytes)
      → room_after room (length bytes) ≡ Some left → RefusesBytes path bytes e
      → RefusesHead Told path room e
  no_memory_here : RefusesHead Told path room (Refused Memory)
