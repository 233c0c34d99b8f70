-- What a tree of files and folders answers where it is asked.
use Rattle.std.specs.Prelude.{◌≡◌, ℕ, List, IsUtf8, Option}
use Rattle.std.specs.IoError.{error_kind}
use Rattle.std.specs.declared.io.Error.{Error}
use Rattle.std.specs.declared.io.ErrorKind.TheVariants.{InvalidData}
use Rattle.syntect_base.specs.declared.tree.Kind.{Kind}

-- An answer of a tree: what was asked, of which path, and what it told.
pub data Answer : Type 0 where
  -- the file at the path was read whole, and has these bytes
  has_bytes : List ℕ → List ℕ → Answer
  -- it was not read whole, for this fault
  not_read : List ℕ → Error → Answer
  -- the file at the path was opened, and begins with this line, with its line feed if it has one
  begins : List ℕ → List ℕ → Answer
  -- its first line was not read, for this fault
  not_begun : List ℕ → Error → Answer
  -- the file at the path was opened, and has these bytes ahead, where they are known
  opened : List ℕ → Option (List ℕ) → Answer
  -- it was not opened, for this fault
  not_opened : List ℕ → Error → Answer
  -- it was opened, and then not read further, for this fault
  not_read_on : List ℕ → Error → Answer
  -- the folder at the path was listed as these bytes: its names, and a NUL after each
  listed : List ℕ → List ℕ → Answer
  -- it was not listed, for this fault
  not_listed : List ℕ → Error → Answer
  -- this stands at the path
  stands : List ℕ → Kind → Answer
  -- what stands there was not told, for this fault
  not_told : List ℕ → Error → Answer
  -- the file at the path was written, and these are its bytes
  written : List ℕ → List ℕ → Answer
  -- it was not written whole, for this fault
  not_written : List ℕ → Error → Answer

-- Why a file gives no text: it was not read, for this fault; or the bytes that were read are not
-- UTF-8, of which a fault of this kind tells.
pub data RefusesText (Told : Answer → Type 0) (path : List ℕ) : Error → Type 0 where
  unread : {e : Error} → Told (not_read path e) → RefusesText Told path e
  no_text : {bytes : List ℕ} {e : Error} → Told (has_bytes path bytes) → ¬ (IsUtf8 bytes)
      → error_kind e ≡ InvalidData → RefusesText Told path e

-- Why a file gives no first line: it was not read, for this fault; or what was read is not UTF-8, of
-- which a fault of this kind tells.
pub data RefusesLine (Told : Answer → Type 0) (path : List ℕ) : Error → Type 0 where
  line_not_read : {e : Error} → Told (not_begun path e) → RefusesLine Told path e
  line_no_text : {line : List ℕ} {e : Error} → Told (begins path line) → ¬ (IsUtf8 line)
      → error_kind e ≡ InvalidData → RefusesLine Told path e
