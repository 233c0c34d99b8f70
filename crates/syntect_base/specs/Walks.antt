-- The files of a folder, in the order of a walk, as a tree tells them. `Told` is what calls on the
-- tree told.
use Rattle.std.specs.Prelude.{◌≡◌, ◌≢◌, ℕ, ◌+◌, ◌-◌, ◌^◌, ◌<◌, List, [], ◌∷◌, ◌++◌, map, length, IsSorted, IsPermutation}
use Rattle.std.specs.Cmp.Lexicographic.{slice_cmp}
use Rattle.std.specs.IoError.{error_kind}
use Rattle.std.specs.Ordering.{nat_cmp}
use Rattle.std.specs.declared.io.Error.{Error}
use Rattle.std.specs.declared.io.ErrorKind.TheVariants.{OutOfMemory}
use Rattle.syntect_base.specs.Ahead.{Ahead}
use Rattle.syntect_base.specs.Names.{entries_in, lost_in}
use Rattle.syntect_base.specs.Trees.{Answer, listed, not_listed, stands, not_told}
use Rattle.syntect_base.specs.declared.loading.LoadingError.{LoadingError}
use Rattle.syntect_base.specs.declared.loading.LoadingError.TheVariants.{WalkDir, Memory}
use Rattle.syntect_base.specs.declared.tree.Kind.{Kind}
use Rattle.syntect_base.specs.declared.tree.Kind.TheVariants.{File, Folder, Other}
use Rattle.syntect_base.specs.declared.utils.Sought.{Sought}

-- ---- folders ----

-- the path of a name in a folder
abbrev pub joined : List ℕ → List ℕ → List ℕ
joined folder name = folder ++ 47 ∷ name

-- the names stand in byte order
abbrev pub InByteOrder : List (List ℕ) → Type 0
InByteOrder names = IsSorted (slice_cmp nat_cmp) names

-- The folder was listed, and its entries have these names, in byte order. Names that are no text are
-- passed over, and none of them may be that of a file that is looked for.
pub record Lists (Told : Answer → Type 0) (sought : Sought) (folder : List ℕ)
    (names : List (List ℕ)) : Type 0 where
  pub bytes : List ℕ
  pub told : Told (listed folder bytes)
  pub entries : IsPermutation (entries_in bytes) names
  pub order : InByteOrder names
  pub none_lost : lost_in sought bytes ≡ []

-- Why a folder's entries have no names: it was not listed, for a fault that is not that memory ran
-- out; or a name in it that is no text may be that of a file that is looked for.
pub data Unlisted (Told : Answer → Type 0) (sought : Sought) (folder : List ℕ) : Type 0 where
  refused : {e : Error} → Told (not_listed folder e) → error_kind e ≢ OutOfMemory
      → Unlisted Told sought folder
  one_lost : {bytes : List ℕ} → Told (listed folder bytes) → lost_in sought bytes ≢ []
      → Unlisted Told sought folder

-- ---- walks ----

-- an entry that was looked at: its path, and what stands there
abbrev pub Entry : Type 0
Entry = List ℕ × Kind

-- the files among entries, by their paths
abbrev pub files_of : List Entry → List (List ℕ)
files_of [] = []
files_of ((path, File) ∷ looked) = path ∷ files_of looked
files_of ((path, Folder) ∷ looked) = files_of looked
files_of ((path, Other) ∷ looked) = files_of looked

-- how far a walk went: all was visited, or it was left before that, or a fault broke it off
pub data End : Type 0 where
  whole : End
  left_off : End
  broken : End

-- The paths, visited in order, each looked at once, show these entries, in this order, up to this
-- end: after a folder come the entries in it, by its names in byte order.
pub data Visits (Told : Answer → Type 0) (sought : Sought) : List (List ℕ) → List Entry → End
    → Type 0 where
  none_ahead : Visits Told sought [] [] whole
  leaves_off : {ahead : List (List ℕ)} → Visits Told sought ahead [] left_off
  passes_over : {path : List ℕ} {ahead : List (List ℕ)} {looked : List Entry} {end : End}
      → Told (stands path Other) → Visits Told sought ahead looked end
      → Visits Told sought (path ∷ ahead) ((path, Other) ∷ looked) end
  takes : {path : List ℕ} {ahead : List (List ℕ)} {looked : List Entry} {end : End}
      → Told (stands path File) → Visits Told sought ahead looked end
      → Visits Told sought (path ∷ ahead) ((path, File) ∷ looked) end
  enters : {path : List ℕ} {names ahead : List (List ℕ)} {inner looked : List Entry} {end : End}
      → Told (stands path Folder) → Lists Told sought path names
      → Visits Told sought (map (joined path) names) inner whole
      → Visits Told sought ahead looked end
      → Visits Told sought (path ∷ ahead) ((path, Folder) ∷ (inner ++ looked)) end
  ends_inside : {path : List ℕ} {names ahead : List (List ℕ)} {inner : List Entry} {end : End}
      → Told (stands path Folder) → Lists Told sought path names
      → Visits Told sought (map (joined path) names) inner end → end ≢ whole
      → Visits Told sought (path ∷ ahead) ((path, Folder) ∷ inner) end
  breaks_at : {path : List ℕ} {ahead : List (List ℕ)} {e : Error}
      → Told (not_told path e) → error_kind e ≢ OutOfMemory
      → Visits Told sought (path ∷ ahead) [] broken
  breaks_in : {path : List ℕ} {ahead : List (List ℕ)}
      → Told (stands path Folder) → Unlisted Told sought path
      → Visits Told sought (path ∷ ahead) ((path, Folder) ∷ []) broken

-- the walk of a folder shows these entries, in this order, up to this end
pub record Walks (Told : Answer → Type 0) (sought : Sought) (folder : List ℕ)
    (looked : List Entry) (end : End) : Type 0 where
  pub names : List (List ℕ)
  pub lists : Lists Told sought folder names
  pub visits : Visits Told sought (map (joined folder) names) looked end

-- these are the files of a folder, in the order of a walk
pub record IsWalk (Told : Answer → Type 0) (sought : Sought) (folder : List ℕ)
    (files : List (List ℕ)) : Type 0 where
  pub looked : List Entry
  pub walks : Walks Told sought folder looked whole
  pub same : files_of looked ≡ files

-- these are the first files of a folder, in the order of a walk that was left there
pub record BeginsWalk (Told : Answer → Type 0) (sought : Sought) (folder : List ℕ)
    (files : List (List ℕ)) : Type 0 where
  pub looked : List Entry
  pub walks : Walks Told sought folder looked left_off
  pub same : files_of looked ≡ files

-- Why a walk was refused, and the files before that: there was no memory; the folder itself has no
-- names; a fault broke it off; or 2^64 - 1 entries were looked at.
pub data RefusesWalk (Told : Answer → Type 0) (sought : Sought) (folder : List ℕ)
    : List (List ℕ) → LoadingError → Type 0 where
  no_memory_yet : RefusesWalk Told sought folder [] Memory
  no_memory : {files : List (List ℕ)} → BeginsWalk Told sought folder files
      → RefusesWalk Told sought folder files Memory
  no_names : Unlisted Told sought folder → RefusesWalk Told sought folder [] WalkDir
  at_fault : {looked : List Entry} {files : List (List ℕ)}
      → Walks Told sought folder looked broken → files_of looked ≡ files
      → RefusesWalk Told sought folder files WalkDir
  too_many : {looked : List Entry} {files : List (List ℕ)}
      → Walks Told sought folder looked left_off → length looked ≡ 2 ^ 64 - 1
      → files_of looked ≡ files → RefusesWalk Told sought folder files WalkDir

-- ---- a file after another ----

-- what was ahead shows no file but this one, last, and then what what is ahead now shows
pub record GivesFile (Told : Answer → Type 0) (before after : Ahead) (path : List ℕ)
    : Type 0 where
  pub seen : List Entry
  pub no_file : files_of seen ≡ []
  pub first : (rest : List Entry) (end : End) → Visits Told before.sought after.paths rest end
      → Visits Told before.sought before.paths (seen ++ (path, File) ∷ rest) end
  pub kept : after.sought ≡ before.sought
  pub counted : after.left + (length seen + 1) ≡ before.left
  pub fewer : after.left < before.left

-- what was ahead shows no file
pub record GivesNone (Told : Answer → Type 0) (before : Ahead) : Type 0 where
  pub seen : List Entry
  pub no_file : files_of seen ≡ []
  pub all : Visits Told before.sought before.paths seen whole

-- why what was ahead gives no file: there was no memory, or before the next file a fault broke the
-- walk off, or no more entries may be visited
pub data RefusesFile (Told : Answer → Type 0) (before : Ahead) : LoadingError → Type 0 where
  no_room : RefusesFile Told before Memory
  at_entry : {seen : List Entry} → files_of seen ≡ []
      → Visits Told before.sought before.paths seen broken → RefusesFile Told before WalkDir
  none_left : {seen : List Entry} → files_of seen ≡ []
      → Visits Told before.sought before.paths seen left_off → length seen ≡ before.left
      → RefusesFile Told before WalkDir

-- a folder's walk has found these files so far, and shows then what what is ahead shows
pub record IsWalkSoFar (Told : Answer → Type 0) (sought : Sought) (folder : List ℕ)
    (found : List (List ℕ)) (ahead : Ahead) : Type 0 where
  pub looked : List Entry
  pub files : files_of looked ≡ found
  pub goes_on : (rest : List Entry) (end : End) → Visits Told sought ahead.paths rest end
      → Walks Told sought folder (looked ++ rest) end
  pub same : ahead.sought ≡ sought
  pub counted : ahead.left + length looked ≡ 2 ^ 64 - 1

-- ---- For proofs and private functions alone ----

-- what a walk is refused with
abbrev pub IsWalkFault : LoadingError → Type 0
IsWalkFault e = e ≢ WalkDir → e ≡ Memory
