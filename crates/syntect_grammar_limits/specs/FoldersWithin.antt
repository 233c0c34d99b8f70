-- Grammars and metadata from the files of folders, within limits.
use Rattle.std.specs.Prelude.{◌≡◌, ℕ, Bool, true, false, List, [], ◌∷◌, ◌++◌}
use Rattle.syntect_grammar_limits.specs.syntect_base.Trees.{Answer}
use Rattle.syntect_grammar_limits.specs.syntect_base.Walks.{IsWalk, BeginsWalk, RefusesWalk}
use Rattle.syntect_grammar_limits.specs.syntect_base.declared.utils.Sought.TheVariants.{Grammars}
use Rattle.syntect_grammar_limits.specs.syntect_base.declared.limits.Limits.{Limits}
use Rattle.syntect_grammar_limits.specs.syntect_base.declared.loading.LoadingError.{LoadingError}
use Rattle.syntect_grammar_limits.specs.syntect_base.declared.loading.LoadingError.TheVariants.{Memory}
use Rattle.syntect_grammar.specs.Folders.{is_grammar_path, is_metadata_path, with_loaded, AddsMetadata, AddsFolder}
use Rattle.syntect_grammar.specs.declared.syntax_set.SyntaxSetBuilder.{SyntaxSetBuilder}
use Rattle.syntect_grammar_limits.specs.syntect_grammar_loader.declared.definition.SyntaxDefinition.{SyntaxDefinition}
use Rattle.syntect_grammar_limits.specs.FilesWithin.{IsReadWithin, RefusesReadWithin}
use Rattle.syntect_grammar_limits.specs.declared.folder_error.FolderWithinError.{FolderWithinError}
use Rattle.syntect_grammar_limits.specs.declared.folder_error.FolderWithinError.TheVariants.{Refused}

-- The grammars and the metadata among these files are added to a builder, one after another, each
-- grammar under its path and within limits. The first number is how many bytes all these grammars
-- may have together, and the last how many more they might have had.
pub data AddsWithin (Told : Answer → Type 0) (limits : Limits) (newlines : Bool) : ℕ
    → List (List ℕ) → List (List ℕ)
    → SyntaxSetBuilder → ℕ → List (List ℕ) → SyntaxSetBuilder → Type 0 where
  no_more : {room : ℕ} {repo : List (List ℕ)} {builder : SyntaxSetBuilder}
      → AddsWithin Told limits newlines room [] repo builder room repo builder
  other : {room rest : ℕ} {path : List ℕ} {paths old new : List (List ℕ)}
      {builder all : SyntaxSetBuilder}
      → is_grammar_path path ≡ false → is_metadata_path path ≡ false
      → AddsWithin Told limits newlines room paths old builder rest new all
      → AddsWithin Told limits newlines room (path ∷ paths) old builder rest new all
  grammar : {room less rest : ℕ} {path : List ℕ} {paths old left new : List (List ℕ)}
      {builder all : SyntaxSetBuilder} {d : SyntaxDefinition} → is_grammar_path path ≡ true
      → IsReadWithin Told limits newlines path old room left less d
      → AddsWithin Told limits newlines less paths left (with_loaded path d builder) rest new all
      → AddsWithin Told limits newlines room (path ∷ paths) old builder rest new all
  metadata : {room rest : ℕ} {path : List ℕ} {paths old new : List (List ℕ)}
      {builder next all : SyntaxSetBuilder}
      → is_metadata_path path ≡ true
      → AddsMetadata Told path builder next
      → AddsWithin Told limits newlines room paths old next rest new all
      → AddsWithin Told limits newlines room (path ∷ paths) old builder rest new all

-- why a file stops this: it is a grammar's and gives no syntax within limits, or it has metadata
-- and there is no memory
pub data StopsWithin (Told : Answer → Type 0) (limits : Limits) (newlines : Bool)
    (path : List ℕ) (repo : List (List ℕ))
    (room : ℕ) : FolderWithinError → Type 0 where
  at_grammar : {e : FolderWithinError} → is_grammar_path path ≡ true
      → RefusesReadWithin Told limits newlines path repo room e
      → StopsWithin Told limits newlines path repo room e
  at_metadata : is_metadata_path path ≡ true
      → StopsWithin Told limits newlines path repo room (Refused Memory)

-- the grammars and the metadata in a folder and in those below it are added, in the order of a
-- walk, and the grammars have no more bytes together than the limit lets a folder's have
pub record AddsFolderWithin (Told : Answer → Type 0) (limits : Limits) (newlines : Bool)
    (folder : List ℕ)
    (old : List (List ℕ)) (builder : SyntaxSetBuilder) (new : List (List ℕ))
    (all : SyntaxSetBuilder) : Type 0 where
  pub files : List (List ℕ)
  pub walk : IsWalk Told Grammars folder files
  pub rest : ℕ
  pub adds : AddsWithin Told limits newlines limits.folder files old builder rest new all

-- Why they are not, and what is added then: the files before the walk was refused; or the files
-- before one that stops this.
pub data RefusesFolderWithin (Told : Answer → Type 0) (limits : Limits) (newlines : Bool)
    (folder : List ℕ)
    (old : List (List ℕ)) (builder : SyntaxSetBuilder)
    : FolderWithinError → List (List ℕ) → SyntaxSetBuilder → Type 0 where
  no_walk : {e : LoadingError} {files new : List (List ℕ)} {rest : ℕ} {all : SyntaxSetBuilder}
      → RefusesWalk Told Grammars folder files e
      → AddsWithin Told limits newlines limits.folder files old builder rest new all
      → RefusesFolderWithin Told limits newlines folder old builder (Refused e) new all
  no_syntax : {e : FolderWithinError} {path : List ℕ} {files left new : List (List ℕ)} {rest : ℕ}
      {all : SyntaxSetBuilder} → BeginsWalk Told Grammars folder (files ++ path ∷ [])
      → AddsWithin Told limits newlines limits.folder files old builder rest left all
      → StopsWithin Told limits newlines path left rest e
      → RefusesFolderWithin Told limits newlines folder old builder e new all

-- what is added of a folder within limits is what is added without them
abbrev pub AddedWithin : (Told : Answer → Type 0) → Type 0
AddedWithin Told =
    (limits : Limits) (newlines : Bool) (folder : List ℕ) (old : List (List ℕ))
    (builder : SyntaxSetBuilder) (new : List (List ℕ)) (all : SyntaxSetBuilder)
    → AddsFolderWithin Told limits newlines folder old builder new all
    → AddsFolder Told newlines folder old builder new all
