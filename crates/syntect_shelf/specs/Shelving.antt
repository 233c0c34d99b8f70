-- Grammars and metadata that are put onto a shelf. `Told` is what calls on the tree told.
use Rattle.std.specs.Prelude.{◌≡◌, ℕ, true, false, List, [], ◌∷◌, ◌++◌, None, Ok}
use Rattle.syntect_shelf.specs.Places.{head_alone}
use Rattle.syntect_grammar.specs.Folders.{is_grammar_path, is_metadata_path}
use Rattle.syntect_grammar.specs.PlainText.{plain_text}
use Rattle.syntect_grammar_limits.specs.declared.folder_error.FolderWithinError.{FolderWithinError}
use Rattle.syntect_grammar_limits.specs.declared.folder_error.FolderWithinError.TheVariants.{Refused}
use Rattle.syntect_grammar_limits.specs.syntect_base.Trees.{Answer}
use Rattle.syntect_grammar_limits.specs.syntect_base.Walks.{IsWalk, BeginsWalk, RefusesWalk}
use Rattle.syntect_grammar_limits.specs.syntect_base.declared.loading.LoadingError.{LoadingError}
use Rattle.syntect_grammar_limits.specs.syntect_base.declared.loading.LoadingError.TheVariants.{Memory}
use Rattle.syntect_grammar_limits.specs.syntect_base.declared.utils.Sought.TheVariants.{Grammars}
use Rattle.syntect_grammar_limits.specs.syntect_grammar_loader.Loading.{loaded}
use Rattle.syntect_grammar_limits.specs.syntect_grammar_loader.LoadingSteps.{KeepsAtoms}
use Rattle.syntect_grammar_limits.specs.syntect_grammar_loader.declared.definition.SyntaxDefinition.{SyntaxDefinition}
use Rattle.syntect_shelf.specs.Heads.{IsHeadRead, RefusesHead}
use Rattle.syntect_shelf.specs.declared.grammar.Grammar.{Grammar}
use Rattle.syntect_shelf.specs.declared.grammar.Loading.{Loading}
use Rattle.syntect_shelf.specs.declared.grammar.Source.TheVariants.{File, PlainText}
use Rattle.syntect_shelf.specs.declared.shelf_builder.ShelfBuilder.{ShelfBuilder}

-- the grammars that a builder holds
abbrev pub grammars_in : ShelfBuilder → List Grammar
grammars_in builder = builder.grammars

-- the paths of its files of metadata
abbrev pub metadata_in : ShelfBuilder → List (List ℕ)
metadata_in builder = builder.metadata

-- what its grammars are loaded with
abbrev pub loading_of : ShelfBuilder → Loading
loading_of builder = builder.loading

-- the grammar of plain text
abbrev pub of_plain_text : SyntaxDefinition → Grammar
of_plain_text d = record { head = head_alone d; source = PlainText }

-- the grammar of this head in the file of this path
abbrev pub of_file : List ℕ → SyntaxDefinition → Grammar
of_file path d = record { head = d; source = File path }

-- the builder with these grammars and these files of metadata more, last
pub record Holds (old : ShelfBuilder) (grammars : List Grammar) (metadata : List (List ℕ))
    (new : ShelfBuilder) : Type 0 where
  pub grammars_are : grammars_in new ≡ grammars_in old ++ grammars
  pub metadata_is : metadata_in new ≡ metadata_in old ++ metadata
  pub loading_is : loading_of new ≡ loading_of old

-- the builder with plain text more, last, read with a repository that becomes another one
pub record HoldsPlainText (old new : ShelfBuilder) (before after : List (List ℕ)) : Type 0 where
  pub definition : SyntaxDefinition
  pub loads : loaded plain_text false None before ≡ Ok (definition, after)
  pub holds : Holds old (of_plain_text definition ∷ []) [] new

-- ---- files one after another ----

-- These files hold these grammars, each under its path, with the head of the bytes that were read
-- of it, and these files of metadata, in their order. The repository becomes another one. The first
-- number is how many bytes all these grammars may have together, and the last how many more they
-- might have had.
pub data Shelves (Told : Answer → Type 0) : ℕ → List (List ℕ) → List (List ℕ) → List Grammar
    → List (List ℕ) → ℕ → List (List ℕ) → Type 0 where
  no_more : {room : ℕ} {repo : List (List ℕ)} → Shelves Told room [] repo [] [] room repo
  other : {room rest : ℕ} {path : List ℕ} {paths old metadata new : List (List ℕ)}
      {grammars : List Grammar} → is_grammar_path path ≡ false → is_metadata_path path ≡ false
      → Shelves Told room paths old grammars metadata rest new
      → Shelves Told room (path ∷ paths) old grammars metadata rest new
  grammar : {room less rest : ℕ} {path : List ℕ} {paths old left metadata new : List (List ℕ)}
      {grammars : List Grammar} {d : SyntaxDefinition} → is_grammar_path path ≡ true
      → IsHeadRead Told path room left less d → KeepsAtoms old left
      → Shelves Told less paths left grammars metadata rest new
      → Shelves Told room (path ∷ paths) old (of_file path d ∷ grammars) metadata rest new
  metadata_file : {room rest : ℕ} {path : List ℕ} {paths old metadata new : List (List ℕ)}
      {grammars : List Grammar} → is_metadata_path path ≡ true
      → Shelves Told room paths old grammars metadata rest new
      → Shelves Told room (path ∷ paths) old grammars (path ∷ metadata) rest new

-- why a file stops this: it is a grammar's and gives no head, or there is no memory
pub data StopsShelving (Told : Answer → Type 0) (path : List ℕ) (room : ℕ) : FolderWithinError
    → Type 0 where
  at_grammar : {e : FolderWithinError} → is_grammar_path path ≡ true
      → RefusesHead Told path room e → StopsShelving Told path room e
  no_memory : StopsShelving Told path room (Refused Memory)

-- ---- folders ----

-- what the files hold that a walk has found is put onto a shelf
pub record AddsFound (Told : Answer → Type 0) (files : List (List ℕ)) (room : ℕ)
    (old : List (List ℕ)) (builder : ShelfBuilder) (rest : ℕ) (new : List (List ℕ))
    (all : ShelfBuilder) : Type 0 where
  pub grammars : List Grammar
  pub metadata : List (List ℕ)
  pub shelves : Shelves Told room files old grammars metadata rest new
  pub holds : Holds builder grammars metadata all

-- the grammars and the metadata in a folder and in those below it are put onto a shelf, in the
-- order of a walk, and the grammars have no more bytes together than the limit lets a folder's have
pub record ShelvesFolder (Told : Answer → Type 0) (folder : List ℕ) (old : List (List ℕ))
    (builder : ShelfBuilder) (new : List (List ℕ)) (all : ShelfBuilder) : Type 0 where
  pub files : List (List ℕ)
  pub walk : IsWalk Told Grammars folder files
  pub rest : ℕ
  pub adds : AddsFound Told files (loading_of builder).limits.folder old builder rest new all

-- Why they are not, and what stands on the shelf then: the files before the walk was refused; or
-- the files before one that stops this.
pub data RefusesShelving (Told : Answer → Type 0) (folder : List ℕ) (old : List (List ℕ))
    (builder : ShelfBuilder) : FolderWithinError → List (List ℕ) → ShelfBuilder → Type 0 where
  no_walk : {e : LoadingError} {files new : List (List ℕ)} {rest : ℕ} {all : ShelfBuilder}
      → RefusesWalk Told Grammars folder files e
      → AddsFound Told files (loading_of builder).limits.folder old builder rest new all
      → RefusesShelving Told folder old builder (Refused e) new all
  stopped : {e : FolderWithinError} {path : List ℕ} {files left new : List (List ℕ)} {rest : ℕ}
      {all : ShelfBuilder} → BeginsWalk Told Grammars folder (files ++ path ∷ [])
      → AddsFound Told files (loading_of builder).limits.folder old builder rest left all
      → StopsShelving Told path rest e → KeepsAtoms left new
      → RefusesShelving Told folder old builder e new all
