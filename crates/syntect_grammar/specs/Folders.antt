-- Grammars and metadata from the files of folders.
use Rattle.std.specs.Prelude.{◌≡◌, ◌≢◌, ℕ, ◌==◌, Bool, true, false, List, [], ◌∷◌, ◌++◌, length, codes}
use Rattle.std.specs.Cmp.Lexicographic.{pointwise}
use Rattle.std.specs.Option.{option_map_or}
use Rattle.std.specs.Path.{path_extension}
use Rattle.syntect_grammar.specs.syntect_base.Trees.{Answer, has_bytes}
use Rattle.syntect_grammar.specs.syntect_base.Walks.{IsWalk, BeginsWalk, RefusesWalk}
use Rattle.syntect_grammar.specs.syntect_base.declared.loading.LoadingError.{LoadingError}
use Rattle.syntect_grammar.specs.syntect_base.declared.loading.LoadingError.TheVariants.{Memory}
use Rattle.syntect_grammar.specs.syntect_base.declared.utils.Sought.TheVariants.{Grammars}
use Rattle.syntect_grammar.specs.Link.{definitions_in, paths_in}
use Rattle.syntect_grammar.specs.Metadata.{entries_in}
use Rattle.syntect_grammar_loader.specs.Files.{IsSyntaxOf, RefusesRead}
use Rattle.syntect_grammar_loader.specs.declared.definition.SyntaxDefinition.{SyntaxDefinition}
use Rattle.syntect_metadata.specs.Entries.{IsEntryOf, IsEntryFault}
use Rattle.syntect_metadata.specs.declared.raw.RawMetadataEntry.{RawMetadataEntry}
use Rattle.syntect_grammar.specs.declared.syntax_set.SyntaxSetBuilder.{SyntaxSetBuilder}

-- ---- one file ----

-- whether a file is a grammar's: its extension is `sublime-syntax`, in this case
abbrev pub is_grammar_path : List ℕ → Bool
is_grammar_path path =
    option_map_or (λ extension. pointwise ◌==◌ extension (codes "sublime-syntax"))
    (path_extension path) false

-- whether a file has metadata: its extension is `tmPreferences`, in this case
abbrev pub is_metadata_path : List ℕ → Bool
is_metadata_path path =
    option_map_or (λ extension. pointwise ◌==◌ extension (codes "tmPreferences"))
    (path_extension path) false

-- ---- files one after another ----

-- a builder without definitions, and without metadata
abbrev pub no_definitions : SyntaxSetBuilder
no_definitions =
    record {
      syntaxes = [];
      path_syntaxes = [];
      raw_metadata = record { loaded = [] };
      metadata = record { scoped_metadata = [] };
    }

-- the builder with one definition more, last, which was loaded from the file of this path
abbrev pub with_loaded : List ℕ → SyntaxDefinition → SyntaxSetBuilder → SyntaxSetBuilder
with_loaded path d builder =
    record builder {
      syntaxes = definitions_in builder ++ d ∷ [];
      path_syntaxes = paths_in builder ++ (path, length (definitions_in builder)) ∷ [];
    }

-- the builder with one entry of metadata more, last
abbrev pub with_entry : RawMetadataEntry → SyntaxSetBuilder → SyntaxSetBuilder
with_entry entry builder =
    record builder { raw_metadata = record { loaded = entries_in builder ++ entry ∷ [] } }

-- A file of metadata adds the entry of the bytes that were read of it; where it gives none, for
-- another cause than lack of memory, it is passed over.
pub data AddsMetadata (Told : Answer → Type 0) (path : List ℕ) (builder : SyntaxSetBuilder)
    : SyntaxSetBuilder → Type 0 where
  entry_added : {bytes : List ℕ} {entry : RawMetadataEntry} → Told (has_bytes path bytes)
      → IsEntryOf path bytes entry → AddsMetadata Told path builder (with_entry entry builder)
  passed_over : {e : LoadingError} → IsEntryFault Told path e → e ≢ Memory
      → AddsMetadata Told path builder builder

-- The grammars and the metadata among these files are added to a builder, one after another, each
-- grammar under its path, and each as the bytes give it that were read of its file.
pub data AddsSyntaxes (Told : Answer → Type 0) (newlines : Bool) : List (List ℕ)
    → List (List ℕ) → SyntaxSetBuilder → List (List ℕ) → SyntaxSetBuilder → Type 0 where
  no_more : {repo : List (List ℕ)} {builder : SyntaxSetBuilder}
      → AddsSyntaxes Told newlines [] repo builder repo builder
  other : {path : List ℕ} {paths old new : List (List ℕ)} {builder all : SyntaxSetBuilder}
      → is_grammar_path path ≡ false → is_metadata_path path ≡ false
      → AddsSyntaxes Told newlines paths old builder new all
      → AddsSyntaxes Told newlines (path ∷ paths) old builder new all
  grammar : {path bytes : List ℕ} {paths old left new : List (List ℕ)}
      {builder all : SyntaxSetBuilder} {d : SyntaxDefinition} → is_grammar_path path ≡ true
      → Told (has_bytes path bytes) → IsSyntaxOf newlines path old bytes left d
      → AddsSyntaxes Told newlines paths left (with_loaded path d builder) new all
      → AddsSyntaxes Told newlines (path ∷ paths) old builder new all
  metadata : {path : List ℕ} {paths old new : List (List ℕ)} {builder next all : SyntaxSetBuilder}
      → is_metadata_path path ≡ true
      → AddsMetadata Told path builder next → AddsSyntaxes Told newlines paths old next new all
      → AddsSyntaxes Told newlines (path ∷ paths) old builder new all

-- why a file stops this: it is a grammar's and gives no syntax, or it has metadata and
-- there is no memory
pub data StopsFile (Told : Answer → Type 0) (newlines : Bool) (path : List ℕ)
    (repo : List (List ℕ)) : LoadingError → Type 0 where
  at_grammar : {e : LoadingError} → is_grammar_path path ≡ true
      → RefusesRead Told newlines path repo e → StopsFile Told newlines path repo e
  at_metadata : is_metadata_path path ≡ true → StopsFile Told newlines path repo Memory

-- ---- folders ----

-- the grammars and the metadata in a folder and in those below it are added, in the order of a walk
pub record AddsFolder (Told : Answer → Type 0) (newlines : Bool) (folder : List ℕ)
    (old : List (List ℕ)) (builder : SyntaxSetBuilder) (new : List (List ℕ))
    (all : SyntaxSetBuilder) : Type 0 where
  pub files : List (List ℕ)
  pub walk : IsWalk Told Grammars folder files
  pub adds : AddsSyntaxes Told newlines files old builder new all

-- Why they are not, and what is added then: the files before the walk was refused; or the files
-- before one that stops this.
pub data RefusesFolder (Told : Answer → Type 0) (newlines : Bool) (folder : List ℕ)
    (old : List (List ℕ)) (builder : SyntaxSetBuilder)
    : LoadingError → List (List ℕ) → SyntaxSetBuilder → Type 0 where
  no_walk : {e : LoadingError} {files new : List (List ℕ)} {all : SyntaxSetBuilder}
      → RefusesWalk Told Grammars folder files e
      → AddsSyntaxes Told newlines files old builder new all
      → RefusesFolder Told newlines folder old builder e new all
  no_syntax : {e : LoadingError} {path : List ℕ} {files left new : List (List ℕ)}
      {all : SyntaxSetBuilder} → BeginsWalk Told Grammars folder (files ++ path ∷ [])
      → AddsSyntaxes Told newlines files old builder left all
      → StopsFile Told newlines path left e
      → RefusesFolder Told newlines folder old builder e new all
