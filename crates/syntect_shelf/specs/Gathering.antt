-- Sets of those grammars of a shelf that a syntax can reach. `Told` is what calls on the tree told.
use Rattle.std.specs.Prelude.{◌≡◌, ◌≢◌, ℕ, ◌+◌, ◌-◌, ◌^◌, ◌≤◌, Bool, true, false, List, [], ◌∷◌, ◌++◌, map, length, slice_get, slice_set, Some, None, Ok, codes, String, string_bytes}
use Rattle.std.specs.Global.{Global}
use Rattle.syntect_shelf.specs.Places.{head_alone, IsClosedShelf}
use Rattle.syntect_grammar.specs.Folders.{AddsMetadata}
use Rattle.syntect_grammar.specs.PlainText.{plain_text}
use Rattle.syntect_grammar.specs.Link.{linked, syntaxes_in, set_paths}
use Rattle.syntect_grammar.specs.Metadata.{entries_in, kept_sets, metadata_in, IsMergedOf}
use Rattle.syntect_grammar.specs.declared.syntax_set.SyntaxSet.{SyntaxSet}
use Rattle.syntect_grammar.specs.declared.syntax_set.SyntaxSetBuilder.{SyntaxSetBuilder}
use Rattle.syntect_grammar_limits.specs.FilesWithin.{IsReadWithin, RefusesReadWithin}
use Rattle.syntect_grammar_limits.specs.declared.folder_error.FolderWithinError.{FolderWithinError}
use Rattle.syntect_grammar_limits.specs.declared.folder_error.FolderWithinError.TheVariants.{Refused}
use Rattle.syntect_grammar_limits.specs.syntect_base.Trees.{Answer}
use Rattle.syntect_grammar_limits.specs.syntect_base.declared.loading.LoadingError.TheVariants.{Memory, ParseSyntax}
use Rattle.syntect_grammar_limits.specs.syntect_base.declared.syntax.ParseSyntaxError.{ParseSyntaxError}
use Rattle.syntect_grammar_limits.specs.syntect_base.declared.syntax.ParseSyntaxError.TheVariants as error
use Rattle.syntect_grammar_limits.specs.syntect_grammar_loader.Loading.{loaded}
use Rattle.syntect_grammar_limits.specs.syntect_grammar_loader.LoadingSteps.{Fails}
use Rattle.syntect_grammar_limits.specs.syntect_grammar_loader.declared.definition.SyntaxDefinition.{SyntaxDefinition}
use Rattle.syntect_shelf.specs.Unread.{whole_by, IsUnread}
use Rattle.syntect_shelf.specs.declared.grammar.Grammar.{Grammar}
use Rattle.syntect_shelf.specs.declared.grammar.Loading.{Loading}
use Rattle.syntect_shelf.specs.declared.grammar.Source.{Source}
use Rattle.syntect_shelf.specs.declared.grammar.Source.TheVariants.{File, PlainText}

-- ---- what stands on a shelf ----

-- its grammars, each with its head, and the set of these heads; the paths of its files of metadata;
-- and what its grammars are loaded with
pub record Stock : Type 0 where
  pub grammars : List Grammar
  pub heads : SyntaxSet
  pub metadata : List (List ℕ)
  pub loading : Loading

-- the heads of grammars
abbrev pub heads_of : List Grammar → List SyntaxDefinition
heads_of grammars = map (λ g. head_alone g.head) grammars

-- none of them is whole
abbrev pub none_whole : List Grammar → List Bool
none_whole grammars = map (λ g. false) grammars

-- the path of a grammar's file, if it has one, with its place
abbrev pub path_at : ℕ → Source → List (List ℕ × ℕ)
path_at place (File path) = (path, place) ∷ []
path_at place PlainText = []

-- the paths of the files of grammars from this place on, each with its grammar's place
abbrev pub paths_from : ℕ → List Grammar → List (List ℕ × ℕ)
paths_from place [] = []
paths_from place (g ∷ grammars) = path_at place g.source ++ paths_from (place + 1) grammars

-- ---- grammars ----

-- The whole definition of a grammar, read with a repository that becomes another one: that of the
-- bytes that were read of its file, within limits, of which none is on a folder's bytes; or that
-- of plain text.
pub data IsWholeOf (Told : Answer → Type 0) (loading : Loading) (old new : List (List ℕ))
    (d : SyntaxDefinition) : Source → Type 0 where
  of_file : {path : List ℕ} → IsReadWithin Told loading.limits loading.lines_include_newline path
      old (2 ^ 64 - 1) new (2 ^ 64 - 1) d → IsWholeOf Told loading old new d (File path)
  of_plain_text : loaded plain_text false None old ≡ Ok (d, new)
      → IsWholeOf Told loading old new d PlainText

-- why plain text gives no definition: for the reason that is reported under its name; or there was
-- no memory
pub data RefusesPlainText (repository : List (List ℕ)) : FolderWithinError → Type 0 where
  no_grammar : {p : ParseSyntaxError} {shown : String Global} → p ≢ error.Memory
      → Fails (loaded plain_text false None repository) p
      → string_bytes shown ≡ codes "Plain Text"
      → RefusesPlainText repository (Refused (ParseSyntax p shown))
  without_memory : RefusesPlainText repository (Refused Memory)

-- why a grammar gives no definition: its file is refused, or plain text is, or there was no memory
pub data RefusesGrammar (Told : Answer → Type 0) (loading : Loading) (repository : List (List ℕ))
    (e : FolderWithinError) : Source → Type 0 where
  of_file_refused : {path : List ℕ} → RefusesReadWithin Told loading.limits
      loading.lines_include_newline path repository (2 ^ 64 - 1) e
      → RefusesGrammar Told loading repository e (File path)
  no_plain_text : RefusesPlainText repository e
      → RefusesGrammar Told loading repository e PlainText
  no_memory : {source : Source} → e ≡ Refused Memory
      → RefusesGrammar Told loading repository e source

-- Grammars are read, one after another, with a repository that becomes another one: the one at the
-- place that is asked for, if there is one, and then each that is still to be read. These are the
-- definitions then, and these flags tell which of them are whole. The others are heads alone.
pub data Gathers (Told : Answer → Type 0) (loading : Loading) (grammars : List Grammar) (place : ℕ)
    (old : List (List ℕ)) : List SyntaxDefinition → List Bool → List (List ℕ) → Type 0 where
  none_there : length grammars ≤ place
      → Gathers Told loading grammars place old (heads_of grammars) (none_whole grammars) old
  asked : {g : Grammar} {d : SyntaxDefinition} {new : List (List ℕ)}
      → slice_get grammars place ≡ Some g → IsWholeOf Told loading old new d g.source
      → Gathers Told loading grammars place old (slice_set (heads_of grammars) place d)
      (slice_set (none_whole grammars) place true) new
  one_more : {ds : List SyntaxDefinition} {flags : List Bool} {left new : List (List ℕ)} {i : ℕ}
      {g : Grammar} {d : SyntaxDefinition} → Gathers Told loading grammars place old ds flags left
      → IsUnread ds flags i → slice_get grammars i ≡ Some g
      → IsWholeOf Told loading left new d g.source
      → Gathers Told loading grammars place old (slice_set ds i d) (slice_set flags i true) new

-- nothing is left to be read
pub record IsGathered (Told : Answer → Type 0) (loading : Loading) (grammars : List Grammar)
    (place : ℕ) (old : List (List ℕ)) (ds : List SyntaxDefinition) (new : List (List ℕ)) : Type 0
  where
    pub flags : List Bool
    pub gathers : Gathers Told loading grammars place old ds flags new
    pub is_whole : whole_by flags place ≡ true
    pub closed : IsClosedShelf (whole_by flags) ds

-- ---- metadata ----

-- the metadata of these files is added to a builder, one file after another
pub data AddsEntries (Told : Answer → Type 0) : List (List ℕ) → SyntaxSetBuilder
    → SyntaxSetBuilder → Type 0 where
  no_more : {builder : SyntaxSetBuilder} → AddsEntries Told [] builder builder
  entry : {path : List ℕ} {paths : List (List ℕ)} {builder next all : SyntaxSetBuilder}
      → AddsMetadata Told path builder next → AddsEntries Told paths next all
      → AddsEntries Told (path ∷ paths) builder all

-- a set has the metadata of these files alone, read with a repository that becomes another one
pub record HasMetadata (Told : Answer → Type 0) (paths : List (List ℕ)) (old new : List (List ℕ))
    (set : SyntaxSet) : Type 0 where
  pub bare : SyntaxSetBuilder
  pub all : SyntaxSetBuilder
  pub no_entries : entries_in bare ≡ []
  pub no_sets : kept_sets bare ≡ []
  pub adds : AddsEntries Told paths bare all
  pub merged : IsMergedOf old all new (metadata_in set)

-- ---- sets ----

-- The set of a shelf for the syntax at a place: all syntaxes that it can reach are whole, and the
-- others are heads alone; each stands at its place. Past the last place plain text alone is whole.
pub record IsSetFor (Told : Answer → Type 0) (stock : Stock) (place : ℕ) (old new : List (List ℕ))
    (set : SyntaxSet) : Type 0 where
  pub definitions : List SyntaxDefinition
  pub left : List (List ℕ)
  pub gathered : IsGathered Told stock.loading stock.grammars place old definitions left
  pub links : syntaxes_in set ≡ linked definitions
  pub paths : set_paths set ≡ paths_from 0 stock.grammars
  pub metadata : HasMetadata Told stock.metadata left new set

-- Why a shelf gives no set: the grammar that is asked for is refused; or one that is reached, after
-- those before it; or there was no memory.
pub data RefusesSet (Told : Answer → Type 0) (loading : Loading) (grammars : List Grammar)
    (place : ℕ) (old : List (List ℕ)) : FolderWithinError → Type 0 where
  at_asked : {g : Grammar} {e : FolderWithinError} → slice_get grammars place ≡ Some g
      → RefusesGrammar Told loading old e g.source → RefusesSet Told loading grammars place old e
  at_reached : {ds : List SyntaxDefinition} {flags : List Bool} {left : List (List ℕ)} {i : ℕ}
      {g : Grammar} {e : FolderWithinError} → Gathers Told loading grammars place old ds flags left
      → IsUnread ds flags i → slice_get grammars i ≡ Some g
      → RefusesGrammar Told loading left e g.source → RefusesSet Told loading grammars place old e
  no_memory_left : RefusesSet Told loading grammars place old (Refused Memory)
