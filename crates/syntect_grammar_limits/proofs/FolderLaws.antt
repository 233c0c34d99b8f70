-- Grammars added from files, within limits.
use Rattle.std.proofs.Common.{◌≡◌, ℕ, Bool, true, false, List, [], ◌∷◌, ◌++◌, length, refl, sym, ap, ◌∙◌, subst}
use Rattle.syntect_grammar_limits.specs.syntect_base.Ahead.{Ahead}
use Rattle.syntect_grammar_limits.specs.syntect_base.Trees.{Answer}
use Rattle.syntect_grammar_limits.specs.syntect_base.Walks.{IsWalkSoFar, GivesFile, GivesNone, RefusesFile, RefusesWalk}
use Rattle.syntect_grammar_limits.proofs.syntect_base_proofs.WalkLaws as walks
use Rattle.syntect_grammar_limits.specs.syntect_base.declared.utils.Sought.TheVariants.{Grammars}
use Rattle.syntect_grammar_limits.specs.syntect_base.declared.limits.Limits.{Limits}
use Rattle.syntect_grammar_limits.specs.syntect_base.declared.loading.LoadingError.{LoadingError}
use Rattle.syntect_grammar_limits.specs.syntect_base.declared.loading.LoadingError.TheVariants as loading
use Rattle.syntect_grammar.specs.Folders.{is_grammar_path, is_metadata_path, with_loaded, AddsMetadata, AddsSyntaxes}
use Rattle.syntect_grammar.specs.Folders as grammar_folders
use Rattle.syntect_grammar.specs.Link.{definitions_in, paths_in}
use Rattle.syntect_grammar.specs.Metadata.{entries_in, kept_sets}
use Rattle.syntect_grammar.specs.declared.syntax_set.SyntaxSetBuilder.{SyntaxSetBuilder}
use Rattle.syntect_grammar_limits.specs.syntect_grammar_loader.declared.definition.SyntaxDefinition.{SyntaxDefinition}
use Rattle.syntect_grammar_limits.specs.syntect_metadata.declared.raw.RawMetadataEntry.{RawMetadataEntry}
use Rattle.syntect_grammar_limits.specs.syntect_metadata.declared.set.MetadataSet.{MetadataSet}
use Rattle.syntect_grammar_limits.specs.FilesWithin.{IsReadWithin, no_memory_here}
use Rattle.syntect_grammar_limits.specs.FoldersWithin.{AddsWithin, no_more, other, grammar, metadata, StopsWithin, at_grammar, at_metadata, AddsFolderWithin, RefusesFolderWithin, no_walk, no_syntax, AddedWithin}
use Rattle.syntect_grammar_limits.specs.declared.folder_error.FolderWithinError.{FolderWithinError}
use Rattle.syntect_grammar_limits.specs.declared.folder_error.FolderWithinError.TheVariants as error

-- ---- files added ----

abbrev built : List SyntaxDefinition → List (List ℕ × ℕ) → List RawMetadataEntry → List MetadataSet → SyntaxSetBuilder
built ds ps es ms = record { syntaxes = ds; path_syntaxes = ps; raw_metadata = record { loaded = es }; metadata = record { scoped_metadata = ms } }

same_parts : (ds ds' : List SyntaxDefinition) (ps ps' : List (List ℕ × ℕ)) (es es' : List RawMetadataEntry) (ms ms' : List MetadataSet) → ds ≡ ds' → ps ≡ ps' → es ≡ es' → ms ≡ ms' → built ds ps es ms ≡ built ds' ps' es' ms'
same_parts ds ds' ps ps' es es' ms ms' d p e m = rw (d, p, e, m) refl

module _ (Told : Answer → Type 0) (limits : Limits) (newlines : Bool) where
  -- one file more
  pub adds_more : {room less rest : ℕ} {paths old left new : List (List ℕ)} {builder some all : SyntaxSetBuilder} (path : List ℕ) → AddsWithin Told limits newlines room paths old builder less left some
      → AddsWithin Told limits newlines less (path ∷ []) left some rest new all → AddsWithin Told limits newlines room (paths ++ path ∷ []) old builder rest new all
  adds_more path no_more last = last
  adds_more path (other n m rest) last = other n m (adds_more path rest last)
  adds_more path (grammar n s rest) last = grammar n s (adds_more path rest last)
  adds_more path (metadata n s rest) last = metadata n s (adds_more path rest last)

  pub passes_over : (path : List ℕ) (room : ℕ) (repo : List (List ℕ)) (builder : SyntaxSetBuilder) → is_grammar_path path ≡ false → is_metadata_path path ≡ false → AddsWithin Told limits newlines room (path ∷ []) repo builder room repo builder
  passes_over path room repo builder n m = other n m no_more

  pub adds_metadata : (path : List ℕ) (room : ℕ) (repo : List (List ℕ)) (builder all : SyntaxSetBuilder) → is_metadata_path path ≡ true → AddsMetadata Told path builder all → AddsWithin Told limits newlines room (path ∷ []) repo builder room repo all
  adds_metadata path room repo builder all m a = metadata m a no_more

  pub no_memory_at : (path : List ℕ) (room : ℕ) (repo : List (List ℕ)) (e : LoadingError) → is_metadata_path path ≡ true → e ≡ loading.Memory → StopsWithin Told limits newlines path repo room (error.Refused e)
  no_memory_at path room repo e m h = subst (λ (x : LoadingError). StopsWithin Told limits newlines path repo room (error.Refused x)) (sym h) (at_metadata m)

  pub no_memory_for : (path : List ℕ) (room : ℕ) (repo : List (List ℕ)) → is_grammar_path path ≡ true → StopsWithin Told limits newlines path repo room (error.Refused loading.Memory)
  no_memory_for path room repo g = at_grammar g no_memory_here

  pub adds_one : (path key : List ℕ) (room left : ℕ) (old new : List (List ℕ)) (builder all : SyntaxSetBuilder) (d : SyntaxDefinition) → is_grammar_path path ≡ true → IsReadWithin Told limits newlines path old room new left d
      → key ≡ path → definitions_in all ≡ definitions_in builder ++ d ∷ [] → paths_in all ≡ paths_in builder ++ (key, length (definitions_in builder)) ∷ []
      → entries_in all ≡ entries_in builder → kept_sets all ≡ kept_sets builder → AddsWithin Told limits newlines room (path ∷ []) old builder left new all
  adds_one path key room left old new builder all d g s k e p m n =
      let paths : paths_in all ≡ paths_in builder ++ (path, length (definitions_in builder)) ∷ [] = p ∙ ap (λ (t : List ℕ). paths_in builder ++ (t, length (definitions_in builder)) ∷ []) k in
      let same : with_loaded path d builder ≡ all
      = same_parts (definitions_in builder ++ d ∷ []) (definitions_in all) (paths_in builder ++ (path, length (definitions_in builder)) ∷ []) (paths_in all) (entries_in builder) (entries_in all)
      (kept_sets builder) (kept_sets all) (sym e) (sym paths) (sym m) (sym n) in
      grammar g s (subst (λ (b : SyntaxSetBuilder). AddsWithin Told limits newlines left [] new b left new all) (sym same) no_more)

-- ---- folders ----

module _ (Told : Answer → Type 0) (limits : Limits) (newlines : Bool) (folder : List ℕ) (old : List (List ℕ)) (builder : SyntaxSetBuilder) where
  -- the files that a walk has found so far are added
  abbrev pub Added : Ahead → ℕ → List (List ℕ) → SyntaxSetBuilder → Type 0
  Added ahead rest new all = (found : List (List ℕ)) × IsWalkSoFar Told Grammars folder found ahead × AddsWithin Told limits newlines limits.folder found old builder rest new all

  pub next_added : (before after : Ahead) (path text : List ℕ) (less rest : ℕ) (left new : List (List ℕ)) (some all : SyntaxSetBuilder) → Added before less left some → GivesFile Told before after path → text ≡ path
      → AddsWithin Told limits newlines less (text ∷ []) left some rest new all → Added after rest new all
  next_added before after path text less rest left new some all added gives same one =
      let one_file : AddsWithin Told limits newlines less (path ∷ []) left some rest new all = subst (λ (p : List ℕ). AddsWithin Told limits newlines less (p ∷ []) left some rest new all) same one in
      (added.0 ++ path ∷ [], walks.one_more Told Grammars folder added.0 before added.1 after path gives, adds_more Told limits newlines path added.2 one_file)

  pub all_added : (ahead : Ahead) (rest : ℕ) (new : List (List ℕ)) (all : SyntaxSetBuilder) → Added ahead rest new all → GivesNone Told ahead → AddsFolderWithin Told limits newlines folder old builder new all
  all_added ahead rest new all added none = record { files = added.0; walk = walks.all_found Told Grammars folder added.0 ahead added.1 none; rest = rest; adds = added.2 }

  -- the walk is refused
  pub breaks_off : (ahead : Ahead) (rest : ℕ) (new : List (List ℕ)) (all : SyntaxSetBuilder) (e : LoadingError) → Added ahead rest new all → RefusesFile Told ahead e
      → RefusesFolderWithin Told limits newlines folder old builder (error.Refused e) new all
  breaks_off ahead rest new all e added fault = no_walk (walks.breaks_off Told Grammars folder added.0 ahead added.1 e fault) added.2

  pub not_begun : (e : LoadingError) → RefusesWalk Told Grammars folder [] e → RefusesFolderWithin Told limits newlines folder old builder (error.Refused e) old builder
  not_begun e fault = no_walk fault no_more

  -- a file stops it
  pub stopped : (before after : Ahead) (path text : List ℕ) (rest : ℕ) (left new : List (List ℕ)) (some all : SyntaxSetBuilder) (e : FolderWithinError) → Added before rest left some → GivesFile Told before after path
      → text ≡ path → all ≡ some → StopsWithin Told limits newlines text left rest e → RefusesFolderWithin Told limits newlines folder old builder e new all
  stopped before after path text rest left new some all e added gives same kept stops =
      no_syntax {path = path} (walks.so_far Told Grammars folder (added.0 ++ path ∷ []) after (walks.one_more Told Grammars folder added.0 before added.1 after path gives))
      (subst (λ (b : SyntaxSetBuilder). AddsWithin Told limits newlines limits.folder added.0 old builder rest left b) (sym kept) added.2)
      (subst (λ (p : List ℕ). StopsWithin Told limits newlines p left rest e) same stops)

-- ---- without limits ----

pub without_limits : (Told : Answer → Type 0) (limits : Limits) (newlines : Bool) {room rest : ℕ} {paths old new : List (List ℕ)} {builder all : SyntaxSetBuilder} → AddsWithin Told limits newlines room paths old builder rest new all
    → AddsSyntaxes Told newlines paths old builder new all
without_limits Told limits newlines no_more = grammar_folders.no_more
without_limits Told limits newlines (other n m rest) = grammar_folders.other n m (without_limits Told limits newlines rest)
without_limits Told limits newlines (grammar n s rest) = grammar_folders.grammar n s.1 s.3.syntax (without_limits Told limits newlines rest)
without_limits Told limits newlines (metadata n s rest) = grammar_folders.metadata n s (without_limits Told limits newlines rest)

pub added_within : (Told : Answer → Type 0) → AddedWithin Told
added_within Told limits newlines folder old builder new all a = record { files = a.files; walk = a.walk; adds = without_limits Told limits newlines a.adds }
