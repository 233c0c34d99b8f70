-- Grammars added from files.
use Rattle.std.proofs.Common.{◌≡◌, ℕ, Bool, true, false, List, [], ◌∷◌, ◌++◌, length, take, sym, refl, ap, ◌∙◌, subst, arith}
use Rattle.syntect_grammar.specs.syntect_base.Ahead.{Ahead}
use Rattle.syntect_grammar.specs.syntect_base.Trees.{Answer, has_bytes}
use Rattle.syntect_grammar.specs.syntect_base.Walks.{IsWalkSoFar, GivesFile, GivesNone, RefusesFile, RefusesWalk}
use Rattle.syntect_grammar.proofs.syntect_base_proofs.WalkLaws as walks
use Rattle.syntect_grammar.specs.syntect_base.declared.utils.Sought.TheVariants.{Grammars}
use Rattle.syntect_grammar.specs.syntect_base.declared.loading.LoadingError.{LoadingError}
use Rattle.syntect_grammar.specs.syntect_base.declared.loading.LoadingError.TheVariants as loading
use Rattle.syntect_grammar.specs.Folders.{is_grammar_path, is_metadata_path, with_loaded, with_entry, AddsMetadata, entry_added, AddsSyntaxes, no_more, other, grammar, metadata, StopsFile, at_metadata, AddsFolder, RefusesFolder, no_walk, no_syntax}
use Rattle.syntect_grammar.specs.Link.{definitions_in, paths_in}
use Rattle.syntect_grammar.specs.Metadata.{entries_in, kept_sets}
use Rattle.syntect_metadata.specs.Entries.{IsEntryOf}
use Rattle.syntect_metadata.specs.declared.raw.RawMetadataEntry.{RawMetadataEntry}
use Rattle.syntect_metadata.specs.declared.set.MetadataSet.{MetadataSet}
use Rattle.syntect_grammar_loader.specs.Files.{IsSyntaxOf}
use Rattle.syntect_grammar_loader.specs.LoadingSteps.{KeepsAtoms}
use Rattle.syntect_grammar_loader.specs.declared.definition.SyntaxDefinition.{SyntaxDefinition}
use Rattle.syntect_grammar.specs.declared.syntax_set.SyntaxSetBuilder.{SyntaxSetBuilder}
use Rattle.syntect_metadata.proofs.SetLaws.{keeps_on}

-- ---- files added ----

abbrev built : List SyntaxDefinition → List (List ℕ × ℕ) → List RawMetadataEntry → List MetadataSet → SyntaxSetBuilder
built ds ps es ms = record { syntaxes = ds; path_syntaxes = ps; raw_metadata = record { loaded = es }; metadata = record { scoped_metadata = ms } }

same_parts : (ds ds' : List SyntaxDefinition) (ps ps' : List (List ℕ × ℕ)) (es es' : List RawMetadataEntry) (ms ms' : List MetadataSet) → ds ≡ ds' → ps ≡ ps' → es ≡ es' → ms ≡ ms' → built ds ps es ms ≡ built ds' ps' es' ms'
same_parts ds ds' ps ps' es es' ms ms' d p e m = rw (d, p, e, m) refl

module _ (Told : Answer → Type 0) where
  -- an entry more
  pub one_entry : (path bytes : List ℕ) (builder all : SyntaxSetBuilder) (entry : RawMetadataEntry) → Told (has_bytes path bytes) → IsEntryOf path bytes entry → entries_in all ≡ entries_in builder ++ entry ∷ []
      → definitions_in all ≡ definitions_in builder → paths_in all ≡ paths_in builder → kept_sets all ≡ kept_sets builder → AddsMetadata Told path builder all
  one_entry path bytes builder all entry h i e d p k =
      let same : with_entry entry builder ≡ all
      = same_parts (definitions_in builder) (definitions_in all) (paths_in builder) (paths_in all) (entries_in builder ++ entry ∷ []) (entries_in all) (kept_sets builder) (kept_sets all) (sym d) (sym p) (sym e) (sym k) in
      subst (AddsMetadata Told path builder) same (entry_added h i)

module _ (Told : Answer → Type 0) (newlines : Bool) where
  -- one file more
  pub adds_more : {paths old left new : List (List ℕ)} {builder some all : SyntaxSetBuilder} (path : List ℕ) → AddsSyntaxes Told newlines paths old builder left some
      → AddsSyntaxes Told newlines (path ∷ []) left some new all → AddsSyntaxes Told newlines (paths ++ path ∷ []) old builder new all
  adds_more path no_more last = last
  adds_more path (other n m rest) last = other n m (adds_more path rest last)
  adds_more path (grammar n h s rest) last = grammar n h s (adds_more path rest last)
  adds_more path (metadata n s rest) last = metadata n s (adds_more path rest last)

  pub passes_over : (path : List ℕ) (repo : List (List ℕ)) (builder : SyntaxSetBuilder) → is_grammar_path path ≡ false → is_metadata_path path ≡ false → AddsSyntaxes Told newlines (path ∷ []) repo builder repo builder
  passes_over path repo builder n m = other n m no_more

  pub adds_metadata : (path : List ℕ) (repo : List (List ℕ)) (builder all : SyntaxSetBuilder) → is_metadata_path path ≡ true → AddsMetadata Told path builder all → AddsSyntaxes Told newlines (path ∷ []) repo builder repo all
  adds_metadata path repo builder all m a = metadata m a no_more

  pub no_room : (path : List ℕ) (repo : List (List ℕ)) (e : LoadingError) → is_metadata_path path ≡ true → e ≡ loading.Memory → StopsFile Told newlines path repo e
  no_room path repo e m h = subst (StopsFile Told newlines path repo) (sym h) (at_metadata m)

  pub adds_one : (path key bytes : List ℕ) (old new : List (List ℕ)) (builder all : SyntaxSetBuilder) (d : SyntaxDefinition) → is_grammar_path path ≡ true → Told (has_bytes path bytes) → IsSyntaxOf newlines path old bytes new d
      → key ≡ path → definitions_in all ≡ definitions_in builder ++ d ∷ [] → paths_in all ≡ paths_in builder ++ (key, length (definitions_in builder)) ∷ []
      → entries_in all ≡ entries_in builder → kept_sets all ≡ kept_sets builder → AddsSyntaxes Told newlines (path ∷ []) old builder new all
  adds_one path key bytes old new builder all d g h s k e p m n =
      let paths : paths_in all ≡ paths_in builder ++ (path, length (definitions_in builder)) ∷ [] = p ∙ ap (λ (t : List ℕ). paths_in builder ++ (t, length (definitions_in builder)) ∷ []) k in
      let same : with_loaded path d builder ≡ all
      = same_parts (definitions_in builder ++ d ∷ []) (definitions_in all) (paths_in builder ++ (path, length (definitions_in builder)) ∷ []) (paths_in all) (entries_in builder) (entries_in all)
      (kept_sets builder) (kept_sets all) (sym e) (sym paths) (sym m) (sym n) in
      grammar g h s (subst (λ (b : SyntaxSetBuilder). AddsSyntaxes Told newlines [] new b new all) (sym same) no_more)

-- ---- folders ----

module _ (Told : Answer → Type 0) (newlines : Bool) (folder : List ℕ) (old : List (List ℕ)) (builder : SyntaxSetBuilder) where
  -- the files that a walk has found so far are added
  abbrev pub Added : Ahead → List (List ℕ) → SyntaxSetBuilder → Type 0
  Added ahead new all = (found : List (List ℕ)) × IsWalkSoFar Told Grammars folder found ahead × AddsSyntaxes Told newlines found old builder new all

  pub next_added : (before after : Ahead) (path text : List ℕ) (left new : List (List ℕ)) (some all : SyntaxSetBuilder) → Added before left some → GivesFile Told before after path → text ≡ path
      → AddsSyntaxes Told newlines (text ∷ []) left some new all → Added after new all
  next_added before after path text left new some all added gives same one =
      let one_file : AddsSyntaxes Told newlines (path ∷ []) left some new all = subst (λ (p : List ℕ). AddsSyntaxes Told newlines (p ∷ []) left some new all) same one in
      (added.0 ++ path ∷ [], walks.one_more Told Grammars folder added.0 before added.1 after path gives, adds_more Told newlines path added.2 one_file)

  pub all_added : (ahead : Ahead) (new : List (List ℕ)) (all : SyntaxSetBuilder) → Added ahead new all → GivesNone Told ahead → AddsFolder Told newlines folder old builder new all
  all_added ahead new all added none = record { files = added.0; walk = walks.all_found Told Grammars folder added.0 ahead added.1 none; adds = added.2 }

  -- the walk is refused
  pub breaks_off : (ahead : Ahead) (new : List (List ℕ)) (all : SyntaxSetBuilder) (e : LoadingError) → Added ahead new all → RefusesFile Told ahead e → RefusesFolder Told newlines folder old builder e new all
  breaks_off ahead new all e added fault = no_walk (walks.breaks_off Told Grammars folder added.0 ahead added.1 e fault) added.2

  pub not_begun : (e : LoadingError) → RefusesWalk Told Grammars folder [] e → RefusesFolder Told newlines folder old builder e old builder
  not_begun e fault = no_walk fault no_more

  -- a file stops it
  pub stopped : (before after : Ahead) (path text : List ℕ) (left new : List (List ℕ)) (some all : SyntaxSetBuilder) (e : LoadingError) → Added before left some → GivesFile Told before after path
      → text ≡ path → all ≡ some → StopsFile Told newlines text left e → RefusesFolder Told newlines folder old builder e new all
  stopped before after path text left new some all e added gives same kept stops =
      no_syntax {path = path} (walks.so_far Told Grammars folder (added.0 ++ path ∷ []) after (walks.one_more Told Grammars folder added.0 before added.1 after path gives))
      (subst (λ (b : SyntaxSetBuilder). AddsSyntaxes Told newlines added.0 old builder left b) (sym kept) added.2)
      (subst (λ (p : List ℕ). StopsFile Told newlines p left e) same stops)

-- ---- repositories ----

-- what keeps the old atoms keeps whatever began them
pub keeps_all : (old left new : List (List ℕ)) → KeepsAtoms old left → take (length left) new ≡ left → KeepsAtoms old new
keeps_all old left new k h first b = keeps_on first left new (k first b) h
