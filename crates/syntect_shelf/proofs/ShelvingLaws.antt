-- What files hold is put onto a shelf.
use Rattle.std.proofs.Common.{◌≡◌, ℕ, true, false, None, Ok, List, [], ◌∷◌, ◌++◌, append_assoc, append-nil, refl, ap, sym, ◌∙◌, subst}
use Rattle.syntect_grammar.specs.Folders.{is_grammar_path, is_metadata_path}
use Rattle.syntect_grammar_limits.proofs.syntect_base_proofs.WalkLaws as walks
use Rattle.syntect_grammar_limits.specs.declared.folder_error.FolderWithinError.{FolderWithinError}
use Rattle.syntect_grammar_limits.specs.declared.folder_error.FolderWithinError.TheVariants.{Refused}
use Rattle.syntect_grammar_limits.specs.syntect_base.Ahead.{Ahead}
use Rattle.syntect_grammar_limits.specs.syntect_base.Trees.{Answer}
use Rattle.syntect_grammar_limits.specs.syntect_base.Walks.{IsWalkSoFar, GivesFile, GivesNone, RefusesFile, RefusesWalk}
use Rattle.syntect_grammar_limits.specs.syntect_base.declared.loading.LoadingError.{LoadingError}
use Rattle.syntect_grammar_limits.specs.syntect_base.declared.loading.LoadingError.TheVariants.{Memory}
use Rattle.syntect_grammar_limits.specs.syntect_base.declared.utils.Sought.TheVariants.{Grammars}
use Rattle.syntect_grammar_limits.specs.syntect_grammar_loader.LoadingSteps.{KeepsAtoms}
use Rattle.syntect_grammar_limits.specs.syntect_grammar_loader.declared.definition.SyntaxDefinition.{SyntaxDefinition}
use Rattle.syntect_shelf.specs.Heads.{IsHeadRead, RefusesHead}
use Rattle.syntect_shelf.specs.Shelving.{grammars_in, metadata_in, loading_of, of_file, Holds, HoldsPlainText, Shelves, no_more, other, grammar, metadata_file, StopsShelving, at_grammar, no_memory, AddsFound, ShelvesFolder, RefusesShelving, no_walk, stopped}
use Rattle.syntect_grammar.specs.PlainText.{plain_text}
use Rattle.syntect_grammar_limits.specs.syntect_grammar_loader.Loading.{loaded}
use Rattle.syntect_shelf.specs.Places.{head_alone}
use Rattle.syntect_shelf.specs.declared.grammar.Source.TheVariants.{PlainText}
use Rattle.syntect_shelf.specs.declared.grammar.Grammar.{Grammar}
use Rattle.syntect_shelf.specs.declared.shelf_builder.ShelfBuilder.{ShelfBuilder}

-- ---- builders ----

holds_none : (builder : ShelfBuilder) → Holds builder [] [] builder
holds_none builder = record { grammars_are = sym (append-nil (grammars_in builder)); metadata_is = sym (append-nil (metadata_in builder)); loading_is = refl }

holds_both : (a b c : ShelfBuilder) (gs hs : List Grammar) (ms ns : List (List ℕ)) → Holds a gs ms b → Holds b hs ns c → Holds a (gs ++ hs) (ms ++ ns) c
holds_both a b c gs hs ms ns f g = record {
  grammars_are = g.grammars_are ∙ ap (λ (x : List Grammar). x ++ hs) f.grammars_are ∙ append_assoc (grammars_in a) gs hs;
  metadata_is = g.metadata_is ∙ ap (λ (x : List (List ℕ)). x ++ ns) f.metadata_is ∙ append_assoc (metadata_in a) ms ns;
  loading_is = g.loading_is ∙ f.loading_is;
}

-- ---- files ----

module _ (Told : Answer → Type 0) where
  shelves_more : {room less rest : ℕ} {paths old left ms ns new : List (List ℕ)} {gs hs : List Grammar} (path : List ℕ) → Shelves Told room paths old gs ms less left
      → Shelves Told less (path ∷ []) left hs ns rest new → Shelves Told room (paths ++ path ∷ []) old (gs ++ hs) (ms ++ ns) rest new
  shelves_more path no_more last = last
  shelves_more path (other n m more) last = other n m (shelves_more path more last)
  shelves_more path (grammar n h k more) last = grammar n h k (shelves_more path more last)
  shelves_more path (metadata_file m more) last = metadata_file m (shelves_more path more last)

  -- one file more
  pub found_more : (paths : List (List ℕ)) (path : List ℕ) (room less rest : ℕ) (old left new : List (List ℕ)) (first some all : ShelfBuilder) → AddsFound Told paths room old first less left some
      → AddsFound Told (path ∷ []) less left some rest new all → AddsFound Told (paths ++ path ∷ []) room old first rest new all
  found_more paths path room less rest old left new first some all f g = record {
    grammars = f.grammars ++ g.grammars;
    metadata = f.metadata ++ g.metadata;
    shelves = shelves_more path f.shelves g.shelves;
    holds = holds_both first some all f.grammars g.grammars f.metadata g.metadata f.holds g.holds;
  }

  pub none_found : (room : ℕ) (repo : List (List ℕ)) (builder : ShelfBuilder) → AddsFound Told [] room repo builder room repo builder
  none_found room repo builder = record { grammars = []; metadata = []; shelves = no_more; holds = holds_none builder }

  pub passes_over : (path : List ℕ) (room : ℕ) (repo : List (List ℕ)) (builder : ShelfBuilder) → is_grammar_path path ≡ false → is_metadata_path path ≡ false → AddsFound Told (path ∷ []) room repo builder room repo builder
  passes_over path room repo builder n m = record { grammars = []; metadata = []; shelves = other n m no_more; holds = holds_none builder }

  pub adds_metadata : (path : List ℕ) (room : ℕ) (repo : List (List ℕ)) (builder all : ShelfBuilder) → is_metadata_path path ≡ true → grammars_in all ≡ grammars_in builder → metadata_in all ≡ metadata_in builder ++ path ∷ []
      → loading_of all ≡ loading_of builder → AddsFound Told (path ∷ []) room repo builder room repo all
  adds_metadata path room repo builder all m g e l = record {
    grammars = [];
    metadata = path ∷ [];
    shelves = metadata_file m no_more;
    holds = record { grammars_are = g ∙ sym (append-nil (grammars_in builder)); metadata_is = e; loading_is = l };
  }

  pub adds_head : (path text : List ℕ) (room left : ℕ) (old new : List (List ℕ)) (builder all : ShelfBuilder) (d : SyntaxDefinition) → is_grammar_path path ≡ true → text ≡ path → IsHeadRead Told text room new left d → KeepsAtoms old new
      → grammars_in all ≡ grammars_in builder ++ of_file path d ∷ [] → metadata_in all ≡ metadata_in builder → loading_of all ≡ loading_of builder → AddsFound Told (path ∷ []) room old builder left new all
  adds_head path text room left old new builder all d n same h k g e l = record {
    grammars = of_file path d ∷ [];
    metadata = [];
    shelves = grammar n (subst (λ (p : List ℕ). IsHeadRead Told p room new left d) same h) k no_more;
    holds = record { grammars_are = g; metadata_is = e ∙ sym (append-nil (metadata_in builder)); loading_is = l };
  }

  pub no_room_for : (path : List ℕ) (room : ℕ) (e : FolderWithinError) → e ≡ Refused Memory → StopsShelving Told path room e
  no_room_for path room e h = subst (λ (x : FolderWithinError). StopsShelving Told path room x) (sym h) no_memory

-- ---- folders ----

module _ (Told : Answer → Type 0) (folder : List ℕ) (old : List (List ℕ)) (builder : ShelfBuilder) where
  -- what the files hold that a walk has found so far is put there
  abbrev pub Added : Ahead → ℕ → List (List ℕ) → ShelfBuilder → Type 0
  Added ahead rest new all = (found : List (List ℕ)) × IsWalkSoFar Told Grammars folder found ahead × AddsFound Told found (loading_of builder).limits.folder old builder rest new all

  pub next_added : (before after : Ahead) (path : List ℕ) (less rest : ℕ) (left new : List (List ℕ)) (some all : ShelfBuilder) → Added before less left some → GivesFile Told before after path
      → AddsFound Told (path ∷ []) less left some rest new all → Added after rest new all
  next_added before after path less rest left new some all added gives one = (
    added.0 ++ path ∷ [],
    walks.one_more Told Grammars folder added.0 before added.1 after path gives,
    found_more Told added.0 path (loading_of builder).limits.folder less rest old left new builder some all added.2 one,
  )

  pub all_added : (ahead : Ahead) (rest : ℕ) (new : List (List ℕ)) (all : ShelfBuilder) → Added ahead rest new all → GivesNone Told ahead → ShelvesFolder Told folder old builder new all
  all_added ahead rest new all added none = record { files = added.0; walk = walks.all_found Told Grammars folder added.0 ahead added.1 none; rest = rest; adds = added.2 }

  pub breaks_off : (ahead : Ahead) (rest : ℕ) (new : List (List ℕ)) (all : ShelfBuilder) (e : LoadingError) → Added ahead rest new all → RefusesFile Told ahead e → RefusesShelving Told folder old builder (Refused e) new all
  breaks_off ahead rest new all e added fault = no_walk (walks.breaks_off Told Grammars folder added.0 ahead added.1 e fault) added.2

  pub not_begun : (e : LoadingError) → RefusesWalk Told Grammars folder [] e → RefusesShelving Told folder old builder (Refused e) old builder
  not_begun e fault = no_walk fault (none_found Told (loading_of builder).limits.folder old builder)

  pub stopped_at : (before after : Ahead) (path : List ℕ) (rest : ℕ) (left new : List (List ℕ)) (some all : ShelfBuilder) (e : FolderWithinError) → Added before rest left some → GivesFile Told before after path → all ≡ some
      → StopsShelving Told path rest e → KeepsAtoms left new → RefusesShelving Told folder old builder e new all
  stopped_at before after path rest left new some all e added gives kept stops atoms =
      stopped {path = path} (walks.so_far Told Grammars folder (added.0 ++ path ∷ []) after (walks.one_more Told Grammars folder added.0 before added.1 after path gives))
      (subst (λ (b : ShelfBuilder). AddsFound Told added.0 (loading_of builder).limits.folder old builder rest left b) (sym kept) added.2) stops atoms

pub refused_at : (Told : Answer → Type 0) (path text : List ℕ) (room : ℕ) (e : FolderWithinError) → is_grammar_path path ≡ true → text ≡ path → RefusesHead Told text room e → StopsShelving Told path room e
refused_at Told path text room e n same h = at_grammar n (subst (λ (p : List ℕ). RefusesHead Told p room e) same h)

pub plain_held : (old new : ShelfBuilder) (before after : List (List ℕ)) (d head : SyntaxDefinition) → loaded plain_text false None before ≡ Ok (d, after) → head ≡ head_alone d
    → Holds old (record { head = head; source = PlainText } ∷ []) [] new → HoldsPlainText old new before after
plain_held old new before after d head l e h = record { definition = d; loads = l; holds = subst (λ (x : SyntaxDefinition). Holds old (record { head = x; source = PlainText } ∷ []) [] new) e h }
