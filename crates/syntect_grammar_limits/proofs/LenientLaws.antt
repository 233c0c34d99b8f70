-- What can be loaded of a folder, file after file.
use Rattle.std.proofs.Common.{◌≡◌, ℕ, Bool, List, [], ◌∷◌, ◌++◌, ◌≢◌, subst, sym}
use Rattle.std.specs.Prelude.{Result, Ok, Err, IfErr}
use Rattle.syntect_grammar_limits.specs.syntect_base.Ahead.{Ahead}
use Rattle.syntect_grammar_limits.specs.syntect_base.Trees.{Answer}
use Rattle.syntect_grammar_limits.specs.syntect_base.Walks.{IsWalkSoFar, GivesFile, GivesNone, RefusesFile, RefusesWalk, no_memory}
use Rattle.syntect_grammar_limits.proofs.syntect_base_proofs.WalkLaws as walks
use Rattle.syntect_grammar_limits.specs.syntect_base.declared.loading.LoadingError.{LoadingError}
use Rattle.syntect_grammar_limits.specs.syntect_base.declared.utils.Sought.TheVariants.{Grammars}
use Rattle.syntect_grammar_limits.specs.syntect_base.declared.limits.Limits.{Limits}
use Rattle.syntect_grammar_limits.specs.syntect_base.declared.loading.LoadingError.TheVariants.{Memory}
use Rattle.syntect_grammar.specs.declared.syntax_set.SyntaxSetBuilder.{SyntaxSetBuilder}
use Rattle.syntect_grammar_limits.specs.syntect_grammar_loader.LoadingSteps.{KeepsAtoms}
use Rattle.syntect_grammar_limits.specs.FoldersWithin.{AddsWithin, StopsWithin}
use Rattle.syntect_grammar_limits.specs.WhatLoads.{AddsWhatLoads, no_more, added, passed_over, AddsOfFolder, RefusesOfFolder}
use Rattle.syntect_grammar_limits.specs.declared.folder_error.FolderWithinError.TheVariants.{Refused}
use Rattle.syntect_grammar_limits.specs.declared.lenient.PassedOver.{PassedOver}

module _ (Told : Answer → Type 0) (limits : Limits) (newlines : Bool) where
  -- one file more is added
  one_added : {room less rest : ℕ} {paths old left new : List (List ℕ)} {builder some all : SyntaxSetBuilder} {passed : List PassedOver} (path : List ℕ)
      → AddsWhatLoads Told limits newlines room paths old builder passed less left some
      → AddsWithin Told limits newlines less (path ∷ []) left some rest new all → AddsWhatLoads Told limits newlines room (paths ++ path ∷ []) old builder passed rest new all
  one_added path no_more last = added last no_more
  one_added path (added a more) last = added a (one_added path more last)
  one_added path (passed_over s n k more) last = passed_over s n k (one_added path more last)

  -- one file more is passed over
  one_passed : {room rest : ℕ} {paths old left new : List (List ℕ)} {builder all : SyntaxSetBuilder} {passed : List PassedOver} (p : PassedOver)
      → AddsWhatLoads Told limits newlines room paths old builder passed rest left all
      → StopsWithin Told limits newlines p.path left rest p.why → p.why ≢ Refused Memory → KeepsAtoms left new
      → AddsWhatLoads Told limits newlines room (paths ++ p.path ∷ []) old builder (passed ++ p ∷ []) rest new all
  one_passed p no_more s n k = passed_over s n k no_more
  one_passed p (added a more) s n k = added a (one_passed p more s n k)
  one_passed p (passed_over t m j more) s n k = passed_over t m j (one_passed p more s n k)

module _ (Told : Answer → Type 0) (limits : Limits) (newlines : Bool) (folder : List ℕ) (old : List (List ℕ)) (builder : SyntaxSetBuilder) where
  -- of the files that a walk has found so far, those that can be are added, and these were passed over
  abbrev pub AddedOf : Ahead → List PassedOver → ℕ → List (List ℕ) → SyntaxSetBuilder → Type 0
  AddedOf ahead passed rest new all = (found : List (List ℕ)) × IsWalkSoFar Told Grammars folder found ahead × AddsWhatLoads Told limits newlines limits.folder found old builder passed rest new all

  pub none_added : (ahead : Ahead) (passed : List PassedOver) → IsWalkSoFar Told Grammars folder [] ahead → passed ≡ [] → AddedOf ahead passed limits.folder old builder
  none_added ahead passed walk none = ([], walk, subst (λ (ps : List PassedOver). AddsWhatLoads Told limits newlines limits.folder [] old builder ps limits.folder old builder) (sym none) no_more)

  pub file_added : (before after : Ahead) (passed : List PassedOver) (path text : List ℕ) (less rest : ℕ) (left new : List (List ℕ)) (some all : SyntaxSetBuilder) → AddedOf before passed less left some → GivesFile Told before after path → text ≡ path
      → AddsWithin Told limits newlines less (text ∷ []) left some rest new all → AddedOf after passed rest new all
  file_added before after passed path text less rest left new some all a gives same one =
      let one_file : AddsWithin Told limits newlines less (path ∷ []) left some rest new all = subst (λ (p : List ℕ). AddsWithin Told limits newlines less (p ∷ []) left some rest new all) same one in
      (a.0 ++ path ∷ [], walks.one_more Told Grammars folder a.0 before a.1 after path gives, one_added Told limits newlines path a.2 one_file)

  pub file_passed : (before after : Ahead) (passed : List PassedOver) (p : PassedOver) (text : List ℕ) (rest : ℕ) (left new : List (List ℕ)) (some all : SyntaxSetBuilder) → AddedOf before passed rest left some → GivesFile Told before after p.path → text ≡ p.path
      → StopsWithin Told limits newlines text left rest p.why → p.why ≢ Refused Memory → KeepsAtoms left new → all ≡ some → AddedOf after (passed ++ p ∷ []) rest new all
  file_passed before after passed p text rest left new some all a gives same stops other kept stays =
      let stops_there : StopsWithin Told limits newlines p.path left rest p.why = subst (λ (t : List ℕ). StopsWithin Told limits newlines t left rest p.why) same stops in
      subst (λ (b : SyntaxSetBuilder). AddedOf after (passed ++ p ∷ []) rest new b) (sym stays)
      (a.0 ++ p.path ∷ [], walks.one_more Told Grammars folder a.0 before a.1 after p.path gives, one_passed Told limits newlines p a.2 stops_there other kept)

  pub one_more_passed : (ahead : Ahead) (passed more : List PassedOver) (rest : ℕ) (new : List (List ℕ)) (all : SyntaxSetBuilder) → more ≡ passed → AddedOf ahead passed rest new all → AddedOf ahead more rest new all
  one_more_passed ahead passed more rest new all same a = subst (λ (ps : List PassedOver). AddedOf ahead ps rest new all) (sym same) a

  pub whole_folder : (ahead : Ahead) (passed : List PassedOver) (rest : ℕ) (new : List (List ℕ)) (all : SyntaxSetBuilder) → AddedOf ahead passed rest new all → GivesNone Told ahead → AddsOfFolder Told limits newlines folder old builder passed new all
  whole_folder ahead passed rest new all a none = record { files = a.0; walk = walks.all_found Told Grammars folder a.0 ahead a.1 none; rest = rest; adds = a.2 }

  -- the walk is refused
  pub breaks_off : (ahead : Ahead) (passed : List PassedOver) (rest : ℕ) (new : List (List ℕ)) (all : SyntaxSetBuilder) (e : LoadingError) → AddedOf ahead passed rest new all → RefusesFile Told ahead e
      → RefusesOfFolder Told limits newlines folder old builder e new all
  breaks_off ahead passed rest new all e a fault =
      record { files = a.0; refuses = walks.breaks_off Told Grammars folder a.0 ahead a.1 e fault; passed = passed; rest = rest; left = new; adds = a.2; kept = λ before b. b }

  pub not_begun : (e : LoadingError) → RefusesWalk Told Grammars folder [] e → RefusesOfFolder Told limits newlines folder old builder e old builder
  not_begun e fault = record { files = []; refuses = fault; passed = []; rest = limits.folder; left = old; adds = no_more; kept = λ before b. b }

  -- there is no memory for a file, or to tell that it was passed over
  pub no_memory_left : (ahead : Ahead) (passed : List PassedOver) (rest : ℕ) (left new : List (List ℕ)) (some all : SyntaxSetBuilder) → AddedOf ahead passed rest left some → KeepsAtoms left new → all ≡ some
      → RefusesOfFolder Told limits newlines folder old builder Memory new all
  no_memory_left ahead passed rest left new some all a kept stays =
      record {
        files = a.0;
        refuses = no_memory (walks.so_far Told Grammars folder a.0 ahead a.1);
        passed = passed;
        rest = rest;
        left = left;
        adds = subst (λ (b : SyntaxSetBuilder). AddsWhatLoads Told limits newlines limits.folder a.0 old builder passed rest left b) (sym stays) a.2;
        kept = kept;
      }

  pub no_memory_told : {A : Type 0} (r : Result A LoadingError) → IfErr r (λ e. e ≡ Memory) → (ahead : Ahead) (passed : List PassedOver) (rest : ℕ) (left new : List (List ℕ)) (some all : SyntaxSetBuilder) → AddedOf ahead passed rest left some → KeepsAtoms left new → all ≡ some
      → IfErr r (λ e. RefusesOfFolder Told limits newlines folder old builder e new all)
  no_memory_told (Ok x) m ahead passed rest left new some all a kept stays = tt
  no_memory_told (Err e) m ahead passed rest left new some all a kept stays =
      subst (λ (x : LoadingError). RefusesOfFolder Told limits newlines folder old builder x new all) (sym m) (no_memory_left ahead passed rest left new some all a kept stays)
