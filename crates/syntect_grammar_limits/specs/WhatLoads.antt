-- What of a folder can be loaded is added, and the rest is told.
use Rattle.std.specs.Prelude.{◌≢◌, ℕ, Bool, List, [], ◌∷◌}
use Rattle.syntect_grammar_limits.specs.syntect_base.Trees.{Answer}
use Rattle.syntect_grammar_limits.specs.syntect_base.Walks.{IsWalk, RefusesWalk}
use Rattle.syntect_grammar_limits.specs.syntect_base.declared.utils.Sought.TheVariants.{Grammars}
use Rattle.syntect_grammar_limits.specs.syntect_base.declared.limits.Limits.{Limits}
use Rattle.syntect_grammar_limits.specs.syntect_base.declared.loading.LoadingError.{LoadingError}
use Rattle.syntect_grammar_limits.specs.syntect_base.declared.loading.LoadingError.TheVariants.{Memory}
use Rattle.syntect_grammar.specs.declared.syntax_set.SyntaxSetBuilder.{SyntaxSetBuilder}
use Rattle.syntect_grammar_limits.specs.syntect_grammar_loader.LoadingSteps.{KeepsAtoms}
use Rattle.syntect_grammar_limits.specs.FoldersWithin.{AddsWithin, StopsWithin}
use Rattle.syntect_grammar_limits.specs.declared.folder_error.FolderWithinError.TheVariants.{Refused}
use Rattle.syntect_grammar_limits.specs.declared.lenient.PassedOver.{PassedOver}

-- Each of these files is added to a builder, one after another, as `AddsWithin` adds a file; or it
-- is passed over, with the reason for which that would have stopped at it, which isn't that memory
-- ran out. The bytes of a grammar that is passed over count for no other one.
pub data AddsWhatLoads (Told : Answer → Type 0) (limits : Limits) (newlines : Bool) : ℕ
    → List (List ℕ) → List (List ℕ)
    → SyntaxSetBuilder → List PassedOver → ℕ → List (List ℕ) → SyntaxSetBuilder → Type 0 where
  no_more : {room : ℕ} {repo : List (List ℕ)} {builder : SyntaxSetBuilder}
      → AddsWhatLoads Told limits newlines room [] repo builder [] room repo builder
  added : {room less rest : ℕ} {path : List ℕ} {paths old left new : List (List ℕ)}
      {builder some all : SyntaxSetBuilder} {passed : List PassedOver}
      → AddsWithin Told limits newlines room (path ∷ []) old builder less left some
      → AddsWhatLoads Told limits newlines less paths left some passed rest new all
      → AddsWhatLoads Told limits newlines room (path ∷ paths) old builder passed rest new all
  passed_over : {room rest : ℕ} {p : PassedOver} {paths old left new : List (List ℕ)}
      {builder all : SyntaxSetBuilder} {passed : List PassedOver}
      → StopsWithin Told limits newlines p.path old room p.why → p.why ≢ Refused Memory
      → KeepsAtoms old left
      → AddsWhatLoads Told limits newlines room paths left builder passed rest new all
      → AddsWhatLoads Told limits newlines room (p.path ∷ paths) old builder (p ∷ passed) rest new
      all

-- of the files in a folder and in those below it, in the order of a walk, those that can be loaded
-- are added, and these were passed over
pub record AddsOfFolder (Told : Answer → Type 0) (limits : Limits) (newlines : Bool)
    (folder : List ℕ)
    (old : List (List ℕ)) (builder : SyntaxSetBuilder) (passed : List PassedOver)
    (new : List (List ℕ)) (all : SyntaxSetBuilder) : Type 0 where
  pub files : List (List ℕ)
  pub walk : IsWalk Told Grammars folder files
  pub rest : ℕ
  pub adds : AddsWhatLoads Told limits newlines limits.folder files old builder passed rest new all

-- Why not all of a folder was looked at, and what is added then: of the files before the walk was
-- refused, those that can be loaded. Texts of a file that wasn't added may stay in the repository.
pub record RefusesOfFolder (Told : Answer → Type 0) (limits : Limits) (newlines : Bool)
    (folder : List ℕ)
    (old : List (List ℕ)) (builder : SyntaxSetBuilder) (e : LoadingError)
    (new : List (List ℕ)) (all : SyntaxSetBuilder) : Type 0 where
  pub files : List (List ℕ)
  pub refuses : RefusesWalk Told Grammars folder files e
  pub passed : List PassedOver
  pub rest : ℕ
  pub left : List (List ℕ)
  pub adds : AddsWhatLoads Told limits newlines limits.folder files old builder passed rest left all
  pub kept : KeepsAtoms left new
