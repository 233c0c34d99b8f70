-- What of a folder can be loaded is gathered, and the rest is told. `Told` is what calls on the
-- tree told.
use Rattle.std.specs.Prelude.{◌≡◌, ◌≢◌, ◌+◌, ℕ, true, List, [], ◌∷◌, length, take, is_some, unwrap_or}
use Rattle.std.specs.BTreeMap.{insert_entry}
use Rattle.std.specs.Cmp.Lexicographic.{slice_cmp}
use Rattle.std.specs.List.{filter}
use Rattle.std.specs.Ordering.{nat_cmp}
use Rattle.std.specs.Path.{path_file_stem}
use Rattle.syntect_assets.specs.syntect_base.Trees.{Answer, has_bytes}
use Rattle.syntect_assets.specs.syntect_base.Walks.{IsWalk, RefusesWalk}
use Rattle.syntect_assets.specs.syntect_base.declared.loading.LoadingError.{LoadingError}
use Rattle.syntect_assets.specs.syntect_base.declared.loading.LoadingError.TheVariants.{Memory}
use Rattle.syntect_assets.specs.syntect_base.declared.utils.Sought.TheVariants.{Themes}
use Rattle.syntect_assets.specs.syntect_grammar_limits.WhatLoads.{AddsOfFolder, RefusesOfFolder}
use Rattle.syntect_assets.specs.syntect_grammar_limits.declared.lenient.PassedOver.{PassedOver}
use Rattle.syntect_assets.specs.syntect_theme.declared.theme.Theme.{Theme}
use Rattle.syntect_assets.specs.syntect_theme_files.ThemeFiles.{IsThemeFault, IsThemeOf, theme_name}
use Rattle.syntect_assets.specs.Refusals.{TellsLoading}
use Rattle.syntect_assets.specs.declared.builder.AssetsBuilder.{AssetsBuilder}
use Rattle.syntect_assets.specs.declared.error.AssetsError.{AssetsError}
use Rattle.syntect_assets.specs.declared.error.AssetsError.TheVariants as refusal

-- ---- themes ----

-- the theme files among these, by their extension
abbrev pub theme_paths : List (List ℕ) → List (List ℕ)
theme_paths files = filter (λ path. is_some (theme_name path)) files

-- the name of a file without its extension
abbrev pub stem_of : List ℕ → List ℕ
stem_of path = unwrap_or (path_file_stem path) []

-- a theme file that was passed over, by its path, and why
abbrev pub FaultyTheme : Type 0
FaultyTheme = List ℕ × LoadingError

-- The theme of each of these files goes into a table by its name, one after another, in place of
-- that of the same name, and is that of the bytes that were read of its file; or the file gives
-- none, for another cause than lack of memory, and is passed over.
pub data AddsThemesThatLoad (Told : Answer → Type 0) : List (List ℕ) → List (List ℕ)
    → List (List ℕ × Theme) → List FaultyTheme → List (List ℕ) → List (List ℕ × Theme)
    → Type 0 where
  no_more : {repo : List (List ℕ)} {themes : List (List ℕ × Theme)}
      → AddsThemesThatLoad Told [] repo themes [] repo themes
  theme_added : {path bytes : List ℕ} {paths old left new : List (List ℕ)}
      {themes all : List (List ℕ × Theme)} {one : Theme} {faulty : List FaultyTheme}
      → Told (has_bytes path bytes) → IsThemeOf old bytes left one
      → AddsThemesThatLoad Told paths left
      (insert_entry (slice_cmp nat_cmp) themes (stem_of path) one) faulty new all
      → AddsThemesThatLoad Told (path ∷ paths) old themes faulty new all
  theme_passed : {path : List ℕ} {e : LoadingError} {paths old left new : List (List ℕ)}
      {themes all : List (List ℕ × Theme)} {faulty : List FaultyTheme}
      → IsThemeFault Told path e → e ≢ Memory → take (length old) left ≡ old
      → AddsThemesThatLoad Told paths left themes faulty new all
      → AddsThemesThatLoad Told (path ∷ paths) old themes ((path, e) ∷ faulty) new all

-- the themes in a folder and in those below it that can be loaded are added, in the order of a
-- walk, and these were passed over
pub record AddsThemesOfFolder (Told : Answer → Type 0) (folder : List ℕ)
    (old : List (List ℕ)) (themes : List (List ℕ × Theme)) (faulty : List FaultyTheme)
    (new : List (List ℕ)) (all : List (List ℕ × Theme)) : Type 0 where
  pub found : List (List ℕ)
  pub walk : IsWalk Told Themes folder found
  pub adds : AddsThemesThatLoad Told (theme_paths found) old themes faulty new all

-- ---- folders ----

-- What of a folder can be loaded is added, its grammars and metadata and then its themes, each of
-- the two by a walk; and so many files were passed over.
pub record AddsLoading (Told : Answer → Type 0) (folder : List ℕ) (old new : AssetsBuilder)
    (count : ℕ) : Type 0 where
  pub passed : List PassedOver
  pub faulty : List FaultyTheme
  pub middle : List (List ℕ)
  pub grammars : AddsOfFolder Told old.limits true folder old.repository old.grammars passed
      middle new.grammars
  pub themes : AddsThemesOfFolder Told folder middle old.themes.themes faulty
      new.repository new.themes.themes
  pub limits : new.limits ≡ old.limits
  pub counted : count ≡ length passed + length faulty

-- the folder can't be walked through for its themes, and that is told
abbrev pub HasNoThemes : (Told : Answer → Type 0) → List ℕ → AssetsError → Type 0
HasNoThemes Told folder r =
    (found : List (List ℕ)) × (e : LoadingError)
    × RefusesWalk Told Themes folder found e × TellsLoading e r

-- Why not all of a folder was looked at, and what is added then: a fault breaks off the walk for its
-- grammars and metadata, and those before it are added that can be loaded; or all of these, and the
-- walk for its themes is broken off. The fault is told; and memory may run out.
pub data StopsLoading (Told : Answer → Type 0) (folder : List ℕ) (old new : AssetsBuilder)
    : AssetsError → Type 0 where
  at_grammars : {e : LoadingError} {r : AssetsError}
      → RefusesOfFolder Told old.limits true folder old.repository old.grammars e
      new.repository new.grammars
      → new.themes ≡ old.themes → new.limits ≡ old.limits
      → TellsLoading e r → StopsLoading Told folder old new r
  at_themes : {passed : List PassedOver} {r : AssetsError}
      → AddsOfFolder Told old.limits true folder old.repository old.grammars passed
      new.repository new.grammars
      → new.themes ≡ old.themes → new.limits ≡ old.limits
      → HasNoThemes Told folder r → StopsLoading Told folder old new r
  no_memory : StopsLoading Told folder old new refusal.Memory

-- ---- For proofs and private functions alone ----

-- the grammars and metadata of a folder that can be loaded are added, for lines with newlines and
-- within the limits of the builder, and these were passed over
pub record AddsGrammarsThatLoad (Told : Answer → Type 0) (folder : List ℕ)
    (old new : AssetsBuilder) (passed : List PassedOver) : Type 0 where
  pub grammars : AddsOfFolder Told old.limits true folder old.repository old.grammars passed
      new.repository new.grammars
  pub same_themes : new.themes ≡ old.themes
  pub same_limits : new.limits ≡ old.limits
