-- Themes from bytes and from files.
use Rattle.std.specs.Prelude.{◌≡◌, ◌≢◌, ℕ, List, [], ◌∷◌, codes, if◌then◌else◌, true, Option, Some, None, option_and_then, is_some, IfSome, slice_get, take, Err}
use Rattle.std.specs.Path.{path_extension, path_file_stem}
use Rattle.std.specs.BTreeMap.{insert_entry}
use Rattle.std.specs.Cmp.Lexicographic.{slice_cmp}
use Rattle.std.specs.Ordering.{nat_cmp}
use Rattle.std.specs.Str.{str_eq_ignore_ascii_case}
use Rattle.std.specs.IoError.{error_kind}
use Rattle.std.specs.declared.io.Error.{Error}
use Rattle.std.specs.declared.io.ErrorKind.TheVariants.{OutOfMemory}
use Rattle.serde_json.specs.Data.{Data}
use Rattle.syntect_theme_files.specs.syntect_base.Settings.{IsSettings}
use Rattle.syntect_theme_files.specs.syntect_base.Trees.{Answer, has_bytes, not_read as unread}
use Rattle.syntect_theme_files.specs.syntect_base.Walks.{IsWalk, RefusesWalk}
use Rattle.syntect_theme_files.specs.syntect_base.declared.loading.LoadingError.{LoadingError}
use Rattle.syntect_theme_files.specs.syntect_base.declared.loading.LoadingError.TheVariants.{Io, ParseTheme, ReadSettings, Memory}
use Rattle.syntect_theme_files.specs.syntect_base.declared.loading.SettingsError.TheVariants.{Json}
use Rattle.syntect_theme_files.specs.syntect_base.declared.theme.ParseThemeError.{ParseThemeError}
use Rattle.syntect_theme_files.specs.syntect_base.declared.utils.Sought.TheVariants.{Themes}
use Rattle.syntect_theme_files.specs.Loading.{IsTheme, head_at}
use Rattle.syntect_theme.specs.declared.theme.Theme.{Theme}

-- ---- bytes ----

-- a theme of bytes, read with a repository that becomes another one
pub record IsThemeOf (old : List (List ℕ)) (bytes : List ℕ) (new : List (List ℕ))
    (theme : Theme) : Type 0 where
  pub value : Data
  pub settings : IsSettings bytes value
  pub is_theme : IsTheme old value new theme

-- why bytes give no theme: they are no settings, or what stands round the rules of their settings
-- is no theme's; or there was no memory
pub data RefusesTheme (bytes : List ℕ) : LoadingError → Type 0 where
  no_settings : ((d : Data) → ¬ (IsSettings bytes d)) → RefusesTheme bytes (ReadSettings Json)
  no_theme : {d : Data} {e : ParseThemeError} → IsSettings bytes d → head_at d ≡ Err e
      → RefusesTheme bytes (ParseTheme e)
  no_memory : RefusesTheme bytes Memory

-- why what a reader has left, where that is known, gives no theme: reading has a fault, which is
-- not that memory ran out, or the bytes give none
pub data RefusesRead (left : Option (List ℕ)) : LoadingError → Type 0 where
  not_read : {e : Error} → error_kind e ≢ OutOfMemory → RefusesRead left (Io e)
  refused : {bytes : List ℕ} {e : LoadingError} → IfSome left (λ xs. bytes ≡ xs)
      → RefusesTheme bytes e → RefusesRead left e

-- ---- files ----

-- Why a file gives no theme, by what calls on its tree told: it was not read, for a fault that is
-- not that memory ran out; or the bytes that were read give none; or there was no memory.
pub data IsThemeFault (Told : Answer → Type 0) (path : List ℕ) : LoadingError → Type 0 where
  file_unread : {e : Error} → Told (unread path e) → error_kind e ≢ OutOfMemory
      → IsThemeFault Told path (Io e)
  file_refused : {bytes : List ℕ} {e : LoadingError} → Told (has_bytes path bytes)
      → RefusesTheme bytes e → IsThemeFault Told path e
  file_no_room : IsThemeFault Told path Memory

-- the name of the theme in a file: the file's name without its extension, which is `tmTheme` in any
-- ASCII case
abbrev pub theme_name : List ℕ → Option (List ℕ)
theme_name path =
    option_and_then (λ extension. if str_eq_ignore_ascii_case extension (codes "tmTheme")
    then path_file_stem path else None) (path_extension path)

-- Themes of files, one after another, go into a table by their names, in place of those of the same
-- name, and other files are passed over. Each theme is that of the bytes that were read of its
-- file.
pub data AddsThemes (Told : Answer → Type 0) : List (List ℕ) → List (List ℕ)
    → List (List ℕ × Theme) → List (List ℕ) → List (List ℕ × Theme) → Type 0 where
  no_more : {repo : List (List ℕ)} {themes : List (List ℕ × Theme)}
      → AddsThemes Told [] repo themes repo themes
  other : {path : List ℕ} {paths old new : List (List ℕ)} {themes all : List (List ℕ × Theme)}
      → theme_name path ≡ None
      → AddsThemes Told paths old themes new all → AddsThemes Told (path ∷ paths) old themes new all
  theme : {path name bytes : List ℕ} {paths old left new : List (List ℕ)}
      {themes all : List (List ℕ × Theme)} {one : Theme} → theme_name path ≡ Some name
      → Told (has_bytes path bytes) → IsThemeOf old bytes left one
      → AddsThemes Told paths left (insert_entry (slice_cmp nat_cmp) themes name one) new all
      → AddsThemes Told (path ∷ paths) old themes new all

-- The themes of these files are added up to one, which gives no theme, for this cause.
pub record StopsAtTheme (Told : Answer → Type 0) (files : List (List ℕ)) (old : List (List ℕ))
    (themes : List (List ℕ × Theme)) (e : LoadingError) (all : List (List ℕ × Theme)) : Type 0 where
  pub place : ℕ
  pub path : List ℕ
  pub left : List (List ℕ)
  pub before : AddsThemes Told (take place files) old themes left all
  pub there : slice_get files place ≡ Some path
  pub is_theme : is_some (theme_name path) ≡ true
  pub refuses : IsThemeFault Told path e

-- Why the themes of a folder are not added, and what is added then: nothing where the walk has a
-- fault, which leaves the repository too; or those before a file that gives no theme.
pub data RefusesThemes (Told : Answer → Type 0) (folder : List ℕ) (old : List (List ℕ))
    (themes : List (List ℕ × Theme)) : LoadingError → List (List ℕ) → List (List ℕ × Theme)
    → Type 0 where
  no_walk : {e : LoadingError} {found : List (List ℕ)} → RefusesWalk Told Themes folder found e
      → RefusesThemes Told folder old themes e old themes
  stopped : {e : LoadingError} {files new : List (List ℕ)} {all : List (List ℕ × Theme)}
      → IsWalk Told Themes folder files → StopsAtTheme Told files old themes e all
      → RefusesThemes Told folder old themes e new all
