-- Themes of bytes and of files.
use Rattle.std.proofs.Common.{◌≡◌, ◌≢◌, ◌<◌, ◌≤◌, ◌+◌, ℕ, zero, suc, List, [], ◌∷◌, ◌++◌, length, take, drop, get_or, sym, refl, ap, ◌∙◌, subst, arith, Option, Some, None, Err}
use Rattle.std.proofs.Math.Seq.{take-suc}
use Rattle.std.specs.BTreeMap.{insert_entry}
use Rattle.std.specs.Cmp.Lexicographic.{slice_cmp}
use Rattle.std.specs.Ordering.{nat_cmp}
use Rattle.std.specs.Prelude.{IfSome, IfOk, OnOk, IsErrAnd, IfErr, Result, Ok, is_some, slice_get, true}
use Rattle.std.proofs.lemmas.List.{take_all, take-append-le, take-append-drop, length-take}
use Rattle.std.proofs.lemmas.Map.Entries.{entries_from_clone}
use Rattle.std.specs.List.{AllZip}
use Rattle.std.specs.declared.io.Error.{Error}
use Rattle.serde_json.specs.Data.{Data}
use Rattle.syntect_theme_files.specs.syntect_base.Settings.{IsSettings}
use Rattle.syntect_theme_files.specs.syntect_base.Trees.{Answer, has_bytes, not_read as unread}
use Rattle.syntect_theme_files.specs.syntect_base.Walks.{IsWalk, RefusesWalk, no_memory_yet}
use Rattle.syntect_theme_files.specs.syntect_base.Refusals.{IsReadFault, from_theme, from_settings}
use Rattle.syntect_theme_files.specs.syntect_base.declared.theme.ParseThemeError.{ParseThemeError}
use Rattle.syntect_theme_files.specs.syntect_base.declared.theme.ParseThemeError.TheVariants as error
use Rattle.syntect_theme_files.specs.syntect_base.declared.loading.SettingsError.{SettingsError}
use Rattle.syntect_theme_files.specs.syntect_base.declared.loading.SettingsError.TheVariants as settings
use Rattle.syntect_theme_files.specs.syntect_base.declared.loading.LoadingError.{LoadingError}
use Rattle.syntect_theme_files.specs.syntect_base.declared.loading.LoadingError.TheVariants as loading
use Rattle.syntect_theme_files.specs.syntect_base.declared.utils.Sought.TheVariants.{Themes}
use Rattle.syntect_theme_files.specs.Loading.{head_at}
use Rattle.syntect_theme_files.proofs.syntect_base_proofs.ReadLaws.{read_fault}
use Rattle.syntect_theme.specs.Refusals.{Refuses}
use Rattle.syntect_theme_files.specs.Refusals.{RefusesExactly}
use Rattle.syntect_theme_files.specs.ThemeFiles.{IsThemeOf, RefusesTheme, RefusesRead, IsThemeFault, theme_name, AddsThemes, StopsAtTheme, RefusesThemes, no_settings, no_theme, not_read, refused, no_memory, file_unread, file_refused, file_no_room, no_more, other, theme, stopped}
use Rattle.syntect_theme.specs.declared.theme.Theme.{Theme}

pub not_settings : (bytes : List ℕ) (e : SettingsError) → (e ≢ settings.Memory → (d : Data) → ¬ (IsSettings bytes d)) → RefusesTheme bytes (from_settings e)
not_settings bytes settings.Memory h = no_memory
not_settings bytes settings.Json h = no_settings (h (λ q. cc))

-- a refusal that is exact
exact_so : {X : Type 0} (answer : Result X ParseThemeError) (e : ParseThemeError) → RefusesExactly answer e → Refuses answer e
exact_so (Ok x) e h n = absurd (n h)
exact_so (Err r) e h n = ap Err (sym h)

theme_refused : (bytes : List ℕ) (d : Data) → IsSettings bytes d → (e : ParseThemeError) → Refuses (head_at d) e → RefusesTheme bytes (from_theme e)
theme_refused bytes d s error.Memory h = no_memory
theme_refused bytes d s error.IncorrectUnderlineOption h = no_theme s (h (λ q. cc))
theme_refused bytes d s (error.IncorrectFontStyle x) h = no_theme s (h (λ q. cc))
theme_refused bytes d s error.IncorrectColor h = no_theme s (h (λ q. cc))
theme_refused bytes d s error.IncorrectSyntax h = no_theme s (h (λ q. cc))
theme_refused bytes d s error.IncorrectSettings h = no_theme s (h (λ q. cc))
theme_refused bytes d s error.UndefinedSettings h = no_theme s (h (λ q. cc))
theme_refused bytes d s (error.UndefinedScopeSettings x) h = no_theme s (h (λ q. cc))
theme_refused bytes d s error.ColorShemeScopeIsNotObject h = no_theme s (h (λ q. cc))
theme_refused bytes d s error.ColorShemeSettingsIsNotObject h = no_theme s (h (λ q. cc))
theme_refused bytes d s (error.ScopeSelectorIsNotString x) h = no_theme s (h (λ q. cc))
theme_refused bytes d s error.DuplicateSettings h = no_theme s (h (λ q. cc))
theme_refused bytes d s (error.ScopeParse x) h = no_theme s (h (λ q. cc))

pub not_theme : (bytes : List ℕ) (d : Data) → IsSettings bytes d → (e : ParseThemeError) → RefusesExactly (head_at d) e → RefusesTheme bytes (from_theme e)
not_theme bytes d s e h = theme_refused bytes d s e (exact_so (head_at d) e h)

-- bytes that a reader may have had
some_bytes : (left : Option (List ℕ)) → (bytes : List ℕ) × IfSome left (λ xs. bytes ≡ xs)
some_bytes None = ([], tt)
some_bytes (Some xs) = (xs, refl)

-- ---- reading ----

-- a fault of reading, told
pub read_so : (left : Option (List ℕ)) (e : Error) (r : LoadingError) → IsReadFault e r → RefusesRead left r
read_so left e r f = let s = some_bytes left in read_fault (RefusesRead left) e (refused s.1 no_memory) (λ k. not_read k) r f

-- a file that is not read gives no theme
module _ (Told : Answer → Type 0) (path text : List ℕ) (same : text ≡ path) where
  pub file_not_read : (e : Error) (r : LoadingError) → Told (unread text e) → IsReadFault e r → IsThemeFault Told path r
  file_not_read e r t f =
      let u : Told (unread path e) = subst (λ (p : List ℕ). Told (unread p e)) same t in
      read_fault (IsThemeFault Told path) e file_no_room (λ k. file_unread {e = e} u k) r f

  module _ (bytes items : List ℕ) (read : bytes ≡ items) (told : Told (has_bytes text items)) where
    has_read : Told (has_bytes path bytes)
    has_read = subst (λ (p : List ℕ). Told (has_bytes p bytes)) same (subst (λ (b : List ℕ). Told (has_bytes text b)) (sym read) told)

    -- what is refused of the bytes that were read, and what is made of them
    pub file_gives_none : {X : Type 0} (result : Result X LoadingError) → IfErr result (RefusesTheme bytes) → IfErr result (IsThemeFault Told path)
    file_gives_none (Ok x) r = tt
    file_gives_none (Err e) r = file_refused has_read r

    pub file_gives : {X : Type 0} (P : List ℕ → X → Type 0) (result : Result X LoadingError) → IfOk result (P bytes) → IfOk result (λ x. (all : List ℕ) × Told (has_bytes path all) × P all x)
    file_gives P (Ok x) r = (bytes, has_read, r)
    file_gives P (Err e) r = tt

-- the bytes that were read are those that were left
pub bytes_read : {X : Type 0} (read : Result X Error) (left : Option (List ℕ)) (bytes items before : List ℕ) → bytes ≡ items → before ≡ [] → OnOk read (IfSome left (λ xs. items ≡ before ++ xs))
    → OnOk read (IfSome left (λ xs. bytes ≡ xs))
bytes_read (Ok x) None bytes items before a b h = tt
bytes_read (Ok x) (Some xs) bytes items before a b h = a ∙ h ∙ ap (λ (l : List ℕ). l ++ xs) b
bytes_read (Err e) left bytes items before a b h = tt

module _ {X Y : Type 0} (left : Option (List ℕ)) (bytes : List ℕ) where
  pub read_refused : (read : Result X Error) (result : Result Y LoadingError) → OnOk read (IfSome left (λ xs. bytes ≡ xs)) → IfErr read (λ fault. IsErrAnd result (IsReadFault fault))
      → OnOk read (IfErr result (RefusesTheme bytes)) → IfErr result (RefusesRead left)
  read_refused (Ok x) (Ok y) o f e = tt
  read_refused (Ok x) (Err r) o f e = refused o e
  read_refused (Err x) (Ok y) o f e = tt
  read_refused (Err x) (Err r) o f e = read_so left x r f

  pub read_whole : (P : List ℕ → Y → Type 0) (read : Result X Error) (result : Result Y LoadingError) → OnOk read (IfSome left (λ xs. bytes ≡ xs)) → IfErr read (λ fault. IsErrAnd result (IsReadFault fault))
      → IfOk result (P bytes) → IfOk result (λ y. (all : List ℕ) × IfSome left (λ xs. all ≡ xs) × P all y)
  read_whole P (Ok x) (Ok y) o f h = (bytes, o, h)
  read_whole P (Ok x) (Err r) o f h = tt
  read_whole P (Err x) (Ok y) o f h = absurd f
  read_whole P (Err x) (Err r) o f h = tt

-- ---- files added ----

held_at : (xs : List (List ℕ)) (i : ℕ) (x : List ℕ) → i < length xs → slice_get xs i ≡ Some (get_or xs i x)
held_at [] i x l = absurd (omega arith)
held_at (y ∷ ys) zero x l = refl
held_at (y ∷ ys) (suc i) x l = held_at ys i x (omega arith)

module _ (Told : Answer → Type 0) where
  adds_more : {paths old left new : List (List ℕ)} {themes some all : List (List ℕ × Theme)} (path : List ℕ) → AddsThemes Told paths old themes left some
      → AddsThemes Told (path ∷ []) left some new all → AddsThemes Told (paths ++ path ∷ []) old themes new all
  adds_more path no_more last = last
  adds_more path (other n rest) last = other n (adds_more path rest last)
  adds_more path (theme n h t rest) last = theme n h t (adds_more path rest last)

  -- one file more
  pub adds_next : (paths : List (List ℕ)) (i : ℕ) (path text : List ℕ) (old left new : List (List ℕ)) (themes some all : List (List ℕ × Theme)) → i < length paths
      → path ≡ get_or paths i path → text ≡ path → AddsThemes Told (take i paths) old themes left some → AddsThemes Told (text ∷ []) left some new all
      → AddsThemes Told (take (i + 1) paths) old themes new all
  adds_next paths i path text old left new themes some all l at same before one =
      let front : take (suc i) paths ≡ take i paths ++ path ∷ [] = take-suc paths i path l ∙ ap (λ p. take i paths ++ p ∷ []) (sym at) in
      let next : suc i ≡ i + 1 = omega arith in
      subst (λ n. AddsThemes Told (take n paths) old themes new all) next
      (subst (λ xs. AddsThemes Told xs old themes new all) (sym front) (adds_more path before (subst (λ p. AddsThemes Told (p ∷ []) left some new all) same one)))

  pub passes_over : (path : List ℕ) (repo : List (List ℕ)) (themes : List (List ℕ × Theme)) → theme_name path ≡ None → AddsThemes Told (path ∷ []) repo themes repo themes
  passes_over path repo themes n = other n no_more

  pub adds_one : (path name key bytes : List ℕ) (old new : List (List ℕ)) (themes all : List (List ℕ × Theme)) (one : Theme) → theme_name path ≡ Some name → Told (has_bytes path bytes) → IsThemeOf old bytes new one
      → key ≡ name → all ≡ insert_entry (slice_cmp nat_cmp) themes key one → AddsThemes Told (path ∷ []) old themes new all
  adds_one path name key bytes old new themes all one n h t k e =
      let w : all ≡ insert_entry (slice_cmp nat_cmp) themes name one = e ∙ ap (λ x. insert_entry (slice_cmp nat_cmp) themes x one) k in
      subst (λ xs. AddsThemes Told (path ∷ []) old themes new xs) (sym w) (theme n h t no_more)

  -- a file that gives no theme stops it
  pub stops_at : (paths : List (List ℕ)) (i : ℕ) (path text : List ℕ) (old left : List (List ℕ)) (themes some all : List (List ℕ × Theme)) (e : LoadingError) → i < length paths
      → path ≡ get_or paths i path → text ≡ path → AddsThemes Told (take i paths) old themes left some → all ≡ some → is_some (theme_name text) ≡ true → IsThemeFault Told text e
      → StopsAtTheme Told paths old themes e all
  stops_at paths i path text old left themes some all e l at same before kept g r = record {
    place = i;
    path = path;
    left = left;
    before = subst (λ (ts : List (List ℕ × Theme)). AddsThemes Told (take i paths) old themes left ts) (sym kept) before;
    there = held_at paths i path l ∙ ap Some (sym at);
    is_theme = ap (λ (p : List ℕ). is_some (theme_name p)) (sym same) ∙ g;
    refuses = subst (λ (p : List ℕ). IsThemeFault Told p e) same r;
  }

  pub refused_in : {A : Type 0} (r : Result A LoadingError) (folder : List ℕ) (files paths : List (List ℕ)) (old new : List (List ℕ)) (themes all : List (List ℕ × Theme)) → IsWalk Told Themes folder files → paths ≡ files
      → IfErr r (λ e. StopsAtTheme Told paths old themes e all) → IfErr r (λ e. RefusesThemes Told folder old themes e new all)
  refused_in (Ok x) folder files paths old new themes all w s h = tt
  refused_in (Err e) folder files paths old new themes all w s h = stopped w (subst (λ (xs : List (List ℕ)). StopsAtTheme Told xs old themes e all) s h)

  pub no_room_for_theme : (path : List ℕ) → IsThemeFault Told path loading.Memory
  no_room_for_theme path = file_no_room

  -- the walk has no memory for what it found
  pub no_room_for_paths : (folder : List ℕ) → (found : List (List ℕ)) × RefusesWalk Told Themes folder found loading.Memory
  no_room_for_paths folder = ([], no_memory_yet)

-- ---- repositories ----

pub keeps_itself : (repo : List (List ℕ)) → take (length repo) repo ≡ repo
keeps_itself repo = take_all (length repo) repo (omega arith)

pub keeps_on : (old left new : List (List ℕ)) → take (length old) left ≡ old → take (length left) new ≡ left → take (length old) new ≡ old
keeps_on old left new e h =
    let n : length old ≤ length left = omega (arith, ap length (sym e), length-take {A = List ℕ} (length old) left) in
    let whole : new ≡ left ++ drop (length left) new = sym (take-append-drop (length left) new) ∙ ap (λ (l : List (List ℕ)). l ++ drop (length left) new) h in
    subst (λ (l : List (List ℕ)). take (length old) l ≡ old) (sym whole) (take-append-le (length old) left (drop (length left) new) n ∙ e)

-- ---- tables ----

pub same_themes : (themes copy : List (List ℕ × Theme)) → AllZip (λ p q. (q.0 ≡ p.0) × (q.1 ≡ p.1)) themes copy → copy ≡ themes
same_themes themes copy h = entries_from_clone (λ x y. y ≡ x) (λ v w. w ≡ v) (λ x y e. e) (λ v w e. e) themes copy h
