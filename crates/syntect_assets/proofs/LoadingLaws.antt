-- Folders that are gathered: what is added, and what is told.
use Rattle.std.proofs.Common.{◌≡◌, ◌≢◌, ℕ, suc, ◌+◌, ◌<◌, ◌≤◌, true, List, [], ◌∷◌, ◌++◌, length, length-append, take, map, get_or, sym, ap, ◌∙◌, subst, arith}
use Rattle.std.proofs.Math.Seq.{take-suc}
use Rattle.std.proofs.lemmas.List.{take_all, map-append}
use Rattle.std.specs.BTreeMap.{insert_entry}
use Rattle.std.specs.Cmp.Lexicographic.{slice_cmp}
use Rattle.std.specs.Ordering.{nat_cmp}
use Rattle.std.specs.Prelude.{IfOk, Result, Ok, Err}
use Rattle.syntect_assets.specs.syntect_base.Trees.{Answer, has_bytes}
use Rattle.syntect_assets.specs.syntect_base.Walks.{IsWalk, no_memory_yet}
use Rattle.syntect_assets.specs.syntect_base.declared.loading.LoadingError.{LoadingError}
use Rattle.syntect_assets.specs.syntect_base.declared.loading.LoadingError.TheVariants as loading
use Rattle.syntect_assets.specs.syntect_base.declared.utils.Sought.TheVariants.{Themes}
use Rattle.syntect_assets.specs.syntect_grammar_limits.FoldersWithin.{AddsFolderWithin, RefusesFolderWithin}
use Rattle.syntect_assets.specs.syntect_grammar_limits.WhatLoads.{AddsOfFolder, RefusesOfFolder}
use Rattle.syntect_assets.specs.syntect_grammar_limits.declared.lenient.PassedOver.{PassedOver}
use Rattle.syntect_assets.specs.syntect_grammar_limits.declared.folder_error.FolderWithinError.{FolderWithinError}
use Rattle.syntect_assets.specs.syntect_grammar_limits.declared.folder_error.FolderWithinError.TheVariants.{Refused}
use Rattle.syntect_assets.specs.syntect_theme.declared.theme.Theme.{Theme}
use Rattle.syntect_assets.specs.syntect_theme_files.ThemeFiles.{IsThemeFault, IsThemeOf, RefusesThemes}
use Rattle.syntect_assets.specs.syntect_grammar.declared.syntax_set.SyntaxSetBuilder.{SyntaxSetBuilder}
use Rattle.syntect_assets.specs.Gathered as gathered
use Rattle.syntect_assets.specs.Gathered.{StopsAll}
use Rattle.syntect_assets.specs.Refusals.{TellsGrammars, TellsLoading}
use Rattle.syntect_assets.specs.WhatLoads.{AddsThemesThatLoad, AddsThemesOfFolder, FaultyTheme, HasNoThemes, StopsLoading, at_grammars, at_themes, no_memory, no_more, theme_added, theme_passed, theme_paths, stem_of}
use Rattle.syntect_assets.specs.declared.builder.AssetsBuilder.{AssetsBuilder}
use Rattle.syntect_assets.specs.declared.error.AssetsError.{AssetsError}
use Rattle.syntect_assets.specs.declared.error.AssetsError.TheVariants as refusal

module _ (Told : Answer → Type 0) where
  -- ---- one theme more ----

  themes_more : {paths old left new : List (List ℕ)} {themes some all : List (List ℕ × Theme)} {faulty more : List FaultyTheme} (path : List ℕ) → AddsThemesThatLoad Told paths old themes faulty left some
      → AddsThemesThatLoad Told (path ∷ []) left some more new all → AddsThemesThatLoad Told (paths ++ path ∷ []) old themes (faulty ++ more) new all
  themes_more path no_more last = last
  themes_more path (theme_added h t rest) last = theme_added h t (themes_more path rest last)
  themes_more path (theme_passed f n k rest) last = theme_passed f n k (themes_more path rest last)

  -- so many themes of files are looked at, and so many faults told
  pub record AddsSome (paths old : List (List ℕ)) (themes : List (List ℕ × Theme)) (before : ℕ) (new : List (List ℕ)) (all : List (List ℕ × Theme)) (count : ℕ) : Type 0 where
    pub faulty : List FaultyTheme
    pub adds : AddsThemesThatLoad Told paths old themes faulty new all
    pub counted : count ≡ before + length faulty

  pub none_yet : (old : List (List ℕ)) (themes : List (List ℕ × Theme)) (before : ℕ) → AddsSome [] old themes before old themes before
  none_yet old themes before = record { faulty = []; adds = no_more; counted = omega arith }

  module _ {P : Type 0} (f : P → List ℕ) where
    pub one_more : (items : List P) (i : ℕ) (p : P) (old left new : List (List ℕ)) (themes some all : List (List ℕ × Theme)) (before count next : ℕ) → i < length items → p ≡ get_or items i p
        → AddsSome (map f (take i items)) old themes before left some count
        → (faulty : List FaultyTheme) × AddsThemesThatLoad Told (f p ∷ []) left some faulty new all × (next ≡ count + length faulty)
        → AddsSome (map f (take (i + 1) items)) old themes before new all next
    one_more items i p old left new themes some all before count next l at s one =
        let front : take (suc i) items ≡ take i items ++ p ∷ [] = take-suc items i p l ∙ ap (λ (x : P). take i items ++ x ∷ []) (sym at) in
        let mapped : map f (take (suc i) items) ≡ map f (take i items) ++ f p ∷ [] = ap (map f) front ∙ map-append f (take i items) (p ∷ []) in
        let next_is : suc i ≡ i + 1 = omega arith in
        let longer : length (s.faulty ++ one.0) ≡ length s.faulty + length one.0 = omega (arith, length-append s.faulty one.0) in
        record {
          faulty = s.faulty ++ one.0;
          adds = subst (λ (n : ℕ). AddsThemesThatLoad Told (map f (take n items)) old themes (s.faulty ++ one.0) new all) next_is
              (subst (λ (xs : List (List ℕ)). AddsThemesThatLoad Told xs old themes (s.faulty ++ one.0) new all) (sym mapped) (themes_more (f p) s.adds one.1));
          counted = omega (arith, s.counted, one.2, longer);
        }

    pub all_themes : (folder : List ℕ) (found : List (List ℕ)) (paths items : List P) (i : ℕ) (old new : List (List ℕ)) (themes all : List (List ℕ × Theme)) (before count : ℕ) → IsWalk Told Themes folder found
        → map f paths ≡ theme_paths found → items ≡ paths → length items ≤ i → AddsSome (map f (take i items)) old themes before new all count
        → (faulty : List FaultyTheme) × AddsThemesOfFolder Told folder old themes faulty new all × (count ≡ before + length faulty)
    all_themes folder found paths items i old new themes all before count w m e l s =
        let whole : map f (take i items) ≡ theme_paths found = ap (map f) (take_all i items l ∙ e) ∙ m in (
          s.faulty,
          record { found = found; walk = w; adds = subst (λ (xs : List (List ℕ)). AddsThemesThatLoad Told xs old themes s.faulty new all) whole s.adds },
          s.counted,
        )

  -- the theme of a file
  pub is_added : (path text key bytes : List ℕ) (old new : List (List ℕ)) (themes all : List (List ℕ × Theme)) (one : Theme) (count : ℕ) → text ≡ path → Told (has_bytes text bytes) → IsThemeOf old bytes new one → key ≡ stem_of path
      → all ≡ insert_entry (slice_cmp nat_cmp) themes key one
      → (faulty : List FaultyTheme) × AddsThemesThatLoad Told (path ∷ []) old themes faulty new all × (count ≡ count + length faulty)
  is_added path text key bytes old new themes all one count same told t k e =
      let read : Told (has_bytes path bytes) = subst (λ (p : List ℕ). Told (has_bytes p bytes)) same told in
      let w : all ≡ insert_entry (slice_cmp nat_cmp) themes (stem_of path) one = e ∙ ap (λ (x : List ℕ). insert_entry (slice_cmp nat_cmp) themes x one) k in
      ([], subst (λ (xs : List (List ℕ × Theme)). AddsThemesThatLoad Told (path ∷ []) old themes [] new xs) (sym w) (theme_added read t no_more), omega arith)

  -- a file that gives none
  pub is_passed : (path text : List ℕ) (old left : List (List ℕ)) (themes : List (List ℕ × Theme)) (e : LoadingError) (before count : ℕ) → text ≡ path → IsThemeFault Told text e → e ≢ loading.Memory → take (length old) left ≡ old → count ≡ before + 1
      → (faulty : List FaultyTheme) × AddsThemesThatLoad Told (path ∷ []) old themes faulty left themes × (count ≡ before + length faulty)
  is_passed path text old left themes e before count same f n k c =
      let fault : IsThemeFault Told path e = subst (λ (p : List ℕ). IsThemeFault Told p e) same f in
      ((path, e) ∷ [], theme_passed fault n k no_more, omega (arith, c))

  -- ---- refusals ----

  -- lack of memory is that of a walk too
  pub no_room : (folder : List ℕ) → HasNoThemes Told folder refusal.Memory
  no_room folder = ([], loading.Memory, no_memory_yet, tt)

  pub no_room_told : (folder : List ℕ) (r : AssetsError) → r ≡ refusal.Memory → HasNoThemes Told folder r
  no_room_told folder r e = subst (HasNoThemes Told folder) (sym e) (no_room folder)

  -- where the themes can't be walked through, the grammars stay
  pub stops_at_themes : (folder : List ℕ) (old middle new : AssetsBuilder) (passed : List PassedOver) (r : AssetsError)
      → AddsOfFolder Told old.limits true folder old.repository old.grammars passed middle.repository middle.grammars
      → middle.themes ≡ old.themes → middle.limits ≡ old.limits
      → HasNoThemes Told folder r → new.grammars ≡ middle.grammars → new.limits ≡ middle.limits → (r ≢ refusal.Memory → (new.repository ≡ middle.repository) × (new.themes ≡ middle.themes))
      → StopsLoading Told folder old new r
  stops_at_themes folder old middle new passed refusal.Memory a t l h g m k = no_memory
  stops_at_themes folder old middle new passed (refusal.NotLoaded told) a t l h g m k =
      let kept : (new.repository ≡ middle.repository) × (new.themes ≡ middle.themes) = k (λ q. cc) in
      let adds : AddsOfFolder Told old.limits true folder old.repository old.grammars passed new.repository new.grammars =
      subst (λ (x : List (List ℕ)). AddsOfFolder Told old.limits true folder old.repository old.grammars passed x new.grammars) (sym kept.0)
      (subst (λ (b : SyntaxSetBuilder). AddsOfFolder Told old.limits true folder old.repository old.grammars passed middle.repository b) (sym g) a) in
      at_themes {passed = passed} adds (kept.1 ∙ t) (m ∙ l) h
  stops_at_themes folder old middle new passed (refusal.UnknownLanguage x y) a t l h g m k = absurd h.3
  stops_at_themes folder old middle new passed (refusal.UnknownTheme x y) a t l h g m k = absurd h.3
  stops_at_themes folder old middle new passed (refusal.NotRead x) a t l h g m k = absurd h.3
  stops_at_themes folder old middle new passed (refusal.NotShown x) a t l h g m k = absurd h.3

-- ---- how refusals are told ----

-- another fault that is told in its place
pub tells_another : {X : Type 0} (e other : LoadingError) (told : Result AssetsError X) → e ≢ loading.Memory → IfOk told (TellsLoading other) → IfOk told (TellsLoading e)
tells_another e other (Ok (refusal.NotLoaded x)) n t = n
tells_another e other (Ok refusal.Memory) n t = tt
tells_another e other (Ok (refusal.UnknownLanguage x y)) n t = absurd t
tells_another e other (Ok (refusal.UnknownTheme x y)) n t = absurd t
tells_another e other (Ok (refusal.NotRead x)) n t = absurd t
tells_another e other (Ok (refusal.NotShown x)) n t = absurd t
tells_another e other (Err x) n t = tt

never_memory : (e : LoadingError) → e ≢ loading.Memory → Refused e ≢ Refused loading.Memory
never_memory e n q = n (let same : e ≡ loading.Memory = cc in same)

pub tells_of_grammars : {X : Type 0} (e : LoadingError) (told : Result AssetsError X) → IfOk told (TellsLoading e) → IfOk told (TellsGrammars (Refused e))
tells_of_grammars e (Ok (refusal.NotLoaded x)) t = never_memory e t
tells_of_grammars e (Ok refusal.Memory) t = tt
tells_of_grammars e (Ok (refusal.UnknownLanguage x y)) t = absurd t
tells_of_grammars e (Ok (refusal.UnknownTheme x y)) t = absurd t
tells_of_grammars e (Ok (refusal.NotRead x)) t = absurd t
tells_of_grammars e (Ok (refusal.NotShown x)) t = absurd t
tells_of_grammars e (Err x) t = tt

-- ---- where a folder is left off ----

module _ (Told : Answer → Type 0) (folder : List ℕ) (old new : AssetsBuilder) where
  pub stops_for_memory : (r : AssetsError) → r ≡ refusal.Memory → StopsLoading Told folder old new r
  stops_for_memory r e = subst (StopsLoading Told folder old new) (sym e) no_memory

  pub stops_at_walk : (e : LoadingError) (r : AssetsError) → RefusesOfFolder Told old.limits true folder old.repository old.grammars e new.repository new.grammars → new.themes ≡ old.themes → new.limits ≡ old.limits → TellsLoading e r
      → StopsLoading Told folder old new r
  stops_at_walk e r f t l told = at_grammars {e = e} f t l told

  pub all_for_memory : (r : AssetsError) → r ≡ refusal.Memory → StopsAll Told folder old new r
  all_for_memory r e = subst (StopsAll Told folder old new) (sym e) gathered.no_memory

  pub all_at_grammars : (e : FolderWithinError) (r : AssetsError) → RefusesFolderWithin Told old.limits true folder old.repository old.grammars e new.repository new.grammars → new.themes ≡ old.themes → new.limits ≡ old.limits → TellsGrammars e r
      → StopsAll Told folder old new r
  all_at_grammars e r f t l told = gathered.at_grammars {e = e} f t l told

  pub all_at_themes : (e : LoadingError) (r : AssetsError) (middle : List (List ℕ)) → AddsFolderWithin Told old.limits true folder old.repository old.grammars middle new.grammars
      → RefusesThemes Told folder middle old.themes.themes e new.repository new.themes.themes → new.limits ≡ old.limits → TellsLoading e r → StopsAll Told folder old new r
  all_at_themes e r middle g f l told = gathered.at_themes {e = e} {middle = middle} g f l told
