-- Walks, entry after entry and file after file.
use Rattle.std.proofs.Common.{◌≡◌, ◌≢◌, ℕ, ◌+◌, ◌-◌, ◌^◌, List, [], ◌∷◌, ◌++◌, ◌⊎◌, inl, inr, length, map, reverse, refl, ap, sym, ◌∙◌, append_assoc, subst, arith}
use Rattle.std.proofs.lemmas.List.{append-nil, length-append, reverse-append, reverse-reverse}
use Rattle.syntect_base.specs.Ahead.{Ahead}
use Rattle.syntect_base.specs.Trees.{Answer, stands}
use Rattle.syntect_base.specs.Walks.{joined, Lists, Unlisted, Entry, files_of, End, whole, left_off, broken, Visits, none_ahead, leaves_off, passes_over, takes, enters, ends_inside, breaks_at, breaks_in, Walks, IsWalk, BeginsWalk, RefusesWalk, no_memory_yet, no_memory, no_names, at_fault, too_many, GivesFile, GivesNone, RefusesFile, no_room, at_entry, none_left, IsWalkSoFar, IsWalkFault}
use Rattle.syntect_base.specs.declared.loading.LoadingError.{LoadingError}
use Rattle.syntect_base.specs.declared.loading.LoadingError.TheVariants.{WalkDir, Io, ParseSyntax, ParseMetadata, ParseTheme, ReadSettings, BadPath, Memory}
use Rattle.syntect_base.specs.declared.tree.Kind.{Kind}
use Rattle.syntect_base.specs.declared.tree.Kind.TheVariants.{File, Folder, Other}
use Rattle.syntect_base.specs.declared.utils.Sought.{Sought}

-- what a walk is refused with
either : (P : LoadingError → Type 0) (e : LoadingError) → P Memory → (e ≢ Memory → e ≡ WalkDir) → (e ≢ Memory → P WalkDir) → P e
either P Memory m k w = m
either P WalkDir m k w = w (λ q. cc)
either P (Io x) m k w = let q : Io x ≡ WalkDir = k (λ q. cc) in cc
either P (ParseSyntax x y) m k w = let q : ParseSyntax x y ≡ WalkDir = k (λ q. cc) in cc
either P ParseMetadata m k w = let q : ParseMetadata ≡ WalkDir = k (λ q. cc) in cc
either P (ParseTheme x) m k w = let q : ParseTheme x ≡ WalkDir = k (λ q. cc) in cc
either P (ReadSettings x) m k w = let q : ReadSettings x ≡ WalkDir = k (λ q. cc) in cc
either P BadPath m k w = let q : BadPath ≡ WalkDir = k (λ q. cc) in cc

-- ---- entries ----

pub files-append : (looked more : List Entry) → files_of (looked ++ more) ≡ files_of looked ++ files_of more
files-append [] more = refl
files-append ((path, File) ∷ looked) more = ap (λ (xs : List (List ℕ)). path ∷ xs) (files-append looked more)
files-append ((path, Folder) ∷ looked) more = files-append looked more
files-append ((path, Other) ∷ looked) more = files-append looked more

-- what is no file adds none
pub no_file_more : (seen : List Entry) (path : List ℕ) (kind : Kind) → files_of seen ≡ [] → kind ≢ File → files_of (seen ++ (path, kind) ∷ []) ≡ []
no_file_more seen path File none other = absurd (other refl)
no_file_more seen path Folder none other = files-append seen ((path, Folder) ∷ []) ∙ ap (λ (xs : List (List ℕ)). xs ++ []) none
no_file_more seen path Other none other = files-append seen ((path, Other) ∷ []) ∙ ap (λ (xs : List (List ℕ)). xs ++ []) none

-- the path that was taken off stands first of what is ahead
pub popped_first : (path : List ℕ) (all before : List (List ℕ)) → all ≡ before ++ path ∷ [] → path ∷ reverse before ≡ reverse all
popped_first path all before popped = sym (ap reverse popped ∙ reverse-append before (path ∷ []))

-- ---- one visit ----

module _ (Told : Answer → Type 0) (sought : Sought) where
  -- what is after a folder's entries is visited after all of them, or not at all
  abbrev Splits : List (List ℕ) → List (List ℕ) → List Entry → End → Type 0
  Splits paths behind rest end =
      ((inner : List Entry) × (looked : List Entry) × Visits Told sought paths inner whole × Visits Told sought behind looked end × (rest ≡ inner ++ looked))
      ⊎ (Visits Told sought paths rest end × (end ≢ whole))

  step : (path : List ℕ) (paths behind : List (List ℕ)) (front rest : List Entry) (end : End)
      → ((looked : List Entry) (e : End) → Visits Told sought paths looked e → Visits Told sought (path ∷ paths) (front ++ looked) e)
      → Splits paths behind rest end → Splits (path ∷ paths) behind (front ++ rest) end
  step path paths behind front rest end on (inl s) =
      inl (front ++ s.0, s.1, on s.0 whole s.2, s.3, ap (λ (xs : List Entry). front ++ xs) s.4 ∙ sym (append_assoc front s.0 s.1))
  step path paths behind front rest end on (inr s) = inr (on rest end s.0, s.1)

  split : (paths behind : List (List ℕ)) (rest : List Entry) (end : End) → Visits Told sought (paths ++ behind) rest end → Splits paths behind rest end
  split [] behind rest end v = inl ([], rest, none_ahead, v, refl)
  split (path ∷ paths) behind rest end leaves_off = inr (leaves_off, λ q. cc)
  split (path ∷ paths) behind rest end (passes_over {looked = looked} t v) =
      step path paths behind ((path, Other) ∷ []) looked end (λ l e w. passes_over t w) (split paths behind looked end v)
  split (path ∷ paths) behind rest end (takes {looked = looked} t v) =
      step path paths behind ((path, File) ∷ []) looked end (λ l e w. takes t w) (split paths behind looked end v)
  split (path ∷ paths) behind rest end (enters {inner = inner} {looked = looked} t n i v) =
      step path paths behind ((path, Folder) ∷ inner) looked end (λ l e w. enters t n i w) (split paths behind looked end v)
  split (path ∷ paths) behind rest end (ends_inside t n i c) = inr (ends_inside t n i c, c)
  split (path ∷ paths) behind rest end (breaks_at t k) = inr (breaks_at t k, λ q. cc)
  split (path ∷ paths) behind rest end (breaks_in t u) = inr (breaks_in t u, λ q. cc)

  close : (folder : List ℕ) (names ahead : List (List ℕ)) (rest : List Entry) (end : End) → Told (stands folder Folder) → Lists Told sought folder names
      → Splits (map (joined folder) names) ahead rest end → Visits Told sought (folder ∷ ahead) ((folder, Folder) ∷ rest) end
  close folder names ahead rest end t n (inl s) =
      subst (λ (xs : List Entry). Visits Told sought (folder ∷ ahead) ((folder, Folder) ∷ xs) end) (sym s.4) (enters t n s.2 s.3)
  close folder names ahead rest end t n (inr s) = ends_inside t n s.0 s.1

  -- the names of a folder were put on what was ahead, the last one first
  turned : (folder : List ℕ) (names before after : List (List ℕ)) → after ≡ before ++ reverse (map (joined folder) names) → reverse after ≡ map (joined folder) names ++ reverse before
  turned folder names before after e =
      ap reverse e ∙ reverse-append before (reverse (map (joined folder) names)) ∙ ap (λ (xs : List (List ℕ)). xs ++ reverse before) (reverse-reverse (map (joined folder) names))

  -- what a visit promises of what is ahead after it
  abbrev pub Visited : List (List ℕ) → List (List ℕ) → List ℕ → Kind → Type 0
  Visited before after path kind =
      (rest : List Entry) (end : End) → Visits Told sought (reverse after) rest end → Visits Told sought (path ∷ reverse before) ((path, kind) ∷ rest) end

  pub after_folder : (folder : List ℕ) (names before after : List (List ℕ)) → Told (stands folder Folder) → Lists Told sought folder names
      → after ≡ before ++ reverse (map (joined folder) names) → Visited before after folder Folder
  after_folder folder names before after t n e rest end v =
      close folder names (reverse before) rest end t n
      (split (map (joined folder) names) (reverse before) rest end (subst (λ (xs : List (List ℕ)). Visits Told sought xs rest end) (turned folder names before after e) v))

  -- the folder itself was listed
  pub begins : (folder : List ℕ) (names before after : List (List ℕ)) → before ≡ [] → Lists Told sought folder names → after ≡ before ++ reverse (map (joined folder) names)
      → (rest : List Entry) (end : End) → Visits Told sought (reverse after) rest end → Walks Told sought folder rest end
  begins folder names before after none n e rest end v =
      let bare : reverse after ≡ map (joined folder) names
      = turned folder names before after e ∙ ap (λ (xs : List (List ℕ)). map (joined folder) names ++ reverse xs) none ∙ append-nil (map (joined folder) names) in
      record { names = names; lists = n; visits = subst (λ (xs : List (List ℕ)). Visits Told sought xs rest end) bare v }

-- ---- a file after another ----

-- what was ahead shows these entries, none of them a file, and then what what is ahead now shows
pub record Passes (Told : Answer → Type 0) (before after : Ahead) : Type 0 where
  pub seen : List Entry
  pub no_file : files_of seen ≡ []
  pub goes_on : (rest : List Entry) (end : End) → Visits Told before.sought after.paths rest end → Visits Told before.sought before.paths (seen ++ rest) end
  pub counted : after.left + length seen ≡ before.left

-- what is ahead of a search for the next file
abbrev pub at : Sought → List (List ℕ) → ℕ → Ahead
at sought paths left = record { sought = sought; paths = reverse paths; left = left }

module _ (Told : Answer → Type 0) (sought : Sought) (first : List (List ℕ)) (most : ℕ) (all popped : List (List ℕ)) (path : List ℕ) (left : ℕ)
    (taken : all ≡ popped ++ path ∷ []) (so_far : Passes Told (at sought first most) (at sought all left)) where
  -- a path more was visited
  on : (new : List (List ℕ)) (kind : Kind) → Visited Told sought popped new path kind → (rest : List Entry) (end : End)
      → Visits Told sought (reverse new) rest end → Visits Told sought (reverse first) (so_far.seen ++ (path, kind) ∷ rest) end
  on new kind visited rest end v =
      so_far.goes_on ((path, kind) ∷ rest) end (subst (λ (xs : List (List ℕ)). Visits Told sought xs ((path, kind) ∷ rest) end) (popped_first path all popped taken) (visited rest end v))

  pub passes_more : (new : List (List ℕ)) (kind : Kind) (less : ℕ) → less + 1 ≡ left → kind ≢ File → Visited Told sought popped new path kind
      → Passes Told (at sought first most) (at sought new less)
  passes_more new kind less fewer other visited = record {
    seen = so_far.seen ++ (path, kind) ∷ [];
    no_file = no_file_more so_far.seen path kind so_far.no_file other;
    goes_on = λ rest end v. subst (λ (xs : List Entry). Visits Told sought (reverse first) xs end) (sym (append_assoc so_far.seen ((path, kind) ∷ []) rest)) (on new kind visited rest end v);
    counted = let n : length (so_far.seen ++ (path, kind) ∷ []) ≡ length so_far.seen + 1 = length-append so_far.seen ((path, kind) ∷ []) in
        let m : left + length so_far.seen ≡ most = so_far.counted in omega arith;
  }

  pub gives_file : (new : List (List ℕ)) (less : ℕ) → less + 1 ≡ left → Visited Told sought popped new path File → GivesFile Told (at sought first most) (at sought new less) path
  gives_file new less fewer visited =
      let m : left + length so_far.seen ≡ most = so_far.counted in record {
        seen = so_far.seen;
        no_file = so_far.no_file;
        first = on new File visited;
        kept = refl;
        counted = omega arith;
        fewer = omega arith;
      }

  pub breaks : (seen : List Entry) → files_of seen ≡ [] → Visits Told sought (path ∷ reverse popped) seen broken → RefusesFile Told (at sought first most) WalkDir
  breaks seen none v =
      at_entry {seen = so_far.seen ++ seen} (files-append so_far.seen seen ∙ ap (λ (xs : List (List ℕ)). xs ++ files_of seen) so_far.no_file ∙ none)
      (so_far.goes_on seen broken (subst (λ (xs : List (List ℕ)). Visits Told sought xs seen broken) (popped_first path all popped taken) v))

  pub refuses : (text : List ℕ) → text ≡ path → (e : LoadingError) → (e ≢ Memory → e ≡ WalkDir)
      → (e ≢ Memory → (seen : List Entry) × (files_of seen ≡ []) × Visits Told sought (text ∷ reverse popped) seen broken) → RefusesFile Told (at sought first most) e
  refuses text same e k h =
      either (RefusesFile Told (at sought first most)) e no_room k (λ n.
      let b = h n in
      breaks b.0 b.1 (subst (λ (p : List ℕ). Visits Told sought (p ∷ reverse popped) b.0 broken) same b.2))

  pub no_more : left ≡ 0 → RefusesFile Told (at sought first most) WalkDir
  no_more none =
      let m : left + length so_far.seen ≡ most = so_far.counted in
      none_left {seen = so_far.seen} so_far.no_file (subst (λ (xs : List Entry). Visits Told sought (reverse first) xs left_off) (append-nil so_far.seen) (so_far.goes_on [] left_off leaves_off)) (omega arith)

-- nothing is ahead any more
pub gives_none : (Told : Answer → Type 0) (sought : Sought) (first all : List (List ℕ)) (most left : ℕ) → all ≡ [] → Passes Told (at sought first most) (at sought all left) → GivesNone Told (at sought first most)
gives_none Told sought first all most left none so_far = record {
  seen = so_far.seen;
  no_file = so_far.no_file;
  all = subst (λ (xs : List Entry). Visits Told sought (reverse first) xs whole) (append-nil so_far.seen)
      (so_far.goes_on [] whole (subst (λ (xs : List (List ℕ)). Visits Told sought (reverse xs) [] whole) (sym none) none_ahead));
}

-- ---- a walk ----

module _ (Told : Answer → Type 0) (sought : Sought) (folder : List ℕ) where
  pub none_found : (ahead : Ahead) → ahead.sought ≡ sought → ahead.left ≡ 2 ^ 64 - 1
      → ((rest : List Entry) (end : End) → Visits Told sought ahead.paths rest end → Walks Told sought folder rest end) → IsWalkSoFar Told sought folder [] ahead
  none_found ahead same most walks = record { looked = []; files = refl; goes_on = walks; same = same; counted = omega arith }

  module _ (found : List (List ℕ)) (before : Ahead) (walk : IsWalkSoFar Told sought folder found before) where
    -- what is found after it
    more : (seen : List Entry) (end : End) → Visits Told before.sought before.paths seen end → Walks Told sought folder (walk.looked ++ seen) end
    more seen end v = walk.goes_on seen end (subst (λ (s : Sought). Visits Told s before.paths seen end) walk.same v)

    same_files : (seen : List Entry) → files_of seen ≡ [] → files_of (walk.looked ++ seen) ≡ found
    same_files seen none = files-append walk.looked seen ∙ ap (λ (xs : List (List ℕ)). files_of walk.looked ++ xs) none ∙ append-nil (files_of walk.looked) ∙ walk.files

    -- one file more
    pub one_more : (after : Ahead) (path : List ℕ) → GivesFile Told before after path → IsWalkSoFar Told sought folder (found ++ path ∷ []) after
    one_more after path gives =
        let new = gives.seen ++ (path, File) ∷ [] in
        let n : length (walk.looked ++ new) ≡ length walk.looked + (length gives.seen + 1) = length-append walk.looked new ∙ ap (λ (k : ℕ). length walk.looked + k) (length-append gives.seen ((path, File) ∷ [])) in
        let c : after.left + (length gives.seen + 1) ≡ before.left = gives.counted in
        let d : before.left + length walk.looked ≡ 2 ^ 64 - 1 = walk.counted in
        record {
          looked = walk.looked ++ new;
          files = files-append walk.looked new ∙ ap (λ (xs : List (List ℕ)). xs ++ files_of new) walk.files
              ∙ ap (λ (xs : List (List ℕ)). found ++ xs) (files-append gives.seen ((path, File) ∷ []) ∙ ap (λ (xs : List (List ℕ)). xs ++ path ∷ []) gives.no_file);
          goes_on = λ rest end v.
              let w : Visits Told before.sought after.paths rest end = subst (λ (s : Sought). Visits Told s after.paths rest end) (sym walk.same) v in
              let e : walk.looked ++ (gives.seen ++ (path, File) ∷ rest) ≡ (walk.looked ++ new) ++ rest
              = ap (λ (xs : List Entry). walk.looked ++ xs) (sym (append_assoc gives.seen ((path, File) ∷ []) rest)) ∙ sym (append_assoc walk.looked new rest) in
              subst (λ (xs : List Entry). Walks Told sought folder xs end) e (more (gives.seen ++ (path, File) ∷ rest) end (gives.first rest end w));
          same = gives.kept ∙ walk.same;
          counted = omega arith;
        }

    pub one_more_kept : (after : Ahead) (path : List ℕ) (more : List (List ℕ)) → more ≡ found ++ path ∷ [] → GivesFile Told before after path → IsWalkSoFar Told sought folder more after
    one_more_kept after path more_files same gives = subst (λ (xs : List (List ℕ)). IsWalkSoFar Told sought folder xs after) (sym same) (one_more after path gives)

    -- the files found so far are those of a walk that is left there
    pub so_far : BeginsWalk Told sought folder found
    so_far = record { looked = walk.looked; walks = subst (λ (xs : List Entry). Walks Told sought folder xs left_off) (append-nil walk.looked) (walk.goes_on [] left_off leaves_off); same = walk.files }

    -- there are no others
    pub all_found : GivesNone Told before → IsWalk Told sought folder found
    all_found none = record { looked = walk.looked ++ none.seen; walks = more none.seen whole none.all; same = same_files none.seen none.no_file }

    -- the walk is refused
    pub breaks_off : (e : LoadingError) → RefusesFile Told before e → RefusesWalk Told sought folder found e
    breaks_off e no_room = no_memory so_far
    breaks_off e (at_entry {seen = seen} none v) = at_fault (more seen broken v) (same_files seen none)
    breaks_off e (none_left {seen = seen} none v n) =
        let l : length (walk.looked ++ seen) ≡ length walk.looked + length seen = length-append walk.looked seen in
        let d : before.left + length walk.looked ≡ 2 ^ 64 - 1 = walk.counted in
        too_many (more seen left_off v) (omega arith) (same_files seen none)

  pub not_begun : (e : LoadingError) → (e ≢ Memory → e ≡ WalkDir) → (e ≢ Memory → Unlisted Told sought folder) → RefusesWalk Told sought folder [] e
  not_begun e k h = either (RefusesWalk Told sought folder []) e no_memory_yet k (λ n. no_names (h n))

  pub is_fault : (found : List (List ℕ)) (e : LoadingError) → RefusesWalk Told sought folder found e → IsWalkFault e
  is_fault found e no_memory_yet n = refl
  is_fault found e (no_memory b) n = refl
  is_fault found e (no_names u) n = absurd (n refl)
  is_fault found e (at_fault w s) n = absurd (n refl)
  is_fault found e (too_many w l s) n = absurd (n refl)
