-- Grammars that are read one after another.
use Rattle.std.proofs.Common.{◌≡◌, ℕ, zero, suc, ◌+◌, ◌<◌, ◌≤◌, Bool, true, false, List, [], ◌∷◌, ◌++◌, append_assoc, drop, drop-cons, get_or, length, map, slice_get, slice_set, Some, None, refl, ap, sym, ◌∙◌, subst, arith}
use Rattle.syntect_grammar_limits.specs.declared.folder_error.FolderWithinError.{FolderWithinError}
use Rattle.syntect_grammar_limits.specs.declared.folder_error.FolderWithinError.TheVariants.{Refused}
use Rattle.syntect_grammar_limits.specs.syntect_base.Trees.{Answer}
use Rattle.syntect_grammar_limits.specs.syntect_base.declared.loading.LoadingError.TheVariants.{Memory}
use Rattle.syntect_grammar_limits.specs.syntect_grammar_loader.declared.definition.SyntaxDefinition.{SyntaxDefinition}
use Rattle.syntect_shelf.proofs.ClosedLaws.{still_unread}
use Rattle.syntect_shelf.specs.Gathering.{heads_of, none_whole, IsWholeOf, Gathers, none_there, asked, one_more, RefusesSet, no_memory_left}
use Rattle.syntect_shelf.specs.Places.{head_alone}
use Rattle.syntect_shelf.specs.Unread.{whole_by, IsUnread}
use Rattle.syntect_shelf.specs.declared.grammar.Grammar.{Grammar}
use Rattle.syntect_shelf.specs.declared.grammar.Loading.{Loading}

-- ---- flags ----

pub not_whole_within : (flags : List Bool) (i : ℕ) → whole_by flags i ≡ false → i < length flags
not_whole_within [] i e = cc
not_whole_within (f ∷ flags) zero e = omega arith
not_whole_within (f ∷ flags) (suc i) e = let k : i < length flags = not_whole_within flags i e in omega arith

-- how many are still heads alone
abbrev pub heads_left : List Bool → ℕ
heads_left [] = 0
heads_left (true ∷ flags) = heads_left flags
heads_left (false ∷ flags) = suc (heads_left flags)

pub one_less : (flags : List Bool) (i : ℕ) → whole_by flags i ≡ false → suc (heads_left (slice_set flags i true)) ≡ heads_left flags
one_less [] i e = cc
one_less (true ∷ flags) zero e = cc
one_less (false ∷ flags) zero e = refl
one_less (true ∷ flags) (suc i) e = one_less flags i e
one_less (false ∷ flags) (suc i) e = ap suc (one_less flags i e)

pub stays_whole : (flags : List Bool) (i place : ℕ) → whole_by flags place ≡ true → whole_by (slice_set flags i true) place ≡ true
stays_whole [] i place e = refl
stays_whole (f ∷ flags) zero zero e = refl
stays_whole (f ∷ flags) zero (suc place) e = e
stays_whole (f ∷ flags) (suc i) zero e = e
stays_whole (f ∷ flags) (suc i) (suc place) e = stays_whole flags i place e

pub made_whole : (flags : List Bool) (i : ℕ) → whole_by (slice_set flags i true) i ≡ true
made_whole [] i = refl
made_whole (f ∷ flags) zero = refl
made_whole (f ∷ flags) (suc i) = made_whole flags i

past_whole : (flags : List Bool) (i : ℕ) → length flags ≤ i → whole_by flags i ≡ true
past_whole [] i l = refl
past_whole (f ∷ flags) zero l = absurd (omega (arith, l))
past_whole (f ∷ flags) (suc i) l = past_whole flags i (omega (arith, l))

-- ---- lengths ----

set_len : {A : Type 0} (xs : List A) (i : ℕ) (y : A) → length (slice_set xs i y) ≡ length xs
set_len [] i y = refl
set_len (x ∷ xs) zero y = refl
set_len (x ∷ xs) (suc i) y = ap suc (set_len xs i y)

map_len : {A B : Type 0} (f : A → B) (xs : List A) → length (map f xs) ≡ length xs
map_len f [] = refl
map_len f (x ∷ xs) = ap suc (map_len f xs)

past_end : {A : Type 0} (xs : List A) (i : ℕ) → slice_get xs i ≡ None → length xs ≤ i
past_end [] i e = omega arith
past_end (x ∷ xs) zero e = cc
past_end (x ∷ xs) (suc i) e = let k : length xs ≤ i = past_end xs i e in omega arith

pub get_there : {A : Type 0} (xs : List A) (i : ℕ) (x : A) → i < length xs → x ≡ get_or xs i x → slice_get xs i ≡ Some x
get_there [] i x l e = absurd (omega (arith, l))
get_there (y ∷ xs) zero x l e = ap Some (sym e)
get_there (y ∷ xs) (suc i) x l e = get_there xs i x (omega (arith, l)) e

pub within : {A : Type 0} (xs : List A) (i : ℕ) (x : A) → slice_get xs i ≡ Some x → i < length xs
within [] i x e = cc
within (y ∷ xs) zero x e = omega arith
within (y ∷ xs) (suc i) x e = let k : i < length xs = within xs i x e in omega arith

pub heads_len : (grammars : List Grammar) → length (heads_of grammars) ≡ length grammars
heads_len grammars = map_len (λ g. head_alone g.head) grammars

pub none_len : (grammars : List Grammar) → length (none_whole grammars) ≡ length grammars
none_len grammars = map_len (λ g. false) grammars

module _ (Told : Answer → Type 0) (loading : Loading) (grammars : List Grammar) (place : ℕ) (old : List (List ℕ)) where
  pub gathered_len : {ds : List SyntaxDefinition} {flags : List Bool} {new : List (List ℕ)} → Gathers Told loading grammars place old ds flags new
      → (length ds ≡ length grammars) × (length flags ≡ length grammars)
  gathered_len (none_there l) = (heads_len grammars, none_len grammars)
  gathered_len (asked {d = d} s w) = (set_len (heads_of grammars) place d ∙ heads_len grammars, set_len (none_whole grammars) place true ∙ none_len grammars)
  gathered_len (one_more {ds = ds} {flags = flags} {i = i} {d = d} g u s w) = let h = gathered_len g in (set_len ds i d ∙ h.0, set_len flags i true ∙ h.1)

  -- there is no grammar at the place
  pub none_asked : (ds : List SyntaxDefinition) (flags : List Bool) → ds ≡ heads_of grammars → flags ≡ none_whole grammars → length grammars ≤ place
      → Gathers Told loading grammars place old ds flags old × (whole_by flags place ≡ true)
  none_asked ds flags d f l =
      let k : length (none_whole grammars) ≤ place = subst (λ (n : ℕ). n ≤ place) (sym (none_len grammars)) l in (
        subst (λ (x : List SyntaxDefinition). Gathers Told loading grammars place old x flags old) (sym d)
            (subst (λ (x : List Bool). Gathers Told loading grammars place old (heads_of grammars) x old) (sym f) (none_there l)),
        ap (λ (x : List Bool). whole_by x place) f ∙ past_whole (none_whole grammars) place k,
      )

  -- it is read first
  pub one_asked : (g : Grammar) (d : SyntaxDefinition) (before ds : List SyntaxDefinition) (flags_before flags : List Bool) (new : List (List ℕ)) → slice_get grammars place ≡ Some g → before ≡ heads_of grammars → flags_before ≡ none_whole grammars
      → IsWholeOf Told loading old new d g.source → ds ≡ slice_set before place d → flags ≡ slice_set flags_before place true
      → Gathers Told loading grammars place old ds flags new × (whole_by flags place ≡ true)
  one_asked g d before ds flags_before flags new s b fb w e f =
      let is_ds : ds ≡ slice_set (heads_of grammars) place d = e ∙ ap (λ (x : List SyntaxDefinition). slice_set x place d) b in
      let is_flags : flags ≡ slice_set (none_whole grammars) place true = f ∙ ap (λ (x : List Bool). slice_set x place true) fb in (
        subst (λ (x : List SyntaxDefinition). Gathers Told loading grammars place old x flags new) (sym is_ds)
            (subst (λ (x : List Bool). Gathers Told loading grammars place old (slice_set (heads_of grammars) place d) x new) (sym is_flags) (asked s w)),
        ap (λ (x : List Bool). whole_by x place) f ∙ made_whole flags_before place,
      )

  -- and then another one
  pub another : (i : ℕ) (g : Grammar) (d : SyntaxDefinition) (before ds : List SyntaxDefinition) (flags_before flags : List Bool) (left new : List (List ℕ)) → Gathers Told loading grammars place old before flags_before left
      → IsUnread before flags_before i → slice_get grammars i ≡ Some g → IsWholeOf Told loading left new d g.source → ds ≡ slice_set before i d → flags ≡ slice_set flags_before i true
      → Gathers Told loading grammars place old ds flags new
  another i g d before ds flags_before flags left new h u s w e f =
      subst (λ (x : List SyntaxDefinition). Gathers Told loading grammars place old x flags new) (sym e)
      (subst (λ (x : List Bool). Gathers Told loading grammars place old (slice_set before i d) x new) (sym f) (one_more h u s w))

  -- a place that is still to be read is one of the shelf's
  pub unread_within : {ds : List SyntaxDefinition} {flags : List Bool} {new : List (List ℕ)} (i : ℕ) → Gathers Told loading grammars place old ds flags new → IsUnread ds flags i → i < length grammars
  unread_within {ds} {flags} i h u = subst (λ (n : ℕ). i < n) ((gathered_len h).1) (not_whole_within flags i (still_unread ds flags i u))

  pub no_room : (e : FolderWithinError) → e ≡ Refused Memory → RefusesSet Told loading grammars place old e
  no_room e h = subst (λ (x : FolderWithinError). RefusesSet Told loading grammars place old x) (sym h) no_memory_left

  pub same_gathered : (before ds : List SyntaxDefinition) (flags_before flags : List Bool) (new : List (List ℕ)) → ds ≡ before → flags ≡ flags_before → Gathers Told loading grammars place old before flags_before new
      → Gathers Told loading grammars place old ds flags new
  same_gathered before ds flags_before flags new d f h =
      subst (λ (x : List SyntaxDefinition). Gathers Told loading grammars place old x flags new) (sym d) (subst (λ (x : List Bool). Gathers Told loading grammars place old before x new) (sym f) h)

  pub definition_within : (ds : List SyntaxDefinition) (flags : List Bool) (new : List (List ℕ)) (i : ℕ) → Gathers Told loading grammars place old ds flags new → IsUnread ds flags i → i < length ds
  definition_within ds flags new i h u = subst (λ (n : ℕ). i < n) (sym ((gathered_len h).0)) (unread_within i h u)

-- one head less is left
pub fewer_left : (ds : List SyntaxDefinition) (flags_before flags after : List Bool) (i : ℕ) → flags ≡ flags_before → IsUnread ds flags i → after ≡ slice_set flags i true → heads_left after < heads_left flags_before
fewer_left ds flags_before flags after i f u e =
    let less : suc (heads_left (slice_set flags i true)) ≡ heads_left flags = one_less flags i (still_unread ds flags i u) in
    omega (arith, less, ap heads_left e, ap heads_left f)

-- one more of a list is pushed
pub pushed_more : {B : Type 0} (f : Grammar → B) (grammars : List Grammar) (k : ℕ) (x : Grammar) (before after all : List B) (y : B) → k < length grammars → x ≡ get_or grammars k x → y ≡ f x → after ≡ before ++ y ∷ []
    → before ++ map f (drop k grammars) ≡ all → after ++ map f (drop (k + 1) grammars) ≡ all
pushed_more f grammars k x before after all y l e v p h =
    let n : suc k ≡ k + 1 = omega arith in
    let cons : drop k grammars ≡ x ∷ drop (k + 1) grammars = drop-cons grammars k x l ∙ ap (λ i. get_or grammars k x ∷ drop i grammars) n ∙ ap (λ z. z ∷ drop (k + 1) grammars) (sym e) in
    ap (λ z. z ++ map f (drop (k + 1) grammars)) p ∙ append_assoc before (y ∷ []) (map f (drop (k + 1) grammars)) ∙ ap (λ z. before ++ z ∷ map f (drop (k + 1) grammars)) v ∙ sym (ap (λ z. before ++ map f z) cons) ∙ h
