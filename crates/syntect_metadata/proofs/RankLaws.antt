-- Lists put in order.
use Rattle.std.proofs.Common.{◌≡◌, ℕ, zero, suc, ◌+◌, ◌<◌, List, [], ◌∷◌, map, length, get_or, Bool, true, false, cond, Ordering, nat_cmp, is_lt, Bor, refl, sym, ap, ◌∙◌, subst, arith}
use denote.Param.Members.{Mut}
use Rattle.std.proofs.lemmas.Fn.{always_returns_same}
use Rattle.std.proofs.lemmas.List.{length-map}
use Rattle.std.proofs.lemmas.List.Sorted.{IsPermutation-map, ranks_by, IsStrictWeakOrder-flip}
use Rattle.std.specs.Cmp.{nat_cmp_total, IsStrictWeakOrder}
use Rattle.std.specs.Fn.{Called}
use Rattle.std.specs.List.{filter}
use Rattle.std.specs.List.Sorted.{IsPermutation, IsSortedBy, IsSortedByClosure, IsStableBy, IsStableByClosure, ties}
use Rattle.std.specs.Path.{path_cmp, path_cmp_total}
use Rattle.syntect_metadata.specs.Merging.{is_before, IsByPath}
use Rattle.syntect_metadata.specs.Ranking.{outranks, IsRanked}
use Rattle.syntect_metadata.specs.declared.raw.RawMetadataEntry.{RawMetadataEntry}
use Rattle.syntect_metadata.specs.declared.set.MetadataSet.{MetadataSet}

-- ---- entries by path ----

pub by_path : {F : Type 0} {g : Mut F (Bor RawMetadataEntry × (Bor RawMetadataEntry × Unit {0})) Ordering} {f : F} (xs ys : List RawMetadataEntry) → IsPermutation xs ys
    → IsSortedByClosure g f ys → IsStableByClosure g f xs ys
    → ((a : Bor RawMetadataEntry × (Bor RawMetadataEntry × Unit {0})) (r : Ordering) (f' : F) → Called g f a r f' → (r ≡ path_cmp a.0.now.path a.1.0.now.path) × (f' ≡ f)) → IsByPath xs ys
by_path {g = g} {f = f} xs ys same up still h =
    let weak : IsStrictWeakOrder is_before = ranks_by (path_cmp_total (λ (p : List ℕ). p)) (λ (e : RawMetadataEntry). e.path) in
    let answers = always_returns_same g (λ a r. is_lt r ≡ is_before a.0.now a.1.0.now) f (λ a r f' k. (ap is_lt (h a r f' k).0, (h a r f' k).1)) in
    record { same = same; order = up is_before weak answers; stable = still is_before weak answers }

-- ---- what is seen of a list in order ----

module _ {X Y : Type 0} (f : X → Y) where
  at_map : (xs : List X) (k : ℕ) (d : Y) (e : X) → k < length xs → get_or (map f xs) k d ≡ f (get_or xs k e)
  at_map [] k d e l = absurd (omega arith)
  at_map (x ∷ xs) zero d e l = refl
  at_map (x ∷ xs) (suc k) d e l = at_map xs k d e (omega arith)

  module _ (lt : Y → Y → Bool) where
    pub sorted_map : (xs : List X) → IsSortedBy (λ x y. lt (f x) (f y)) xs → IsSortedBy lt (map f xs)
    sorted_map [] h k d low high = absurd (omega arith)
    sorted_map (x ∷ xs) h k d low high =
        let same = length-map (x ∷ xs) f in
        let inside : k + 1 < length (x ∷ xs) = omega arith in
        rw (at_map (x ∷ xs) (k + 1) d x inside, at_map (x ∷ xs) k d x (omega arith)) (h k x low inside)

  at_filter : (b : Bool) (x : X) (xs : List X) (ys : List Y) → ys ≡ map f xs → cond b (f x ∷ ys) ys ≡ map f (cond b (x ∷ xs) xs)
  at_filter true x xs ys e = ap (λ rest. f x ∷ rest) e
  at_filter false x xs ys e = e

  pub filter_seen : (p : Y → Bool) (xs : List X) → filter p (map f xs) ≡ map f (filter (λ x. p (f x)) xs)
  filter_seen p [] = refl
  filter_seen p (x ∷ xs) = at_filter (p (f x)) x (filter (λ z. p (f z)) xs) (filter p (map f xs)) (filter_seen p xs)

-- ---- sets by score ----

abbrev Lent : Type 0
Lent = ℕ × Bor MetadataSet

abbrev lent : Lent → ℕ × MetadataSet
lent p = (p.0, p.1.now)

abbrev above : Lent → Lent → Bool
above x y = outranks (lent x) (lent y)

stable_with : Bor MetadataSet → (y : ℕ × MetadataSet) (xs ys : List Lent) → IsStableBy above xs ys → filter (ties outranks y) (map lent ys) ≡ filter (ties outranks y) (map lent xs)
stable_with b y xs ys h = filter_seen lent (ties outranks y) ys ∙ ap (map lent) (h (y.0, b)) ∙ sym (filter_seen lent (ties outranks y) xs)

stable_lent : (xs ys : List Lent) → IsStableBy above xs ys → IsStableBy outranks (map lent xs) (map lent ys)
stable_lent [] [] h y = refl
stable_lent [] (p ∷ ys) h y = stable_with p.1 y [] (p ∷ ys) h
stable_lent (p ∷ xs) ys h y = stable_with p.1 y (p ∷ xs) ys h

pub by_score : {F : Type 0} {g : Mut F (Bor Lent × (Bor Lent × Unit {0})) Ordering} {f : F} (xs ys : List Lent) → IsPermutation xs ys → IsSortedByClosure g f ys → IsStableByClosure g f xs ys
    → ((a : Bor Lent × (Bor Lent × Unit {0})) (r : Ordering) (f' : F) → Called g f a r f' → (r ≡ nat_cmp a.1.0.now.0 a.0.now.0) × (f' ≡ f)) → IsRanked (map lent xs) (map lent ys)
by_score {g = g} {f = f} xs ys same up still h =
    let weak : IsStrictWeakOrder above = IsStrictWeakOrder-flip (λ (x y : Lent). is_lt (nat_cmp x.0 y.0)) (ranks_by nat_cmp_total (λ (p : Lent). p.0)) in
    let answers = always_returns_same g (λ a r. is_lt r ≡ above a.0.now a.1.0.now) f (λ a r f' k. (ap is_lt (h a r f' k).0, (h a r f' k).1)) in
    record {
      same = IsPermutation-map lent xs ys same;
      order = sorted_map lent outranks ys (up above weak answers);
      stable = stable_lent xs ys (still above weak answers);
    }

pub ranked_as : (m : List (ℕ × MetadataSet)) (s t r : List Lent) → map lent s ≡ m → IsRanked (map lent s) (map lent t) → r ≡ t → IsRanked m (map lent r)
ranked_as m s t r e h k = subst (λ (u : List Lent). IsRanked m (map lent u)) (sym k) (subst (λ (x : List (ℕ × MetadataSet)). IsRanked x (map lent t)) e h)
