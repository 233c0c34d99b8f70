-- What is known stays true when some of it goes, and when more is put on top.
use Rattle.std.proofs.Common.{◌≡◌, ℕ, zero, suc, ◌+◌, ◌-◌, ◌<◌, ◌≤◌, List, [], ◌∷◌, ◌++◌, length, take, get_or, refl, sym, ap, subst, ◌∙◌, arith, append_assoc, length-append, Option, Some, None, true, min}
use Rattle.std.specs.Prelude.{IfSome, IfOk, nat_lt, Result, Ok, Err}
use Rattle.std.proofs.lemmas.Bool.Decides.{nat_tests}
use Rattle.std.specs.List.{slice_get}
use Rattle.std.proofs.Math.ListN.{set}
use Rattle.std.proofs.lemmas.List.{length-take, take_all}
use Rattle.syntect_style.specs.Styling.{style_of}
use Rattle.syntect_theme.specs.declared.style.Style.{Style}
use Rattle.syntect_style.specs.Kept.{IsBase, IsKnown, AreKnown, AreSmall, AreLeadersOf, scopes_of}
use Rattle.syntect_style.specs.Rules.{ScoreAlike, other_rules}
use Rattle.syntect_style.proofs.OtherLaws.{alike_self, alike_then}
use Rattle.syntect_style.specs.declared.others.SmallLeaders.{SmallLeaders}
use Rattle.syntect_theme.specs.declared.theme.Theme.{Theme}
use Rattle.syntect_style.specs.declared.kept.Kept.{Kept}

one_more : (n : ℕ) → n + 1 ≡ suc n
one_more n = omega arith

module _ (theme : Theme) where
  -- each one, with the scopes up to it
  known_place : (below : List (List ℕ)) (ks : List Kept) (i : ℕ) (d : Kept) → i < length ks → AreKnown theme below ks → IsKnown theme (below ++ take (suc i) (scopes_of ks)) (get_or ks i d)
  known_place below [] i d l h = absurd (omega arith)
  known_place below (k ∷ ks) zero d l h = h.0
  known_place below (k ∷ ks) (suc i) d l h = subst (λ (s : List (List ℕ)). IsKnown theme s (get_or ks i d)) (append_assoc below (k.scope ∷ []) (take (suc i) (scopes_of ks))) (known_place (below ++ k.scope ∷ []) ks i d (omega arith) h.1)

  known_front : (below : List (List ℕ)) (ks : List Kept) (n : ℕ) → AreKnown theme below ks → AreKnown theme below (take n ks)
  known_front below [] zero h = tt
  known_front below [] (suc n) h = tt
  known_front below (k ∷ ks) zero h = tt
  known_front below (k ∷ ks) (suc n) h = (h.0, known_front (below ++ k.scope ∷ []) ks n h.1)

  known_more : (below : List (List ℕ)) (ks : List Kept) (k : Kept) → AreKnown theme below ks → IsKnown theme (below ++ scopes_of ks ++ k.scope ∷ []) k → AreKnown theme below (ks ++ k ∷ [])
  known_more below [] k h w = (subst (λ (s : List (List ℕ)). IsKnown theme s k) (append_assoc below [] (k.scope ∷ [])) w, tt)
  known_more below (x ∷ ks) k h w =
      (h.0, known_more (below ++ x.scope ∷ []) ks k h.1 (subst (λ (s : List (List ℕ)). IsKnown theme (s ++ k.scope ∷ []) k) (sym (append_assoc below (x.scope ∷ []) (scopes_of ks))) w))

  known_set : (below : List (List ℕ)) (ks : List Kept) (i : ℕ) (k d : Kept) → i < length ks → k.scope ≡ (get_or ks i d).scope → AreKnown theme below ks → IsKnown theme (below ++ take (suc i) (scopes_of ks)) k → AreKnown theme below (set ks i k)
  known_set below [] i k d l e h w = absurd (omega arith)
  known_set below (x ∷ ks) zero k d l e h w = (subst (λ (s : List ℕ). IsKnown theme (below ++ s ∷ []) k) (sym e) w, subst (λ (s : List ℕ). AreKnown theme (below ++ s ∷ []) ks) (sym e) h.1)
  known_set below (x ∷ ks) (suc i) k d l e h w =
      (h.0, known_set (below ++ x.scope ∷ []) ks i k d (omega arith) e h.1 (subst (λ (s : List (List ℕ)). IsKnown theme s k) (sym (append_assoc below (x.scope ∷ []) (take (suc i) (scopes_of ks)))) w))

-- a front of a longer front
pub front_of_front : (m n : ℕ) (xs : List (List ℕ)) → m ≤ n → take m (take n xs) ≡ take m xs
front_of_front zero n xs l = refl
front_of_front (suc m) zero xs l = absurd (omega arith)
front_of_front (suc m) (suc n) [] l = refl
front_of_front (suc m) (suc n) (x ∷ xs) l = ap (λ s. x ∷ s) (front_of_front m n xs (omega arith))

scopes_take : (n : ℕ) (ks : List Kept) → scopes_of (take n ks) ≡ take n (scopes_of ks)
scopes_take zero ks = refl
scopes_take (suc n) [] = refl
scopes_take (suc n) (k ∷ ks) = ap (λ s. k.scope ∷ s) (scopes_take n ks)

scopes_more : (ks : List Kept) (k : Kept) → scopes_of (ks ++ k ∷ []) ≡ scopes_of ks ++ k.scope ∷ []
scopes_more [] k = refl
scopes_more (x ∷ ks) k = ap (λ s. x.scope ∷ s) (scopes_more ks k)

pub scopes_set : (ks : List Kept) (i : ℕ) (k d : Kept) → i < length ks → k.scope ≡ (get_or ks i d).scope → scopes_of (set ks i k) ≡ scopes_of ks
scopes_set [] i k d l e = absurd (omega arith)
scopes_set (x ∷ ks) zero k d l e = ap (λ s. s ∷ scopes_of ks) e
scopes_set (x ∷ ks) (suc i) k d l e = ap (λ s. x.scope ∷ s) (scopes_set ks i k d (omega arith) e)

-- the scopes up to a place, and the one at it
take_scope : (scopes : List (List ℕ)) (i : ℕ) (scope : List ℕ) → slice_get scopes i ≡ Some scope → take (suc i) scopes ≡ take i scopes ++ scope ∷ []
take_scope [] i scope e = cc
take_scope (x ∷ scopes) zero scope e = let f : x ≡ scope = cc in ap (λ s. s ∷ []) f
take_scope (x ∷ scopes) (suc i) scope e = ap (λ s. x ∷ s) (take_scope scopes i scope e)

pub taken_again : (scopes : List (List ℕ)) (i : ℕ) (scope : List ℕ) → slice_get scopes i ≡ Some scope → take (i + 1) scopes ≡ take i scopes ++ scope ∷ []
taken_again scopes i scope e = rw (one_more i) (take_scope scopes i scope e)

pub is_there : (ks : List Kept) (i : ℕ) (scope : List ℕ) → slice_get (scopes_of ks) i ≡ Some scope → i < length ks
is_there [] i scope e = cc
is_there (k ∷ ks) zero scope e = omega arith
is_there (k ∷ ks) (suc i) scope e = let l : i < length ks = is_there ks i scope e in omega arith

pub length_scopes : (ks : List Kept) → length (scopes_of ks) ≡ length ks
length_scopes [] = refl
length_scopes (k ∷ ks) = ap suc (length_scopes ks)

take_whole : (xs : List (List ℕ)) (x : List ℕ) (n : ℕ) → length xs ≡ n → take (n + 1) (xs ++ x ∷ []) ≡ xs ++ x ∷ []
take_whole xs x n e = take_all (n + 1) (xs ++ x ∷ []) (omega (arith, length-append xs (x ∷ []), e))

-- a new one on top of those below a place
pub put_on : (ks : List Kept) (k : Kept) (place : ℕ) → place ≤ length ks → take (place + 1) (scopes_of (take place ks ++ k ∷ [])) ≡ take place (scopes_of ks) ++ k.scope ∷ []
put_on ks k place l =
    let e : scopes_of (take place ks ++ k ∷ []) ≡ take place (scopes_of ks) ++ k.scope ∷ [] = scopes_more (take place ks) k ∙ ap (λ s. s ++ k.scope ∷ []) (scopes_take place ks) in
    rw e (take_whole (take place (scopes_of ks)) k.scope place (omega (arith, length-take place (scopes_of ks), length_scopes ks)))

pub put_known : (theme : Theme) (ks : List Kept) (k : Kept) (place : ℕ) → AreKnown theme [] ks → IsKnown theme (take place (scopes_of ks) ++ k.scope ∷ []) k → AreKnown theme [] (take place ks ++ k ∷ [])
put_known theme ks k place h w =
    known_more theme [] (take place ks) k (known_front theme [] ks place h) (subst (λ (s : List (List ℕ)). IsKnown theme (s ++ k.scope ∷ []) k) (sym (scopes_take place ks)) w)

-- ---- what decides for the other rules ----

-- a front of a list with more after it
front_more : (n : ℕ) (xs ys : List (List ℕ)) → n ≤ length xs → take n (xs ++ ys) ≡ take n xs
front_more zero xs ys l = refl
front_more (suc n) [] ys l = absurd (omega (arith, l))
front_more (suc n) (x ∷ xs) ys l = ap (λ s. x ∷ s) (front_more n xs ys (omega (arith, l)))

-- on no scopes, none
pub base_of_none : (theme : Theme) → IsBase theme [] 0
base_of_none theme = record { within = omega arith; alike = alike_self (other_rules theme) [] }

-- all of them
pub base_of_all : (theme : Theme) (below : List (List ℕ)) (scope : List ℕ) (place : ℕ) → length below ≡ place → IsBase theme (below ++ scope ∷ []) (place + 1)
base_of_all theme below scope place e =
    let n : length (below ++ scope ∷ []) ≡ place + 1 = omega (arith, length-append below (scope ∷ []), e) in
    record {
      within = omega (arith, n);
      alike = subst (λ (s : List (List ℕ)). ScoreAlike (other_rules theme) s (below ++ scope ∷ [])) (sym (take_all (place + 1) (below ++ scope ∷ []) (omega (arith, n)))) (alike_self (other_rules theme) (below ++ scope ∷ []));
    }

-- those that did before, under a scope that touches none of the rules
pub base_of_before : (theme : Theme) (below : List (List ℕ)) (scope : List ℕ) (base : ℕ) → ScoreAlike (other_rules theme) below (below ++ scope ∷ []) → IsBase theme below base → IsBase theme (below ++ scope ∷ []) base
base_of_before theme below scope base a h = record {
  within = omega (arith, length-append below (scope ∷ []), h.within);
  alike = subst (λ (s : List (List ℕ)). ScoreAlike (other_rules theme) s (below ++ scope ∷ [])) (sym (front_more base below (scope ∷ []) h.within)) (alike_then (other_rules theme) (take base below) below (below ++ scope ∷ []) h.alike a);
}

pub stays_below : (ks : List Kept) (place : ℕ) → take place (scopes_of (take place ks)) ≡ take place (scopes_of ks)
stays_below ks place = ap (take place) (scopes_take place ks) ∙ front_of_front place place (scopes_of ks) (omega arith)

pub stands_below : (theme : Theme) (ks : List Kept) (place : ℕ) (d k : Kept) → (place ≡ 0 → ⊥) → place ≤ length ks → k ≡ get_or ks (place - 1) d → AreKnown theme [] ks → AreLeadersOf theme (take place (scopes_of ks)) k.single
stands_below theme ks place d k n l e h =
    let i : suc (place - 1) ≡ place = omega arith in
    subst (λ (s : ℕ). AreLeadersOf theme (take s (scopes_of ks)) k.single) i (rw e (known_place theme [] ks (place - 1) d (omega arith) h).single)

pub base_below_place : (theme : Theme) (ks : List Kept) (place : ℕ) (d k : Kept) → (place ≡ 0 → ⊥) → place ≤ length ks → k ≡ get_or ks (place - 1) d → AreKnown theme [] ks → IsBase theme (take place (scopes_of ks)) k.base
base_below_place theme ks place d k n l e h =
    let i : suc (place - 1) ≡ place = omega arith in
    subst (λ (s : ℕ). IsBase theme (take s (scopes_of ks)) k.base) i (rw e (known_place theme [] ks (place - 1) d (omega arith) h).base)

-- what is kept of the other rules in the lowest so many scopes
pub others_below : (ks : List Kept) (count : ℕ) (all : List Kept) (k : Kept) → (count ≡ 0 → ⊥) → all ≡ ks → true ≡ nat_lt (count - 1) (length all) → k ≡ get_or all (count - 1) k
    → IfSome k.others (λ others. (theme : Theme) → AreKnown theme [] ks → AreSmall theme (take count (scopes_of ks)) others)
others_below ks count all k n s l e = by k.others refl
  where
    i : suc (count - 1) ≡ count
    i = omega (arith, n)

    m : count - 1 < length ks
    m = subst (λ (ks : List Kept). count - 1 < length ks) s (grind (arith, nat_tests, l))

    by : (o : Option SmallLeaders) → k.others ≡ o → IfSome o (λ others. (theme : Theme) → AreKnown theme [] ks → AreSmall theme (take count (scopes_of ks)) others)
    by None f = tt
    by (Some others) f = λ theme h.
        let w : IsKnown theme (take (suc (count - 1)) (scopes_of ks)) k = rw (e ∙ ap (λ ks. get_or ks (count - 1) k) s) (known_place theme [] ks (count - 1) k m h) in
        rw i at (rw f at w.others)

-- the same with other ones in their place
pub others_kept : (theme : Theme) (ks : List Kept) (count : ℕ) (d k : Kept) (others : Option SmallLeaders) → 0 < count → count ≤ length ks → k ≡ get_or ks (count - 1) d → IfSome others (AreSmall theme (take count (scopes_of ks)))
    → AreKnown theme [] ks → AreKnown theme [] (set ks (count - 1) (record k { others = others }))
others_kept theme ks count d k others p l e s h =
    let i : suc (count - 1) ≡ count = omega (arith, p) in
    let w : IsKnown theme (take (suc (count - 1)) (scopes_of ks)) k = rw e (known_place theme [] ks (count - 1) d (omega (arith, p, l)) h) in
    known_set theme [] ks (count - 1) (record k { others = others }) d (omega (arith, p, l)) (ap (λ (k : Kept). k.scope) e) h
    (record { single = w.single; style = w.style; others = rw i s; base = w.base })

-- ---- a style that is shown ----

pub style_known : (theme : Theme) (ks : List Kept) (place : ℕ) (d k : Kept) (stack : List (List ℕ)) → place < length ks → k ≡ get_or ks place d → take (place + 1) (scopes_of ks) ≡ stack → AreKnown theme [] ks → IsKnown theme stack k
style_known theme ks place d k stack l e s h =
    let f : take (suc place) (scopes_of ks) ≡ stack = rw (one_more place) at s in
    rw (← f, e) (known_place theme [] ks place d l h)

pub style_kept : (theme : Theme) (ks : List Kept) (place : ℕ) (d k : Kept) (stack : List (List ℕ)) (style : Style) → place < length ks → k ≡ get_or ks place d → take (place + 1) (scopes_of ks) ≡ stack → style ≡ style_of theme stack
    → AreKnown theme [] ks → AreKnown theme [] (set ks place (record k { style = Some style }))
style_kept theme ks place d k stack style l e s t h =
    let f : take (suc place) (scopes_of ks) ≡ stack = rw (one_more place) at s in
    let w : IsKnown theme stack k = style_known theme ks place d k stack l e s h in
    known_set theme [] ks place (record k { style = Some style }) d l (ap (λ (k : Kept). k.scope) e) h (rw f (record { single = w.single; style = t; others = w.others; base = w.base }))

pub front_length : (ks : List Kept) (place : ℕ) → place ≤ length ks → length (take place (scopes_of ks)) ≡ place
front_length ks place l = omega (arith, length-take place (scopes_of ks), length_scopes ks)

pub scope_at : (all ks : List Kept) (i : ℕ) (d k : Kept) (scope : List ℕ) → all ≡ ks → i < length all → k ≡ get_or all i d → k.scope ≡ scope → slice_get (scopes_of ks) i ≡ Some scope
scope_at all ks i d k scope s l e f = subst (λ (ks : List Kept). slice_get (scopes_of ks) i ≡ Some scope) s (at all i d l (ap (λ (k : Kept). k.scope) (sym e) ∙ f))
  where
    at : (ks : List Kept) (i : ℕ) (d : Kept) → i < length ks → (get_or ks i d).scope ≡ scope → slice_get (scopes_of ks) i ≡ Some scope
    at [] i d l g = absurd (omega arith)
    at (k ∷ ks) zero d l g = ap (λ s. Some s) g
    at (k ∷ ks) (suc i) d l g = at ks i d (omega arith) g

-- ---- the values that prevail ----

-- as many scopes as there are, at most
pub front_min : (n : ℕ) (xs : List (List ℕ)) → take (min n (length xs)) xs ≡ take n xs
front_min zero [] = refl
front_min (suc n) [] = let i : min (suc n) (length {A = List ℕ} []) ≡ 0 = omega arith in rw i refl
front_min zero (x ∷ xs) = let i : min 0 (length (x ∷ xs)) ≡ 0 = omega arith in rw i refl
front_min (suc n) (x ∷ xs) =
    let i : min (suc n) (suc (length xs)) ≡ suc (min n (length xs)) = omega arith in
    rw i (ap (λ s. x ∷ s) (front_min n xs))

pub ok_then : {T E : Type 0} {P Q : T → Type 0} (r : Result T E) → IfOk r P → ((x : T) → P x → Q x) → IfOk r Q
ok_then (Ok x) h f = f x h
ok_then (Err e) h f = h

pub base_front : (ks : List Kept) (n base : ℕ) (stack : List (List ℕ)) → take n (scopes_of ks) ≡ stack → base ≤ length stack → take base (scopes_of ks) ≡ take base stack
base_front ks n base stack s l =
    let m : base ≤ n = omega (arith, l, ap length s, length-take n (scopes_of ks)) in
    sym (front_of_front base n (scopes_of ks) m) ∙ ap (take base) s

pub same_length : (a b : List Kept) → scopes_of a ≡ scopes_of b → length a ≡ length b
same_length a b e = sym (length_scopes a) ∙ ap length e ∙ length_scopes b
