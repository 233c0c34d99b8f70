-- The first place that is still to be read.
use Rattle.std.proofs.Common.{◌≡◌, ℕ, suc, ◌+◌, Bool, true, false, not, List, [], ◌∷◌, ◌++◌, ◌<◌, length, take, drop, cond, get_or, is_some, arith, length-take, drop-cons, Option, Some, None, refl, ap, sym, ◌∙◌, if◌then◌else◌}
use Rattle.std.specs.Option.{option_or, option_map, option_map_or, option_to_list}
use Rattle.std.specs.List.{flat_map, cons_option}
use Rattle.std.proofs.lemmas.List.{take_more}
use Rattle.syntect_grammar.specs.syntect_grammar_linker.References.{last_that}
use Rattle.syntect_grammar.specs.syntect_grammar_contexts.Contexts.{list_of}
use Rattle.syntect_shelf.specs.Places.{place_of, places_by, places_of_entry}
use Rattle.syntect_grammar.specs.syntect_grammar_contexts.declared.context.ContextReference.{ContextReference}
use Rattle.syntect_grammar.specs.syntect_grammar_contexts.declared.context.MatchPattern.{MatchPattern}
use Rattle.syntect_grammar.specs.syntect_grammar_contexts.declared.context.Pattern.TheVariants.{Match}
use Rattle.syntect_grammar.specs.syntect_grammar_loader.declared.definition.SyntaxDefinition.{SyntaxDefinition}
use Rattle.syntect_shelf.specs.Unread.{whole_by, unread_among}

-- among two lists of places
pub among_both : (flags : List Bool) (xs ys : List ℕ) → unread_among flags (xs ++ ys) ≡ option_or (unread_among flags xs) (unread_among flags ys)
among_both flags [] ys = refl
among_both flags (x ∷ xs) ys = by (not (whole_by flags x)) (among_both flags xs ys)
  where
    by : (b : Bool) → unread_among flags (xs ++ ys) ≡ option_or (unread_among flags xs) (unread_among flags ys)
        → cond b (Some x) (unread_among flags (xs ++ ys)) ≡ option_or (cond b (Some x) (unread_among flags xs)) (unread_among flags ys)
    by true e = refl
    by false e = e

-- the last of one more
pub last_more : {A : Type 0} (test : A → Bool) (xs : List A) (x : A) → last_that test (xs ++ x ∷ []) ≡ (if test x then Some (length xs) else last_that test xs)
last_more test [] x = by (test x)
  where
    by : (b : Bool) → option_or {T = ℕ} None (if b then Some 0 else None) ≡ (if b then Some 0 else None)
    by true = refl
    by false = refl
last_more test (y ∷ xs) x =
    ap (λ (o : Option ℕ). option_or (option_map suc o) (if test y then Some 0 else None)) (last_more test xs x) ∙ by (test x)
  where
    by : (b : Bool) → option_or (option_map suc (if b then Some (length xs) else last_that test xs)) (if test y then Some 0 else None)
        ≡ (if b then Some (length (y ∷ xs)) else option_or (option_map suc (last_that test xs)) (if test y then Some 0 else None))
    by true = refl
    by false = refl

-- and among those up to a place
pub last_next : {A : Type 0} (test : A → Bool) (xs : List A) (k : ℕ) (x : A) → k < length xs → x ≡ get_or xs k x → last_that test (take (k + 1) xs) ≡ (if test x then Some k else last_that test (take k xs))
last_next test xs k x l e =
    let n : length (take k xs) ≡ k = omega (arith, length-take k xs) in
    ap (λ ys. last_that test ys) (take_more xs k x l ∙ ap (λ y. take k xs ++ y ∷ []) (sym e)) ∙ last_more test (take k xs) x
    ∙ ap (λ i. if test x then Some i else last_that test (take k xs)) n

by_both : (flags : List Bool) (ds : List SyntaxDefinition) (xs ys : List ContextReference) → unread_among flags (places_by ds (xs ++ ys)) ≡ option_or (unread_among flags (places_by ds xs)) (unread_among flags (places_by ds ys))
by_both flags ds [] ys = refl
by_both flags ds (r ∷ xs) ys = by (place_of ds r) (by_both flags ds xs ys)
  where
    inner : (i : ℕ) (b : Bool) → unread_among flags (places_by ds (xs ++ ys)) ≡ option_or (unread_among flags (places_by ds xs)) (unread_among flags (places_by ds ys))
        → cond b (Some i) (unread_among flags (places_by ds (xs ++ ys))) ≡ option_or (cond b (Some i) (unread_among flags (places_by ds xs))) (unread_among flags (places_by ds ys))
    inner i true e = refl
    inner i false e = e

    by : (o : Option ℕ) → unread_among flags (places_by ds (xs ++ ys)) ≡ option_or (unread_among flags (places_by ds xs)) (unread_among flags (places_by ds ys))
        → unread_among flags (cons_option o (places_by ds (xs ++ ys))) ≡ option_or (unread_among flags (cons_option o (places_by ds xs))) (unread_among flags (places_by ds ys))
    by None e = e
    by (Some i) e = inner i (not (whole_by flags i)) e

-- of a match: by its operation, and then by its prototype
pub match_first : (flags : List Bool) (ds : List SyntaxDefinition) (m : MatchPattern)
    → unread_among flags (places_of_entry ds (Match m)) ≡ option_or (unread_among flags (places_by ds (option_map_or (λ (refs : List ContextReference). refs) (list_of m.operation) []))) (unread_among flags (places_by ds (option_to_list m.with_prototype)))
match_first flags ds m = by_both flags ds (option_map_or (λ (refs : List ContextReference). refs) (list_of m.operation) []) (option_to_list m.with_prototype)

-- ---- one more of a list is asked ----

flat_on : {A : Type 0} (flags : List Bool) (f : A → List ℕ) (xs : List A) (k : ℕ) (x : A) → k < length xs → x ≡ get_or xs k x
    → unread_among flags (flat_map f (drop k xs)) ≡ option_or (unread_among flags (f x)) (unread_among flags (flat_map f (drop (k + 1) xs)))
flat_on flags f xs k x l e =
    let n : suc k ≡ k + 1 = omega arith in
    ap (λ ys. unread_among flags (flat_map f ys)) (drop-cons xs k x l ∙ ap (λ i. get_or xs k x ∷ drop i xs) n ∙ ap (λ y. y ∷ drop (k + 1) xs) (sym e)) ∙ among_both flags (f x) (flat_map f (drop (k + 1) xs))

or_found : (x y : Option ℕ) → is_some x ≡ true → option_or x y ≡ x
or_found None y e = cc
or_found (Some i) y e = refl

or_not : (x y : Option ℕ) → is_some x ≡ false → option_or x y ≡ y
or_not None y e = refl
or_not (Some i) y e = cc

-- it is found there
pub found_there : {A : Type 0} (flags : List Bool) (f : A → List ℕ) (xs : List A) (k : ℕ) (x : A) (found : Option ℕ) → k < length xs → x ≡ get_or xs k x → found ≡ unread_among flags (f x)
    → unread_among flags (flat_map f (drop k xs)) ≡ unread_among flags (flat_map f xs) → is_some found ≡ true → found ≡ unread_among flags (flat_map f xs)
found_there flags f xs k x found l e h inv s =
    h ∙ sym (or_found (unread_among flags (f x)) (unread_among flags (flat_map f (drop (k + 1) xs))) (ap is_some (sym h) ∙ s)) ∙ sym (flat_on flags f xs k x l e) ∙ inv

-- or behind it
pub found_behind : {A : Type 0} (flags : List Bool) (f : A → List ℕ) (xs : List A) (k : ℕ) (x : A) (found : Option ℕ) → k < length xs → x ≡ get_or xs k x → found ≡ unread_among flags (f x)
    → unread_among flags (flat_map f (drop k xs)) ≡ unread_among flags (flat_map f xs) → is_some found ≡ false → unread_among flags (flat_map f (drop (k + 1) xs)) ≡ unread_among flags (flat_map f xs)
found_behind flags f xs k x found l e h inv s =
    sym (or_not (unread_among flags (f x)) (unread_among flags (flat_map f (drop (k + 1) xs))) (ap is_some (sym h) ∙ s)) ∙ sym (flat_on flags f xs k x l e) ∙ inv

pub chosen : (b d : Bool) (o p r : Option ℕ) (k : ℕ) → r ≡ (if b then Some k else o) → b ≡ d → o ≡ p → r ≡ (if d then Some k else p)
chosen b d o p r k e f g = e ∙ ap (λ x. if x then Some k else o) f ∙ ap (λ x. if d then Some k else x) g

pub both_found : (x y z w r : Option ℕ) → r ≡ option_or x y → x ≡ z → y ≡ w → r ≡ option_or z w
both_found x y z w r e f g = e ∙ ap (λ o. option_or o y) f ∙ ap (λ o. option_or z o) g

-- the same of a list that is gone through by its rest
pub rest_there : {A : Type 0} (flags : List Bool) (f : A → List ℕ) (all rest it : List A) (x : A) (found : Option ℕ) → it ≡ x ∷ rest → found ≡ unread_among flags (f x)
    → unread_among flags (flat_map f it) ≡ unread_among flags (flat_map f all) → is_some found ≡ true → found ≡ unread_among flags (flat_map f all)
rest_there flags f all rest it x found e h inv s =
    h ∙ sym (or_found (unread_among flags (f x)) (unread_among flags (flat_map f rest)) (ap is_some (sym h) ∙ s)) ∙ sym (among_both flags (f x) (flat_map f rest))
    ∙ sym (ap (λ ys. unread_among flags (flat_map f ys)) e) ∙ inv

pub rest_behind : {A : Type 0} (flags : List Bool) (f : A → List ℕ) (all rest it : List A) (x : A) (found : Option ℕ) → it ≡ x ∷ rest → found ≡ unread_among flags (f x)
    → unread_among flags (flat_map f it) ≡ unread_among flags (flat_map f all) → is_some found ≡ false → unread_among flags (flat_map f rest) ≡ unread_among flags (flat_map f all)
rest_behind flags f all rest it x found e h inv s =
    sym (or_not (unread_among flags (f x)) (unread_among flags (flat_map f rest)) (ap is_some (sym h) ∙ s)) ∙ sym (among_both flags (f x) (flat_map f rest))
    ∙ sym (ap (λ ys. unread_among flags (flat_map f ys)) e) ∙ inv
