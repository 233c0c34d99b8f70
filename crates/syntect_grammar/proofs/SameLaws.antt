-- Lists in which each test finds the same.
use Rattle.std.proofs.Common.{◌≡◌, Bool, true, false, not, ◌&&◌, List, [], ◌∷◌, ◌++◌, map, find, Option, Some, None, refl, ap, sym, ◌∙◌, if◌then◌else◌}
use Rattle.std.specs.Prelude.{is_none}
use Rattle.std.specs.List.{filter_map, cons_option, list_all}
use Rattle.std.specs.Option.{option_or, option_map, option_map_or, option_and_then}
use Rattle.syntect_grammar.specs.Walk.{FindsSame}

pub find_append : {X : Type 0} (f : X → Bool) (xs ys : List X) → find f (xs ++ ys) ≡ option_or (find f xs) (find f ys)
find_append f [] ys = refl
find_append f (x ∷ xs) ys = by (f x) (find_append f xs ys)
  where
    by : (b : Bool) → find f (xs ++ ys) ≡ option_or (find f xs) (find f ys) → (if b then Some x else find f (xs ++ ys)) ≡ option_or (if b then Some x else find f xs) (find f ys)
    by true e = refl
    by false e = e

-- ---- after what was found ----

-- what follows is looked at only where nothing was found before
pub found_past : {X : Type 0} (f : X → Bool) (xs ys zs : List X) → (find f xs ≡ None → find f ys ≡ find f zs) → find f (xs ++ ys) ≡ find f (xs ++ zs)
found_past {X = X} f xs ys zs h = find_append f xs ys ∙ by (find f xs) h ∙ sym (find_append f xs zs)
  where
    by : (o : Option X) → (o ≡ None → find f ys ≡ find f zs) → option_or o (find f ys) ≡ option_or o (find f zs)
    by None h = h refl
    by (Some x) h = refl

pub none_first : {X : Type 0} (f : X → Bool) (xs ys : List X) → find f xs ≡ None → find f (xs ++ ys) ≡ find f ys
none_first f xs ys h = find_append f xs ys ∙ ap (λ o. option_or o (find f ys)) h

pub none_left : {X : Type 0} (f : X → Bool) (xs ys : List X) → find f (xs ++ ys) ≡ None → find f xs ≡ None
none_left f [] ys h = refl
none_left f (x ∷ xs) ys h = by (f x) (none_left f xs ys) h
  where
    by : (b : Bool) → (find f (xs ++ ys) ≡ None → find f xs ≡ None) → (if b then Some x else find f (xs ++ ys)) ≡ None → (if b then Some x else find f xs) ≡ None
    by true r k = cc
    by false r k = r k

pub none_right : {X : Type 0} (f : X → Bool) (xs ys : List X) → find f (xs ++ ys) ≡ None → find f ys ≡ None
none_right f xs ys h = sym (none_first f xs ys (none_left f xs ys h)) ∙ h

pub none_here : {X : Type 0} (f : X → Bool) (x : X) → find f (x ∷ []) ≡ None → f x ≡ false
none_here f x h = by (f x) h
  where
    by : (b : Bool) → (if b then Some x else None) ≡ None → b ≡ false
    by true k = cc
    by false k = refl

-- ---- what keeps what is found ----

pub same_self : {X : Type 0} (xs : List X) → FindsSame xs xs
same_self xs = λ f. refl

pub same_append : {X : Type 0} (xs ys us vs : List X) → FindsSame xs ys → FindsSame us vs → FindsSame (xs ++ us) (ys ++ vs)
same_append xs ys us vs h k = λ f. find_append f xs us ∙ ap (λ o. option_or o (find f us)) (h f) ∙ ap (λ o. option_or (find f ys) o) (k f) ∙ sym (find_append f ys vs)

find_map : {X Y : Type 0} (f : Y → Bool) (g : X → Y) (xs : List X) → find f (map g xs) ≡ option_map g (find (λ x. f (g x)) xs)
find_map f g [] = refl
find_map f g (x ∷ xs) = by (f (g x)) (find_map f g xs)
  where
    by : (b : Bool) → find f (map g xs) ≡ option_map g (find (λ y. f (g y)) xs) → (if b then Some (g x) else find f (map g xs)) ≡ option_map g (if b then Some x else find (λ y. f (g y)) xs)
    by true e = refl
    by false e = e

pub same_map : {X Y : Type 0} (g : X → Y) (xs ys : List X) → FindsSame xs ys → FindsSame (map g xs) (map g ys)
same_map g xs ys h = λ f. find_map f g xs ∙ ap (option_map g) (h (λ x. f (g x))) ∙ sym (find_map f g ys)

-- a test of what a function gives, if it gives something
abbrev pub test_of : {X Y : Type 0} → (Y → Bool) → (X → Option Y) → X → Bool
test_of f g x = option_map_or f (g x) false

find_filter_map : {X Y : Type 0} (f : Y → Bool) (g : X → Option Y) (xs : List X) → find f (filter_map g xs) ≡ option_and_then g (find (test_of f g) xs)
find_filter_map f g [] = refl
find_filter_map {X = X} {Y = Y} f g (x ∷ xs) = by (g x) refl (find_filter_map f g xs)
  where
    given : (y : Y) → g x ≡ Some y → (b : Bool) → find f (filter_map g xs) ≡ option_and_then g (find (test_of f g) xs) → (if b then Some y else find f (filter_map g xs)) ≡ option_and_then g (if b then Some x else find (test_of f g) xs)
    given y e true r = sym e
    given y e false r = r

    by : (o : Option Y) → g x ≡ o → find f (filter_map g xs) ≡ option_and_then g (find (test_of f g) xs) → find f (cons_option o (filter_map g xs)) ≡ option_and_then g (if option_map_or f o false then Some x else find (test_of f g) xs)
    by None e r = r
    by (Some y) e r = given y e (f y) r

pub same_filter_map : {X Y : Type 0} (g : X → Option Y) (xs ys : List X) → FindsSame xs ys → FindsSame (filter_map g xs) (filter_map g ys)
same_filter_map g xs ys h = λ f. find_filter_map f g xs ∙ ap (option_and_then g) (h (test_of f g)) ∙ sym (find_filter_map f g ys)

all_by_find : {X : Type 0} (p : X → Bool) (xs : List X) → list_all p xs ≡ is_none (find (λ x. not (p x)) xs)
all_by_find p [] = refl
all_by_find p (x ∷ xs) = by (p x) (all_by_find p xs)
  where
    by : (b : Bool) → list_all p xs ≡ is_none (find (λ y. not (p y)) xs) → (b && list_all p xs) ≡ is_none (if not b then Some x else find (λ y. not (p y)) xs)
    by true e = e
    by false e = refl

pub same_all : {X : Type 0} (p : X → Bool) (xs ys : List X) → FindsSame xs ys → list_all p xs ≡ list_all p ys
same_all p xs ys h = all_by_find p xs ∙ ap is_none (h (λ x. not (p x))) ∙ sym (all_by_find p ys)
