-- A fact of each member of a list.
use Rattle.std.proofs.Common.{◌≡◌, ℕ, zero, suc, Bool, true, false, ◌&&◌, List, [], ◌∷◌, ◌++◌, take, drop, map, cond, find, Option, Some, None, refl}
use Rattle.std.specs.List.{filter_map, flat_map, cons_option, list_all}

abbrev pub Each : {A : Type 0} → (A → Type 0) → List A → Type 0
Each P [] = Unit {0}
Each P (x ∷ xs) = P x × Each P xs

pub each-append : {A : Type 0} (P : A → Type 0) (xs ys : List A) → Each P xs → Each P ys → Each P (xs ++ ys)
each-append P [] ys e f = f
each-append P (x ∷ xs) ys e f = (e.0, each-append P xs ys e.1 f)

pub each-flat_map : {A B : Type 0} (P : B → Type 0) (f : A → List B) (xs : List A) → Each (λ x. Each P (f x)) xs → Each P (flat_map f xs)
each-flat_map P f [] e = tt
each-flat_map P f (x ∷ xs) e = each-append P (f x) (flat_map f xs) e.0 (each-flat_map P f xs e.1)

pub each-map : {A B : Type 0} (P : B → Type 0) (f : A → B) (xs : List A) → Each (λ x. P (f x)) xs → Each P (map f xs)
each-map P f [] e = tt
each-map P f (x ∷ xs) e = (e.0, each-map P f xs e.1)

pub each_always : {A : Type 0} (P : A → Type 0) (xs : List A) → ((x : A) → P x) → Each P xs
each_always P [] h = tt
each_always P (x ∷ xs) h = (h x, each_always P xs h)

pub each_of : {A : Type 0} (P Q : A → Type 0) (xs : List A) → ((x : A) → P x → Q x) → Each P xs → Each Q xs
each_of P Q [] f e = tt
each_of P Q (x ∷ xs) f e = (f x e.0, each_of P Q xs f e.1)

pub each-drop : {A : Type 0} (P : A → Type 0) (n : ℕ) (xs : List A) → Each P xs → Each P (drop n xs)
each-drop P zero xs e = e
each-drop P (suc n) [] e = tt
each-drop P (suc n) (x ∷ xs) e = each-drop P n xs e.1

pub each-take : {A : Type 0} (P : A → Type 0) (n : ℕ) (xs : List A) → Each P xs → Each P (take n xs)
each-take P zero xs e = tt
each-take P (suc n) [] e = tt
each-take P (suc n) (x ∷ xs) e = (e.0, each-take P n xs e.1)

each-cons_option : {B : Type 0} (P : B → Type 0) (o : Option B) (ys : List B) → ((y : B) → o ≡ Some y → P y) → Each P ys → Each P (cons_option o ys)
each-cons_option P None ys h e = e
each-cons_option P (Some y) ys h e = (h y refl, e)

pub each-filter_map : {A B : Type 0} (P : A → Type 0) (Q : B → Type 0) (f : A → Option B) (xs : List A) → ((x : A) (y : B) → P x → f x ≡ Some y → Q y) → Each P xs → Each Q (filter_map f xs)
each-filter_map P Q f [] h e = tt
each-filter_map P Q f (x ∷ xs) h e = each-cons_option Q (f x) (filter_map f xs) (λ y k. h x y e.0 k) (each-filter_map P Q f xs h e.1)

found_one : {A : Type 0} (P : A → Type 0) (b : Bool) (x : A) (rest : Option A) (y : A) → P x → (rest ≡ Some y → P y) → cond b (Some x) rest ≡ Some y → P y
found_one P true x rest y p h e = let k : x ≡ y = cc in rw (← k) p
found_one P false x rest y p h e = h e

-- what is found is of the list
pub each-find : {A : Type 0} (P : A → Type 0) (test : A → Bool) (xs : List A) (y : A) → Each P xs → find test xs ≡ Some y → P y
each-find P test [] y e k = cc
each-find P test (x ∷ xs) y e k = found_one P (test x) x (find test xs) y e.0 (λ k. each-find P test xs y e.1 k) k

both : (a b : Bool) → (a && b) ≡ true → (a ≡ true) × (b ≡ true)
both true b e = (refl, e)
both false b e = cc

pub each-all : {A : Type 0} (test : A → Bool) (xs : List A) → list_all test xs ≡ true → Each (λ x. test x ≡ true) xs
each-all test [] e = tt
each-all test (x ∷ xs) e = let k : (test x ≡ true) × (list_all test xs ≡ true) = both (test x) (list_all test xs) e in (k.0, each-all test xs k.1)

-- nothing is found where no member passes, and the other way round
pub find-each : {A : Type 0} (test : A → Bool) (xs : List A) → Each (λ x. test x ≡ false) xs → find test xs ≡ None
find-each test [] e = refl
find-each test (x ∷ xs) e = rw e.0 (find-each test xs e.1)

missed : {A : Type 0} (b : Bool) (x : A) (rest : Option A) → cond b (Some x) rest ≡ None → (b ≡ false) × (rest ≡ None)
missed true x rest e = cc
missed false x rest e = (refl, e)

pub each-find_none : {A : Type 0} (test : A → Bool) (xs : List A) → find test xs ≡ None → Each (λ x. test x ≡ false) xs
each-find_none test [] e = tt
each-find_none test (x ∷ xs) e = let k : (test x ≡ false) × (find test xs ≡ None) = missed (test x) x (find test xs) e in (k.0, each-find_none test xs k.1)
