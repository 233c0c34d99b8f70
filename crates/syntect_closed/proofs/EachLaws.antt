-- A fact of each member of a list.
use Rattle.std.proofs.Common.{ℕ, zero, suc, List, [], ◌∷◌, ◌++◌, take, drop, map}
pub use Rattle.syntect_closed.specs.Closed.{Each}
use Rattle.std.specs.List.{flat_map}

pub each-append : {A : Type 0} (P : A → Type 0) (xs ys : List A) → Each P xs → Each P ys → Each P (xs ++ ys)
each-append P [] ys e f = f
each-append P (x ∷ xs) ys e f = (e.0, each-append P xs ys e.1 f)

pub each-flat_map : {A B : Type 0} (P : B → Type 0) (f : A → List B) (xs : List A) → Each (λ x. Each P (f x)) xs → Each P (flat_map f xs)
each-flat_map P f [] e = tt
each-flat_map P f (x ∷ xs) e = each-append P (f x) (flat_map f xs) e.0 (each-flat_map P f xs e.1)

pub each-map : {A B : Type 0} (P : B → Type 0) (f : A → B) (xs : List A) → Each (λ x. P (f x)) xs → Each P (map f xs)
each-map P f [] e = tt
each-map P f (x ∷ xs) e = (e.0, each-map P f xs e.1)

pub each_always : {A : Type 0} (P : A → Type 0) (xs : List A) → ((x : A) → P x) → Each P xs
each_always P [] h = tt
each_always P (x ∷ xs) h = (h x, each_always P xs h)

pub each_of : {A : Type 0} (P Q : A → Type 0) (xs : List A) → ((x : A) → P x → Q x) → Each P xs → Each Q xs
each_of P Q [] f e = tt
each_of P Q (x ∷ xs) f e = (f x e.0, each_of P Q xs f e.1)

pub each-drop : {A : Type 0} (P : A → Type 0) (n : ℕ) (xs : List A) → Each P xs → Each P (drop n xs)
each-drop P zero xs e = e
each-drop P (suc n) [] e = tt
each-drop P (suc n) (x ∷ xs) e = each-drop P n xs e.1

pub each-take : {A : Type 0} (P : A → Type 0) (n : ℕ) (xs : List A) → Each P xs → Each P (take n xs)
each-take P zero xs e = tt
each-take P (suc n) [] e = tt
each-take P (suc n) (x ∷ xs) e = (e.0, each-take P n xs e.1)
