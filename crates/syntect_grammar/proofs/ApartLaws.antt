-- Sets that are taken apart and built again.
use Rattle.std.proofs.Common.{◌≡◌, List, [], ◌∷◌, ◌++◌, length, map, sym, ap, ◌∙◌, arith}
use Rattle.std.specs.List.{zip, fold}
use Rattle.std.proofs.lemmas.List.{map-append}

-- where one of two lists has ended
pub first_ended : {A B C : Type 0} (f : C → A × B → C) (xs : List A) (ys : List B) (c all : C) → length xs ≡ 0 → fold f c (zip xs ys) ≡ all → c ≡ all
first_ended f [] ys c all n e = e
first_ended f (x ∷ xs) ys c all n e = absurd (omega (arith, n))

pub second_ended : {A B C : Type 0} (f : C → A × B → C) (xs : List A) (ys : List B) (c all : C) → length ys ≡ 0 → fold f c (zip xs ys) ≡ all → c ≡ all
second_ended f [] ys c all n e = e
second_ended f (x ∷ xs) [] c all n e = e
second_ended f (x ∷ xs) (y ∷ ys) c all n e = absurd (omega (arith, n))

pub one_more : {A B : Type 0} (f : A → B) (xs : List A) (x : A) (y : B) (before after : List B) → before ≡ map f xs → y ≡ f x → after ≡ before ++ y ∷ [] → after ≡ map f (xs ++ x ∷ [])
one_more {A} {B} f xs x y before after b h a =
    a ∙ ap (λ (z : B). before ++ z ∷ []) h ∙ ap (λ (zs : List B). zs ++ f x ∷ []) b ∙ sym (map-append f xs (x ∷ []))
