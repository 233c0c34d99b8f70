-- Laws on lists.
use Rattle.std.proofs.Common.{◌≡◌, ◌≢◌, ◌==◌, ℕ, zero, suc, ◌+◌, ◌≤◌, ◌<◌, Bool, true, false, List, [], ◌∷◌, ◌++◌, length, drop, find, refl, ap, sym, ◌∙◌, get_or, arith, append_assoc}
use Rattle.std.proofs.lemmas.Bool.Decides.{nat_tests}
use Rattle.std.specs.List.{flat_map}
use Rattle.std.specs.Option.{option_or}
use Rattle.syntect_reading_choice.proofs.syntect_grammar_proofs.SameLaws.{find_append}

pub drop_past : {X : Type 0} (n : ℕ) (xs : List X) → length xs ≤ n → drop n xs ≡ []
drop_past zero [] l = refl
drop_past zero (x ∷ xs) l = absurd (omega arith)
drop_past (suc n) [] l = refl
drop_past (suc n) (x ∷ xs) l = drop_past n xs (omega arith)

pub flat_map_step : {X Y : Type 0} (f : X → List Y) (x : X) (xs : List X) → flat_map f (x ∷ xs) ≡ f x ++ flat_map f xs
flat_map_step f x xs = refl

pub find_step : {X Y : Type 0} (f : Y → Bool) (g : X → List Y) (x : X) (xs : List X) (rest : List Y) → find f (flat_map g (x ∷ xs) ++ rest) ≡ option_or (find f (g x)) (find f (flat_map g xs ++ rest))
find_step f g x xs rest = rw (append_assoc (g x) (flat_map g xs) rest) (find_append f (g x) (flat_map g xs ++ rest))

-- the element at a place comes first of the rest
pub drop_at : {X : Type 0} (xs : List X) (i : ℕ) (x : X) → i < length xs → x ≡ get_or xs i x → drop i xs ≡ x ∷ drop (i + 1) xs
drop_at [] i x l e = absurd (omega arith)
drop_at (y ∷ xs) zero x l e = ap (λ z. z ∷ xs) (sym e)
drop_at (y ∷ xs) (suc i) x l e =
    let j : i + 1 ≡ suc i = omega arith in
    let k : suc i + 1 ≡ suc (suc i) = omega arith in
    let h : drop i xs ≡ x ∷ drop (i + 1) xs = drop_at xs i x (omega arith) e in
    rw k (rw j at h)

pub find_at : {X Y : Type 0} (f : Y → Bool) (g : X → List Y) (xs : List X) (rest : List Y) (i : ℕ) (x : X) → i < length xs → x ≡ get_or xs i x
    → find f (flat_map g (drop i xs) ++ rest) ≡ option_or (find f (g x)) (find f (flat_map g (drop (i + 1) xs) ++ rest))
find_at f g xs rest i x l e = ap (λ ys. find f (flat_map g ys ++ rest)) (drop_at xs i x l e) ∙ find_step f g x (drop (i + 1) xs) rest

pub tested_true : (a b : ℕ) → (a == b) ≡ true → a ≡ b
tested_true a b e = grind (arith, nat_tests)

pub tested_false : (a b : ℕ) → (a == b) ≡ false → a ≢ b
tested_false a b e = grind (arith, nat_tests)
