-- Lists after edits.
use Rattle.std.proofs.Common.{◌≡◌, ℕ, ◌+◌, ◌<◌, ◌≤◌, zero, suc, zero-add, suc-add, add-one, List, [], ◌∷◌, ◌++◌, length, map, take, drop, set, refl, sym, ap, ◌∙◌, arith, append_assoc, length-append, length-drop}
use Rattle.std.specs.List.{insert, remove}
use Rattle.std.proofs.lemmas.List.{map-append, drop-drop, take_at, drop_at, length-take-le, set_split}
use Rattle.std.proofs.lemmas.List.Edits.{sets, sets-eq}

-- elements written over what comes after a list
pub sets_behind : {X : Type 0} (xs ys vs : List X) → length vs ≤ length ys → sets (xs ++ ys) (length xs) vs ≡ xs ++ (vs ++ drop (length vs) ys)
sets_behind xs ys vs le =
    sets-eq vs (xs ++ ys) (length xs) (omega (arith, length-append xs ys))
    ∙ ap (λ zs. zs ++ vs ++ drop (length xs + length vs) (xs ++ ys)) (take_at xs ys (length xs) refl)
    ∙ ap (λ zs. xs ++ vs ++ zs) (sym (drop-drop (length vs) (length xs) (xs ++ ys)) ∙ ap (λ zs. drop (length vs) zs) (drop_at xs ys (length xs) refl))
    ∙ append_assoc xs vs (drop (length vs) ys)

-- elements written after a new one
pub own_sets : {X : Type 0} (rs : List X) (place behind : ℕ) (r : X) (vs : List X) → place ≤ length rs → length vs ≤ length (drop behind rs)
    → sets (take place rs ++ r ∷ drop behind rs) (place + 1) vs ≡ take place rs ++ ((r ∷ []) ++ (vs ++ drop (length vs) (drop behind rs)))
own_sets rs place behind r vs l le =
    let xs = take place rs ++ r ∷ [] in
    let n : length xs ≡ place + 1 = length-append (take place rs) (r ∷ []) ∙ ap (λ k. k + 1) (length-take-le place rs l) in
    ap (λ k. sets (take place rs ++ r ∷ drop behind rs) k vs) (sym n)
    ∙ ap (λ zs. sets zs (length xs) vs) (sym (append_assoc (take place rs) (r ∷ []) (drop behind rs)))
    ∙ sets_behind xs (drop behind rs) vs le
    ∙ append_assoc (take place rs) (r ∷ []) (vs ++ drop (length vs) (drop behind rs))

-- elements written where one was taken out
pub rest_sets : {X : Type 0} (rs : List X) (place behind : ℕ) (vs : List X) → place ≤ length rs → length vs ≤ length (drop behind rs)
    → sets (take place rs ++ drop behind rs) place vs ≡ take place rs ++ (vs ++ drop (length vs) (drop behind rs))
rest_sets rs place behind vs l le =
    ap (λ k. sets (take place rs ++ drop behind rs) k vs) (sym (length-take-le place rs l)) ∙ sets_behind (take place rs) (drop behind rs) vs le

-- one put in place of another
pub set_parts : {X : Type 0} (rs : List X) (place : ℕ) (r : X) → place < length rs → set rs place r ≡ take place rs ++ r ∷ drop (place + 1) rs
set_parts rs place r l = rw add-one (set_split rs place r l)

-- one taken out
pub remove_parts : {X : Type 0} (rs : List X) (place : ℕ) → remove rs place ≡ take place rs ++ drop (place + 1) rs
remove_parts rs place = rw add-one refl

-- one put in and taken out again
pub insert_remove : {X : Type 0} (rs : List X) (place : ℕ) (r : X) → place ≤ length rs → remove (insert rs place r) place ≡ rs
insert_remove rs zero r l = refl
insert_remove [] (suc place) r l = absurd (omega arith)
insert_remove (x ∷ rs) (suc place) r l = ap (λ zs. x ∷ zs) (insert_remove rs place r (omega arith))

-- the first elements of a list and more after it
pub take_behind : {X : Type 0} (xs ys : List X) (k : ℕ) → take (length xs + k) (xs ++ ys) ≡ xs ++ take k ys
take_behind [] ys k = rw zero-add refl
take_behind (x ∷ xs) ys k = rw suc-add (ap (λ zs. x ∷ zs) (take_behind xs ys k))

-- how many there are where some are written over others
pub length-renewed : {X : Type 0} (ns rs : List X) → length ns ≤ length rs → length (ns ++ drop (length ns) rs) ≡ length rs
length-renewed ns rs le = omega (arith, length-append ns (drop (length ns) rs), length-drop (length ns) rs)

-- what is seen of elements, after an edit
drop_map : {X Y : Type 0} (f : X → Y) (n : ℕ) (xs : List X) → map f (drop n xs) ≡ drop n (map f xs)
drop_map f zero xs = refl
drop_map f (suc n) [] = refl
drop_map f (suc n) (x ∷ xs) = drop_map f n xs

pub take_map : {X Y : Type 0} (f : X → Y) (n : ℕ) (xs : List X) → map f (take n xs) ≡ take n (map f xs)
take_map f zero xs = refl
take_map f (suc n) [] = refl
take_map f (suc n) (x ∷ xs) = ap (λ ys. f x ∷ ys) (take_map f n xs)

pub map_own : {X Y : Type 0} (f : X → Y) (xs : List X) (place behind : ℕ) (x : X) → map f (take place xs ++ x ∷ drop behind xs) ≡ take place (map f xs) ++ ((f x ∷ []) ++ drop behind (map f xs))
map_own f xs place behind x =
    map-append f (take place xs) (x ∷ drop behind xs) ∙ ap (λ ys. ys ++ f x ∷ map f (drop behind xs)) (take_map f place xs) ∙ ap (λ ys. take place (map f xs) ++ f x ∷ ys) (drop_map f behind xs)

pub map_rest : {X Y : Type 0} (f : X → Y) (xs : List X) (place behind : ℕ) → map f (take place xs ++ drop behind xs) ≡ take place (map f xs) ++ ([] ++ drop behind (map f xs))
map_rest f xs place behind =
    map-append f (take place xs) (drop behind xs) ∙ ap (λ ys. ys ++ map f (drop behind xs)) (take_map f place xs) ∙ ap (λ ys. take place (map f xs) ++ ys) (drop_map f behind xs)
