-- Classes one after another.
use Rattle.std.proofs.Common.{◌≡◌, ℕ, ◌+◌, ◌<◌, List, [], ◌∷◌, ◌++◌, length, drop, get_or, sym, ap, ◌∙◌, add-one, append-nil, append_assoc, map}
use Rattle.std.proofs.Math.Seq.{drop-cons}
use Rattle.std.specs.List.{flat_map, join_with_byte}

-- the first one, and a space before each of the others
pub classes_first : (f : ℕ → List ℕ) (a : ℕ) (others : List ℕ) → join_with_byte 32 (map f (a ∷ others)) ≡ f a ++ flat_map (λ b. 32 ∷ f b) others
classes_first f a [] = sym (append-nil (f a))
classes_first f a (b ∷ bs) = ap (λ (l : List ℕ). f a ++ (32 ∷ l)) (classes_first f b bs)

pub atoms_from : (scope : List ℕ) (n : ℕ) → n < length scope → drop n scope ≡ get_or scope n 0 ∷ drop (n + 1) scope
atoms_from scope n l = drop-cons scope n 0 l ∙ ap (λ (m : ℕ). get_or scope n 0 ∷ drop m scope) (sym (add-one n))

-- the first class is written
pub first_class : (f : ℕ → List ℕ) (out new scope : List ℕ) → 0 < length scope → new ≡ out ++ f (get_or scope 0 0) → new ++ flat_map (λ a. 32 ∷ f a) (drop 1 scope) ≡ out ++ join_with_byte 32 (map f scope)
first_class f out new scope l e =
    let rest : List ℕ = flat_map (λ a. 32 ∷ f a) (drop 1 scope) in
    ap (λ (s : List ℕ). s ++ rest) e ∙ append_assoc out (f (get_or scope 0 0)) rest
    ∙ ap (λ (s : List ℕ). out ++ s) (sym (classes_first f (get_or scope 0 0) (drop 1 scope)) ∙ ap (λ (s : List ℕ). join_with_byte 32 (map f s)) (sym (atoms_from scope 0 l)))

-- another one is written
pub next_class : (f : ℕ → List ℕ) (out spaced new scope : List ℕ) (n : ℕ) → n < length scope → spaced ≡ out ++ 32 ∷ [] → new ≡ spaced ++ f (get_or scope n 0)
    → new ++ flat_map (λ a. 32 ∷ f a) (drop (n + 1) scope) ≡ out ++ flat_map (λ a. 32 ∷ f a) (drop n scope)
next_class f out spaced new scope n l e h =
    let word : List ℕ = f (get_or scope n 0) in
    let rest : List ℕ = flat_map (λ a. 32 ∷ f a) (drop (n + 1) scope) in
    ap (λ (s : List ℕ). s ++ rest) (h ∙ ap (λ (s : List ℕ). s ++ word) e ∙ append_assoc out (32 ∷ []) word) ∙ append_assoc out (32 ∷ word) rest
    ∙ ap (λ (s : List ℕ). out ++ flat_map (λ a. 32 ∷ f a) s) (sym (atoms_from scope n l))
