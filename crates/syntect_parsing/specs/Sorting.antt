-- A stable sort by a number.
use Rattle.std.specs.Prelude.{ℕ, nat_lt, List, [], ◌∷◌, if◌then◌else◌}

-- ---- For proofs and private functions alone ----

-- an element put after those of lower numbers
abbrev pub put_behind : {X : Type 0} → (X → ℕ) → X → List X → List X
put_behind n x [] = x ∷ []
put_behind n x (y ∷ ys) = if nat_lt (n y) (n x) then y ∷ put_behind n x ys else x ∷ y ∷ ys

-- lower numbers first, elements of one number in the order of the list
abbrev pub in_order : {X : Type 0} → (X → ℕ) → List X → List X
in_order n [] = []
in_order n (x ∷ xs) = put_behind n x (in_order n xs)
