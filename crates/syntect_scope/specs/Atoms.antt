-- A scope is the list of its atom numbers, kept in places of which the unused ones are 0.
use Rattle.std.specs.Prelude.{◌≡◌, ℕ, zero, suc, ◌==◌, ◌-◌, Bool, List, [], ◌∷◌, ◌++◌, length, replicate, refl}
use Rattle.std.specs.List.{starts_with}
use Rattle.std.proofs.Common.{arith, ap, sym}

-- the first list of atoms begins the second
abbrev pub is_prefix : List ℕ → List ℕ → Bool
is_prefix a b = starts_with ◌==◌ b a

-- ---- the places ----

-- the atoms: the numbers before the first 0
abbrev pub atoms_in : List ℕ → List ℕ
atoms_in [] = []
atoms_in (zero ∷ xs) = []
atoms_in (suc n ∷ xs) = suc n ∷ atoms_in xs

-- so many places that hold the atoms
abbrev pub places_of : ℕ → List ℕ → List ℕ
places_of n xs = xs ++ replicate (n - length xs) 0

-- ---- What invariants alone rest on ----

-- from the first 0 on all are 0
abbrev pub IsPacked : List ℕ → Type 0
IsPacked [] = Unit {0}
IsPacked (zero ∷ xs) = xs ≡ replicate (length xs) 0
IsPacked (suc n ∷ xs) = IsPacked xs

-- ---- For proofs and private functions alone ----

pub places_of-atoms_in : (xs : List ℕ) (n : ℕ) → n ≡ length xs → IsPacked xs → places_of n (atoms_in xs) ≡ xs
places_of-atoms_in [] n e p = rw e refl
places_of-atoms_in (zero ∷ xs) n e p =
    let k : n - 0 ≡ suc (length xs) = omega (arith, e) in
    rw k (ap (λ l. 0 ∷ l) (sym p))
places_of-atoms_in (suc m ∷ xs) n e p =
    let k : n - length (suc m ∷ atoms_in xs) ≡ length xs - length (atoms_in xs) = omega (arith, e) in
    rw k (ap (λ l. suc m ∷ l) (places_of-atoms_in xs (length xs) refl p))
