-- The atoms stand before the first 0.
use Rattle.std.proofs.Common.{◌≡◌, ◌<◌, ◌≤◌, ℕ, zero, suc, List, [], ◌∷◌, ◌++◌, length, drop, get_or, set, replicate, refl, ap, arith, sym, ◌∙◌}
use Rattle.std.proofs.lemmas.List.{length-replicate}
use Rattle.syntect_scope.specs.Atoms.{atoms_in, IsPacked}

zero_at : (n i : ℕ) → get_or (replicate {A = ℕ} n 0) i 0 ≡ 0
zero_at zero i = refl
zero_at (suc n) zero = refl
zero_at (suc n) (suc i) = zero_at n i

-- the atom in a place is that of the list
pub atom_in_place : (xs : List ℕ) (i : ℕ) → IsPacked xs → get_or (atoms_in xs) i 0 ≡ get_or xs i 0
atom_in_place [] i p = refl
atom_in_place (zero ∷ xs) zero p = refl
atom_in_place (zero ∷ xs) (suc i) p = sym (rw p (zero_at (length xs) i))
atom_in_place (suc n ∷ xs) zero p = refl
atom_in_place (suc n ∷ xs) (suc i) p = atom_in_place xs i p

-- there are no more atoms than places
pub atoms_within : (xs : List ℕ) → length (atoms_in xs) ≤ length xs
atoms_within [] = omega arith
atoms_within (zero ∷ xs) = omega arith
atoms_within (suc n ∷ xs) = omega (arith, atoms_within xs)

pub no_atoms : (n : ℕ) → atoms_in (replicate n 0) ≡ []
no_atoms zero = refl
no_atoms (suc n) = refl

packed_zeros : (n : ℕ) → IsPacked (replicate n 0)
packed_zeros zero = tt
packed_zeros (suc n) = ap (λ m. replicate {A = ℕ} m 0) (sym (length-replicate {A = ℕ} n 0))

-- ---- lists of places one after another ----

zeros_front : (xs ys : List ℕ) (n : ℕ) → xs ++ ys ≡ replicate n 0 → xs ≡ replicate (length xs) 0
zeros_front [] ys n e = refl
zeros_front (x ∷ xs) ys zero e = cc
zeros_front (x ∷ xs) ys (suc n) e = rw (ap (λ (l : List ℕ). get_or l 0 0) e, sym (zeros_front xs ys n (ap (λ (l : List ℕ). drop 1 l) e))) refl

pub zeros_end : (xs ys : List ℕ) (n : ℕ) → xs ++ ys ≡ replicate n 0 → ys ≡ replicate (length ys) 0
zeros_end [] ys n e = e ∙ ap (λ (m : ℕ). replicate {A = ℕ} m 0) (sym (ap length e ∙ length-replicate {A = ℕ} n 0))
zeros_end (x ∷ xs) ys zero e = cc
zeros_end (x ∷ xs) ys (suc n) e = zeros_end xs ys n (ap (λ (l : List ℕ). drop 1 l) e)

pub atoms_append : (xs ys : List ℕ) → IsPacked (xs ++ ys) → atoms_in (xs ++ ys) ≡ atoms_in xs ++ atoms_in ys
atoms_append [] ys p = refl
atoms_append (zero ∷ xs) ys p = sym (ap atoms_in (zeros_end xs ys (length (xs ++ ys)) p) ∙ no_atoms (length ys))
atoms_append (suc x ∷ xs) ys p = ap (λ (l : List ℕ). suc x ∷ l) (atoms_append xs ys p)

pub packed_front : (xs ys : List ℕ) → IsPacked (xs ++ ys) → IsPacked xs
packed_front [] ys p = tt
packed_front (zero ∷ xs) ys p = zeros_front xs ys (length (xs ++ ys)) p
packed_front (suc x ∷ xs) ys p = packed_front xs ys p

pub packed_back : (xs ys : List ℕ) → IsPacked (xs ++ ys) → IsPacked ys
packed_back [] ys p = p
packed_back (zero ∷ xs) ys p = rw (zeros_end xs ys (length (xs ++ ys)) p) (packed_zeros (length ys))
packed_back (suc x ∷ xs) ys p = packed_back xs ys p

-- ---- an atom in the first unused place ----

pub unused_place : (xs : List ℕ) → get_or xs (length (atoms_in xs)) 0 ≡ 0
unused_place [] = refl
unused_place (zero ∷ xs) = refl
unused_place (suc x ∷ xs) = unused_place xs

-- the first list has an unused place
pub push_front : (xs ys : List ℕ) (a : ℕ) → IsPacked (xs ++ ys) → length (atoms_in xs) < length xs → 0 < a
    → (atoms_in (set xs (length (atoms_in xs)) a ++ ys) ≡ atoms_in (xs ++ ys) ++ a ∷ []) × IsPacked (set xs (length (atoms_in xs)) a ++ ys)
push_front [] ys a p l q = absurd (omega (arith, l))
push_front (zero ∷ xs) ys zero p l q = absurd (omega (arith, q))
push_front (zero ∷ xs) ys (suc a) p l q = (ap (λ (zs : List ℕ). suc a ∷ zs) (ap atoms_in p ∙ no_atoms (length (xs ++ ys))), rw p (packed_zeros (length (xs ++ ys))))
push_front (suc x ∷ xs) ys a p l q =
    let ih : (atoms_in (set xs (length (atoms_in xs)) a ++ ys) ≡ atoms_in (xs ++ ys) ++ a ∷ []) × IsPacked (set xs (length (atoms_in xs)) a ++ ys) = push_front xs ys a p (omega (arith, l)) q in
    (ap (λ (zs : List ℕ). suc x ∷ zs) ih.0, ih.1)

-- only the second list has one
pub push_back : (xs ys : List ℕ) (a : ℕ) → IsPacked (xs ++ ys) → length xs ≤ length (atoms_in xs) → length (atoms_in ys) < length ys → 0 < a
    → (atoms_in (xs ++ set ys (length (atoms_in ys)) a) ≡ atoms_in (xs ++ ys) ++ a ∷ []) × IsPacked (xs ++ set ys (length (atoms_in ys)) a)
push_back [] [] a p k l q = absurd (omega (arith, l))
push_back [] (zero ∷ ys) zero p k l q = absurd (omega (arith, q))
push_back [] (zero ∷ ys) (suc a) p k l q = (ap (λ (zs : List ℕ). suc a ∷ zs) (ap atoms_in p ∙ no_atoms (length ys)), rw p (packed_zeros (length ys)))
push_back [] (suc y ∷ ys) a p k l q =
    let ih : (atoms_in (set ys (length (atoms_in ys)) a) ≡ atoms_in ys ++ a ∷ []) × IsPacked (set ys (length (atoms_in ys)) a) = push_back [] ys a p (omega arith) (omega (arith, l)) q in
    (ap (λ (zs : List ℕ). suc y ∷ zs) ih.0, ih.1)
push_back (zero ∷ xs) ys a p k l q = absurd (omega (arith, k))
push_back (suc x ∷ xs) ys a p k l q =
    let ih : (atoms_in (xs ++ set ys (length (atoms_in ys)) a) ≡ atoms_in (xs ++ ys) ++ a ∷ []) × IsPacked (xs ++ set ys (length (atoms_in ys)) a) = push_back xs ys a p (omega (arith, k)) l q in
    (ap (λ (zs : List ℕ). suc x ∷ zs) ih.0, ih.1)
