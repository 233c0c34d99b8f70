-- Words and their places.
use Rattle.std.proofs.Common.{◌≡◌, ◌≢◌, ℕ, zero, suc, ◌+◌, ◌*◌, ◌-◌, ◌/◌, ◌%◌, ◌^◌, ◌<◌, ◌≤◌, List, [], ◌∷◌, ◌++◌, length, length-append, length-drop, take-append-drop, take, drop, get_or, set, length-set, replicate, refl, ap, sym, ◌∙◌, arith, subst, Bool, true, false, inl, inr, lit<}
use Rattle.std.proofs.lemmas.Nat.{mod-pow-add, mod_below, pow_pos, pow-add, mul-add-lt, same_from_place, field_of, shr_high, shl-shr, mul-le, and_mask, or_shifted, shl_whole, shl_below, trailing_le}
use Rattle.std.proofs.lemmas.List.{length-replicate, length-take}
use Rattle.std.proofs.lemmas.Bool.Decides.{eqb_tells, same_from_decides, Decides-and, Decides-eqb, Decides-like}
use Rattle.std.proofs.lemmas.Bool.{cases_lt}
use Rattle.std.proofs.lemmas.Slice.Eq.{slice_eq-Decides}
use Rattle.std.specs.Cmp.{nat_cmp_is}
use Rattle.std.specs.Ordering.{nat_cmp, ordering_then}
use Rattle.std.specs.Cmp.Lexicographic.{pointwise, slice_cmp}
use Rattle.std.specs.Prelude.{◌==◌, ◌&&◌}
use Rattle.std.proofs.Common.{Ordering, Less, Equal, Greater}
use Rattle.std.proofs.lemmas.Nat.Bits.{ones_shl, and_high_mask}
use Rattle.std.specs.Prelude.{bit_and, bit_or}
use Rattle.std.proofs.Math.Nat.{mul-mod_left, mod-eq_of_lt, div-eq_of_lt}
use Rattle.std.specs.Int.Count.{count_trailing_zeros, under}
use Rattle.syntect_scope.specs.Atoms.{atoms_in, IsPacked, places_of-atoms_in, is_prefix}
use Rattle.syntect_scope.proofs.AtomLaws.{atoms_within, no_atoms, zeros_end, unused_place}
use Rattle.syntect_scope.specs.Packing.{places, word_of, places_in, places_length, word_of_places, word_back, high_of, low_of, high_back, low_back}

-- each number has sixteen bits
abbrev pub AreSmall : List ℕ → Type 0
AreSmall [] = Unit {0}
AreSmall (a ∷ rest) = (a < 65536) × AreSmall rest

pub places_small : (n w : ℕ) → AreSmall (places n w)
places_small zero w = tt
places_small (suc n) w = (mod_below (w / 2 ^ (n * 16)) 65536 (lit< tt), places_small n w)

-- one place more
more_bits : (n : ℕ) → 2 ^ (suc n * 16) ≡ 2 ^ (n * 16) * 65536
more_bits n = let e : suc n * 16 ≡ n * 16 + 16 = omega arith in rw e (pow-add 2 (n * 16) 16)

pub word_below : (xs : List ℕ) → AreSmall xs → word_of xs < 2 ^ (length xs * 16)
word_below [] s = omega arith
word_below (a ∷ rest) s = rw (more_bits (length rest)) (mul-add-lt a (2 ^ (length rest * 16)) (word_of rest) 65536 s.0 (word_below rest s.1))

-- a word has the places that it was made of
pub same_word : (xs ys : List ℕ) → AreSmall xs → AreSmall ys → length xs ≡ length ys → word_of xs ≡ word_of ys → xs ≡ ys
same_word [] [] s t l e = refl
same_word [] (y ∷ ys) s t l e = absurd (omega (arith, l))
same_word (x ∷ xs) [] s t l e = absurd (omega (arith, l))
same_word (x ∷ xs) (y ∷ ys) s t l e =
    let k : length xs ≡ length ys = omega (arith, l) in
    let below : word_of ys < 2 ^ (length xs * 16) = rw k (word_below ys t.1) in
    let f : x * 2 ^ (length xs * 16) + word_of xs ≡ y * 2 ^ (length xs * 16) + word_of ys = e ∙ ap (λ (n : ℕ). y * 2 ^ (n * 16) + word_of ys) (sym k) in
    let h : (x ≡ y) × (word_of xs ≡ word_of ys) = same_from_place x (word_of xs) y (word_of ys) (2 ^ (length xs * 16)) (word_below xs s.1) below f in
    rw (h.0, same_word xs ys s.1 t.1 k h.1) refl

pub places_word_of : (n : ℕ) (xs : List ℕ) → AreSmall xs → length xs ≡ n → places n (word_of xs) ≡ xs
places_word_of n xs s l =
    let below : word_of xs < 2 ^ (n * 16) = rw (sym l) (word_below xs s) in
    same_word (places n (word_of xs)) xs (places_small n (word_of xs)) s (places_length n (word_of xs) ∙ sym l) (word_of_places n (word_of xs) ∙ mod-eq_of_lt below)

-- ---- lists of places one after another ----

pub word_append : (xs ys : List ℕ) → word_of (xs ++ ys) ≡ word_of xs * 2 ^ (length ys * 16) + word_of ys
word_append [] ys = omega arith
word_append (x ∷ xs) ys =
    let e : (length xs + length ys) * 16 ≡ length xs * 16 + length ys * 16 = omega arith in
    let p : 2 ^ ((length xs + length ys) * 16) ≡ 2 ^ (length xs * 16) * 2 ^ (length ys * 16) = rw e (pow-add 2 (length xs * 16) (length ys * 16)) in
    rw (length-append xs ys, p, word_append xs ys) (omega arith)

pub word_zeros : (n : ℕ) → word_of (replicate n 0) ≡ 0
word_zeros zero = refl
word_zeros (suc n) = rw (word_zeros n) (omega arith)

-- ---- the lowest bit that is set ----

pub divided_zeros : (j k n : ℕ) → j ≤ k → n % 2 ^ j ≡ 0 → j ≤ count_trailing_zeros k n
unfolding count_trailing_zeros
divided_zeros zero k n l e = omega arith
divided_zeros (suc j) zero n l e = absurd (omega (arith, l))
divided_zeros (suc j) (suc k) n l e =
    let p : suc j ≡ j + 1 = omega arith in
    let m : (n / 2 % 2 ^ j) * 2 + n % 2 ≡ 0 = sym (mod-pow-add n j 1) ∙ ap (λ (i : ℕ). n % 2 ^ i) (sym p) ∙ e in
    let even : n % 2 ≡ 0 = omega (arith, m) in
    let rest : n / 2 % 2 ^ j ≡ 0 = omega (arith, m) in
    rw even (omega (arith, divided_zeros j k (n / 2) (omega (arith, l)) rest))

pub zeros_divided : (j k n : ℕ) → j ≤ count_trailing_zeros k n → n % 2 ^ j ≡ 0
unfolding count_trailing_zeros
zeros_divided zero k n l = omega arith
zeros_divided (suc j) zero n l = absurd (omega (arith, l))
zeros_divided (suc j) (suc k) n l = go (zeros_divided j k (n / 2)) (n % 2) refl l
  where
    go : (j ≤ count_trailing_zeros k (n / 2) → n / 2 % 2 ^ j ≡ 0) → (r : ℕ) → n % 2 ≡ r → suc j ≤ under r (count_trailing_zeros k (n / 2)) → n % 2 ^ suc j ≡ 0
    go rest zero e h =
        let p : suc j ≡ j + 1 = omega arith in
        rw p (mod-pow-add n j 1 ∙ rw (rest (omega (arith, h)), e) refl)
    go rest (suc r) e h = absurd (omega (arith, h))

-- ---- the word of a list of atoms ----

-- the number is none of no atom
abbrev pub ArePositive : List ℕ → Type 0
ArePositive [] = Unit {0}
ArePositive (a ∷ rest) = (0 < a) × ArePositive rest

pub atoms_positive : (xs : List ℕ) → ArePositive (atoms_in xs)
atoms_positive [] = tt
atoms_positive (zero ∷ xs) = tt
atoms_positive (suc x ∷ xs) = (omega arith, atoms_positive xs)

pub atoms_small : (xs : List ℕ) → AreSmall xs → AreSmall (atoms_in xs)
atoms_small [] s = tt
atoms_small (zero ∷ xs) s = tt
atoms_small (suc x ∷ xs) s = (s.0, atoms_small xs s.1)

-- the unused places of a word are a power of two
pub word_atoms : (n : ℕ) (xs : List ℕ) → length xs ≡ n → IsPacked xs → word_of xs ≡ word_of (atoms_in xs) * 2 ^ ((n - length (atoms_in xs)) * 16)
word_atoms n xs l p =
    let z : ℕ = n - length (atoms_in xs) in
    let r : length (replicate {A = ℕ} z 0) ≡ z = length-replicate {A = ℕ} z 0 in
    ap word_of (sym (places_of-atoms_in xs n (sym l) p)) ∙ word_append (atoms_in xs) (replicate z 0)
    ∙ rw (r, word_zeros z) (omega arith)

-- the lowest atom is no zero
last_atom : (xs : List ℕ) → ArePositive xs → AreSmall xs → 0 < length xs → word_of xs % 65536 ≢ 0
last_atom [] p s l = absurd (omega (arith, l))
last_atom (a ∷ []) p s l = λ e. omega (arith, e, p.0, s.0)
last_atom (a ∷ b ∷ rest) p s l = λ e.
    let m : word_of (a ∷ b ∷ rest) % 65536 ≡ word_of (b ∷ rest) % 65536 =
    rw (more_bits (length rest)) (omega arith) in
    last_atom (b ∷ rest) p.1 s.1 (omega arith) (sym m ∙ e)

-- sixteen zeros stand for each unused place
pub trailing_places : (n k : ℕ) (xs : List ℕ) → length xs ≡ n → n * 16 ≡ k → AreSmall xs → IsPacked xs → count_trailing_zeros k (word_of xs) / 16 ≡ n - length (atoms_in xs)
trailing_places n k xs l m s p =
    let v : List ℕ = atoms_in xs in
    let z : ℕ = n - length v in
    let w : word_of xs ≡ word_of v * 2 ^ (z * 16) = word_atoms n xs l p in
    let low : word_of xs % 2 ^ (z * 16) ≡ 0 = rw w (mul-mod_left (word_of v) (2 ^ (z * 16))) in
    let least : z * 16 ≤ count_trailing_zeros k (word_of xs) = divided_zeros (z * 16) k (word_of xs) (omega (arith, m)) low in
    elim (cases_lt (count_trailing_zeros k (word_of xs)) (16 + z * 16)) [
      | inl h ↦ omega (arith, least, h)
      | inr h ↦
          let u : count_trailing_zeros k (word_of xs) ≤ k = trailing_le k (word_of xs) in
          let whole : word_of xs % 2 ^ (16 + z * 16) ≡ 0 = zeros_divided (16 + z * 16) k (word_of xs) h in
          let last : word_of v % 65536 ≡ 0 =
          ap (λ (i : ℕ). i % 65536) (sym (shl-shr (word_of v) (z * 16)) ∙ ap (λ (i : ℕ). i / 2 ^ (z * 16)) (sym w)) ∙ sym (field_of (word_of xs) 16 (z * 16)) ∙ rw whole (div-eq_of_lt (pow_pos (z * 16))) in
          elim (cases_lt 0 (length v)) [
            | inl some ↦ absurd (last_atom v (atoms_positive xs) (atoms_small xs s) some last)
            | inr none ↦ omega (arith, none, h, u, m)
          ]
    ]

-- ---- order and equality ----

-- numbers of two parts are compared by the first and then by the second
pub parts_cmp : (p a b c d : ℕ) → b < p → d < p → nat_cmp (a * p + b) (c * p + d) ≡ ordering_then (nat_cmp a c) (nat_cmp b d)
parts_cmp p a b c d l m =
    elim (cases_lt a c) [
      | inl h ↦
          let q : suc a * p ≤ c * p = mul-le (suc a) p c p (omega (arith, h)) (omega arith) in
          rw (sym (nat_cmp_is a c Less h)) (sym (nat_cmp_is (a * p + b) (c * p + d) Less (omega (arith, q, l))))
      | inr g ↦ elim (cases_lt c a) [
        | inl h ↦
            let q : suc c * p ≤ a * p = mul-le (suc c) p a p (omega (arith, h)) (omega arith) in
            rw (sym (nat_cmp_is a c Greater h)) (sym (nat_cmp_is (a * p + b) (c * p + d) Greater (omega (arith, q, m))))
        | inr h ↦
            let e : a ≡ c = omega (arith, g, h) in
            rw (sym (nat_cmp_is a c Equal e)) (rw e (low_parts (c * p) b d))
      ]
    ]
  where
    low_parts : (n b d : ℕ) → nat_cmp (n + b) (n + d) ≡ nat_cmp b d
    low_parts n b d =
        elim (cases_lt b d) [
          | inl h ↦ sym (nat_cmp_is (n + b) (n + d) Less (omega (arith, h))) ∙ nat_cmp_is b d Less h
          | inr g ↦ elim (cases_lt d b) [
            | inl h ↦ sym (nat_cmp_is (n + b) (n + d) Greater (omega (arith, h))) ∙ nat_cmp_is b d Greater h
            | inr h ↦ sym (nat_cmp_is (n + b) (n + d) Equal (omega (arith, g, h))) ∙ nat_cmp_is b d Equal (omega (arith, g, h))
          ]
        ]

-- the order of words is that of their places
pub word_cmp : (xs ys : List ℕ) → AreSmall xs → AreSmall ys → length xs ≡ length ys → slice_cmp nat_cmp xs ys ≡ nat_cmp (word_of xs) (word_of ys)
word_cmp [] [] s t l = refl
word_cmp [] (y ∷ ys) s t l = absurd (omega (arith, l))
word_cmp (x ∷ xs) [] s t l = absurd (omega (arith, l))
word_cmp (x ∷ xs) (y ∷ ys) s t l =
    let k : length xs ≡ length ys = omega (arith, l) in
    let below : word_of xs < 2 ^ (length ys * 16) = rw (sym k) (word_below xs s.1) in
    let step : nat_cmp (x * 2 ^ (length ys * 16) + word_of xs) (y * 2 ^ (length ys * 16) + word_of ys) ≡ ordering_then (nat_cmp x y) (nat_cmp (word_of xs) (word_of ys)) =
    parts_cmp (2 ^ (length ys * 16)) x (word_of xs) y (word_of ys) below (word_below ys t.1) in
    rw (word_cmp xs ys s.1 t.1 k) (sym step ∙ ap (λ (n : ℕ). nat_cmp (x * 2 ^ (n * 16) + word_of xs) (word_of (y ∷ ys))) (sym k))

-- unused places come before all atoms
pub atoms_cmp : (xs ys : List ℕ) → length xs ≡ length ys → IsPacked xs → IsPacked ys → slice_cmp nat_cmp (atoms_in xs) (atoms_in ys) ≡ slice_cmp nat_cmp xs ys
atoms_cmp [] [] l p q = refl
atoms_cmp [] (y ∷ ys) l p q = absurd (omega (arith, l))
atoms_cmp (x ∷ xs) [] l p q = absurd (omega (arith, l))
atoms_cmp (zero ∷ xs) (zero ∷ ys) l p q =
    let k : length xs ≡ length ys = omega (arith, l) in
    let e : xs ≡ ys = p ∙ ap (λ (n : ℕ). replicate {A = ℕ} n 0) k ∙ sym q in
    rw e (sym (cmp_same ys))
  where
    cmp_same : (zs : List ℕ) → slice_cmp nat_cmp zs zs ≡ Equal
    cmp_same [] = refl
    cmp_same (z ∷ zs) = rw (sym (nat_cmp_is z z Equal refl)) (cmp_same zs)
atoms_cmp (zero ∷ xs) (suc y ∷ ys) l p q = rw (sym (nat_cmp_is 0 (suc y) Less (omega arith))) refl
atoms_cmp (suc x ∷ xs) (zero ∷ ys) l p q = rw (sym (nat_cmp_is (suc x) 0 Greater (omega arith))) refl
atoms_cmp (suc x ∷ xs) (suc y ∷ ys) l p q = ap (ordering_then (nat_cmp (suc x) (suc y))) (atoms_cmp xs ys (omega (arith, l)) p q)

pub cmp_append : (xs ys us vs : List ℕ) → length xs ≡ length ys → slice_cmp nat_cmp (xs ++ us) (ys ++ vs) ≡ ordering_then (slice_cmp nat_cmp xs ys) (slice_cmp nat_cmp us vs)
cmp_append [] [] us vs l = refl
cmp_append [] (y ∷ ys) us vs l = absurd (omega (arith, l))
cmp_append (x ∷ xs) [] us vs l = absurd (omega (arith, l))
cmp_append (x ∷ xs) (y ∷ ys) us vs l = rw (cmp_append xs ys us vs (omega (arith, l))) (then_assoc (nat_cmp x y) (slice_cmp nat_cmp xs ys) (slice_cmp nat_cmp us vs))
  where
    then_assoc : (a b c : Ordering) → ordering_then a (ordering_then b c) ≡ ordering_then (ordering_then a b) c
    then_assoc Less b c = refl
    then_assoc Equal b c = refl
    then_assoc Greater b c = refl

-- ---- beginnings ----

-- a list of atoms begins another one where it is its front
pub atoms_begin : (v ys : List ℕ) → ArePositive v → length v ≤ length ys → is_prefix v (atoms_in ys) ≡ pointwise ◌==◌ v (take (length v) ys)
atoms_begin [] ys p l = refl
atoms_begin (zero ∷ v) ys p l = absurd (omega (arith, p.0))
atoms_begin (suc x ∷ v) [] p l = absurd (omega (arith, l))
atoms_begin (suc x ∷ v) (zero ∷ ys) p l = elim (eqb_tells (suc x) 0) [ inl e ↦ absurd (omega (arith, e.1)) | inr e ↦ rw e.0 refl ]
atoms_begin (suc x ∷ v) (suc y ∷ ys) p l = ap (λ (b : Bool). (suc x == suc y) && b) (atoms_begin v ys p.1 (omega (arith, l)))

small_take : (n : ℕ) (xs : List ℕ) → AreSmall xs → AreSmall (take n xs)
small_take zero xs s = tt
small_take (suc n) [] s = tt
small_take (suc n) (x ∷ xs) s = (s.0, small_take n xs s.1)

small_drop : (n : ℕ) (xs : List ℕ) → AreSmall xs → AreSmall (drop n xs)
small_drop zero xs s = s
small_drop (suc n) [] s = tt
small_drop (suc n) (x ∷ xs) s = small_drop n xs s.1

-- a word without its last places
pub word_front : (m z : ℕ) (ys : List ℕ) → length ys ≡ m + z → AreSmall ys → word_of ys / 2 ^ (z * 16) ≡ word_of (take m ys)
word_front m z ys l s =
    let d : length (drop m ys) ≡ z = omega (arith, length-drop {A = ℕ} m ys, l) in
    let below : word_of (drop m ys) < 2 ^ (z * 16) = rw (sym d) (word_below (drop m ys) (small_drop m ys s)) in
    let w : word_of ys ≡ word_of (take m ys) * 2 ^ (z * 16) + word_of (drop m ys) =
    ap word_of (sym (take-append-drop m ys)) ∙ word_append (take m ys) (drop m ys) ∙ ap (λ (n : ℕ). word_of (take m ys) * 2 ^ (n * 16) + word_of (drop m ys)) d in
    ap (λ (n : ℕ). n / 2 ^ (z * 16)) w ∙ shr_high (word_of (take m ys)) (z * 16) (word_of (drop m ys)) below

-- a mask over the used places tells whether the atoms of one word begin those of another
pub masked_begins : (n : ℕ) (xs ys : List ℕ) → length xs ≡ n → length ys ≡ n → AreSmall xs → AreSmall ys → IsPacked xs
    → (word_of ys / 2 ^ ((n - length (atoms_in xs)) * 16) * 2 ^ ((n - length (atoms_in xs)) * 16) == word_of xs) ≡ is_prefix (atoms_in xs) (atoms_in ys)
masked_begins n xs ys l m s t p =
    let v : List ℕ = atoms_in xs in
    let z : ℕ = n - length v in
    let within : length v ≤ n = omega (arith, atoms_within xs, l) in
    let front : word_of ys / 2 ^ (z * 16) ≡ word_of (take (length v) ys) = word_front (length v) z ys (omega (arith, m, within)) t in
    let w : word_of xs ≡ word_of v * 2 ^ (z * 16) = word_atoms n xs l p in
    let len : length (take (length v) ys) ≡ length v = omega (arith, length-take {A = ℕ} (length v) ys, within, m) in
    same_from_decides (word_of ys / 2 ^ (z * 16) * 2 ^ (z * 16) == word_of xs) (is_prefix v (atoms_in ys))
    (Decides-like (word_of ys / 2 ^ (z * 16) * 2 ^ (z * 16) == word_of xs)
    (λ e. same_word (take (length v) ys) v (small_take (length v) ys t) (atoms_small xs s) len (sym front ∙ sym (shl-shr (word_of ys / 2 ^ (z * 16)) (z * 16)) ∙ ap (λ (i : ℕ). i / 2 ^ (z * 16)) (e ∙ w) ∙ shl-shr (word_of v) (z * 16)))
    (λ e. ap (λ (i : ℕ). i * 2 ^ (z * 16)) (front ∙ ap word_of e) ∙ sym w)
    (Decides-eqb (word_of ys / 2 ^ (z * 16) * 2 ^ (z * 16)) (word_of xs)))
    (Decides-like (is_prefix v (atoms_in ys)) sym sym (slice_eq-Decides Decides-eqb v (take (length v) ys) (is_prefix v (atoms_in ys)) (atoms_begin v ys (atoms_positive xs) (omega (arith, m, within)))))

-- where both words begin, and the first has no unused place before the second, both lists do
pub begins_append : (xs ys us vs : List ℕ) → length xs ≡ length ys → IsPacked (xs ++ us) → is_prefix (atoms_in (xs ++ us)) (atoms_in (ys ++ vs)) ≡ (is_prefix (atoms_in xs) (atoms_in ys) && is_prefix (atoms_in us) (atoms_in vs))
begins_append [] [] us vs l p = refl
begins_append [] (y ∷ ys) us vs l p = absurd (omega (arith, l))
begins_append (x ∷ xs) [] us vs l p = absurd (omega (arith, l))
begins_append (zero ∷ xs) (y ∷ ys) us vs l p = rw (zeros_end xs us (length (xs ++ us)) p, no_atoms (length us)) refl
begins_append (suc x ∷ xs) (zero ∷ ys) us vs l p = refl
begins_append (suc x ∷ xs) (suc y ∷ ys) us vs l p = ap (λ (b : Bool). (suc x == suc y) && b) (begins_append xs ys us vs (omega (arith, l)) p) ∙ both_assoc (suc x == suc y) (is_prefix (atoms_in xs) (atoms_in ys)) (is_prefix (atoms_in us) (atoms_in vs))
  where
    both_assoc : (a b c : Bool) → (a && (b && c)) ≡ ((a && b) && c)
    both_assoc true b c = refl
    both_assoc false b c = refl

-- ---- an atom in the first unused place ----

-- a place of a word
pub place_at : (n i : ℕ) (w : ℕ) → i < n → get_or (places n w) i 0 ≡ w / 2 ^ ((n - 1 - i) * 16) % 65536
place_at zero i w l = absurd (omega (arith, l))
place_at (suc n) zero w l = let e : suc n - 1 - 0 ≡ n = omega arith in rw e refl
place_at (suc n) (suc i) w l = let e : suc n - 1 - suc i ≡ n - 1 - i = omega arith in rw e (place_at n i w (omega (arith, l)))

pub small_set : (xs : List ℕ) (i a : ℕ) → AreSmall xs → a < 65536 → AreSmall (set xs i a)
small_set [] i a s l = tt
small_set (x ∷ xs) zero a s l = (l, s.1)
small_set (x ∷ xs) (suc i) a s l = (s.0, small_set xs i a s.1 l)

pub word_set : (xs : List ℕ) (i a : ℕ) → i < length xs → get_or xs i 0 ≡ 0 → word_of (set xs i a) ≡ word_of xs + a * 2 ^ ((length xs - 1 - i) * 16)
word_set [] i a l e = absurd (omega (arith, l))
word_set (x ∷ xs) zero a l e = let k : suc (length xs) - 1 - 0 ≡ length xs = omega arith in rw (k, e) (omega arith)
word_set (x ∷ xs) (suc i) a l e =
    let k : suc (length xs) - 1 - suc i ≡ length xs - 1 - i = omega arith in
    rw (k, length-set {A = ℕ} xs i a, word_set xs i a (omega (arith, l)) e) (omega arith)

-- ---- what the code computes of a word ----

pub unused_places : (w : ℕ) → w < 2 ^ 64 → IsPacked (places 4 w) → count_trailing_zeros 64 w / 16 ≡ 4 - length (atoms_in (places 4 w))
unused_places w l p =
    ap (λ (n : ℕ). count_trailing_zeros 64 n / 16) (sym (word_back w l)) ∙ trailing_places 4 64 (places 4 w) refl refl (places_small 4 w) p

pub place_read : (w i : ℕ) → i < 4 → bit_and (w / 2 ^ (48 - 16 * i)) 65535 ≡ get_or (places 4 w) i 0
place_read w i l =
    let k : 48 - 16 * i ≡ (4 - 1 - i) * 16 = omega (arith, l) in
    and_mask (w / 2 ^ (48 - 16 * i)) 16 ∙ ap (λ (n : ℕ). w / 2 ^ n % 65536) k ∙ sym (place_at 4 i w l)

pub mask_begins : (w o u : ℕ) → w < 2 ^ 64 → o < 2 ^ 64 → IsPacked (places 4 w) → u ≡ (4 - length (atoms_in (places 4 w))) * 16
    → (bit_and o (18446744073709551615 * 2 ^ u % 2 ^ 64) == w) ≡ is_prefix (atoms_in (places 4 w)) (atoms_in (places 4 o))
mask_begins w o u l m p e =
    let within : u ≤ 64 = omega (arith, e) in
    let mask : bit_and o (18446744073709551615 * 2 ^ u % 2 ^ 64) ≡ o / 2 ^ u * 2 ^ u = ap (bit_and o) (ones_shl 64 u within) ∙ and_high_mask 64 u within o m in
    ap (λ (n : ℕ). n == w) (mask ∙ ap (λ (n : ℕ). o / 2 ^ n * 2 ^ n) e)
    ∙ subst (λ (n : ℕ). (o / 2 ^ ((4 - length (atoms_in (places 4 w))) * 16) * 2 ^ ((4 - length (atoms_in (places 4 w))) * 16) == n) ≡ is_prefix (atoms_in (places 4 w)) (atoms_in (places 4 o))) (word_back w l)
    (subst (λ (n : ℕ). (n / 2 ^ ((4 - length (atoms_in (places 4 w))) * 16) * 2 ^ ((4 - length (atoms_in (places 4 w))) * 16) == word_of (places 4 w)) ≡ is_prefix (atoms_in (places 4 w)) (atoms_in (places 4 o))) (word_back o m)
    (masked_begins 4 (places 4 w) (places 4 o) refl refl (places_small 4 w) (places_small 4 o) p))

pub atom_put : (w a u : ℕ) → w < 2 ^ 64 → a < 65536 → IsPacked (places 4 w) → length (atoms_in (places 4 w)) < 4 → u ≡ 4 - length (atoms_in (places 4 w))
    → places 4 (bit_or w (a * 2 ^ (16 * (u - 1)) % 2 ^ 64)) ≡ set (places 4 w) (length (atoms_in (places 4 w))) a
atom_put w a u l m p r e =
    let xs : List ℕ = places 4 w in
    let n : ℕ = length (atoms_in xs) in
    let k : ℕ = 16 * (u - 1) in
    let bits : (4 - n) * 16 ≡ 16 + k = omega (arith, e, r) in
    let at : (4 - 1 - n) * 16 ≡ k = omega (arith, e, r) in
    let whole : a * 2 ^ k % 2 ^ 64 ≡ a * 2 ^ k = shl_whole a 16 k 64 m (omega (arith, e, r)) in
    let front : w ≡ word_of (atoms_in xs) * 2 ^ (16 + k) = sym (word_back w l) ∙ word_atoms 4 xs refl p ∙ ap (λ (i : ℕ). word_of (atoms_in xs) * 2 ^ i) bits in
    let both : bit_or w (a * 2 ^ k % 2 ^ 64) ≡ w + a * 2 ^ k =
    ap (bit_or w) whole ∙ ap (λ (i : ℕ). bit_or i (a * 2 ^ k)) front ∙ or_shifted (word_of (atoms_in xs)) (16 + k) (a * 2 ^ k) (shl_below a 16 k m) ∙ ap (λ (i : ℕ). i + a * 2 ^ k) (sym front) in
    let made : word_of (set xs n a) ≡ w + a * 2 ^ k =
    word_set xs n a r (unused_place xs) ∙ ap (λ (i : ℕ). word_of xs + a * 2 ^ i) at ∙ ap (λ (i : ℕ). i + a * 2 ^ k) (word_back w l) in
    ap (places 4) (both ∙ sym made) ∙ places_word_of 4 (set xs n a) (small_set xs n a (places_small 4 w) m) (length-set {A = ℕ} xs n a)

-- ---- two words ----

pub same_scope : (h l i m : ℕ) → h < 2 ^ 64 → l < 2 ^ 64 → i < 2 ^ 64 → m < 2 ^ 64 → IsPacked (places_in h l) → IsPacked (places_in i m)
    → ((h == i) && (l == m)) ≡ pointwise ◌==◌ (atoms_in (places_in h l)) (atoms_in (places_in i m))
same_scope h l i m a b c d p q =
    let high : atoms_in (places_in h l) ≡ atoms_in (places_in i m) → h ≡ i = λ e. sym (high_back h l a p) ∙ ap high_of e ∙ high_back i m c q in
    let low : atoms_in (places_in h l) ≡ atoms_in (places_in i m) → l ≡ m = λ e. sym (low_back h l b p) ∙ ap low_of e ∙ low_back i m d q in
    same_from_decides ((h == i) && (l == m)) (pointwise ◌==◌ (atoms_in (places_in h l)) (atoms_in (places_in i m)))
    (Decides-like ((h == i) && (l == m)) (λ e. ap (λ (n : ℕ). atoms_in (places_in n l)) e.0 ∙ ap (λ (n : ℕ). atoms_in (places_in i n)) e.1) (λ e. (high e, low e))
    (Decides-and (h == i) (l == m) (Decides-eqb h i) (Decides-eqb l m)))
    (slice_eq-Decides Decides-eqb (atoms_in (places_in h l)) (atoms_in (places_in i m)) (pointwise ◌==◌ (atoms_in (places_in h l)) (atoms_in (places_in i m))) refl)

pub scope_cmp : (h l i m : ℕ) → h < 2 ^ 64 → l < 2 ^ 64 → i < 2 ^ 64 → m < 2 ^ 64 → IsPacked (places_in h l) → IsPacked (places_in i m)
    → slice_cmp nat_cmp (atoms_in (places_in h l)) (atoms_in (places_in i m)) ≡ ordering_then (nat_cmp h i) (nat_cmp l m)
scope_cmp h l i m a b c d p q =
    atoms_cmp (places_in h l) (places_in i m) refl p q ∙ cmp_append (places 4 h) (places 4 i) (places 4 l) (places 4 m) refl
    ∙ ap (λ (o : Ordering). ordering_then o (slice_cmp nat_cmp (places 4 l) (places 4 m))) (one h i a c)
    ∙ ap (ordering_then (nat_cmp h i)) (one l m b d)
  where
    one : (w o : ℕ) → w < 2 ^ 64 → o < 2 ^ 64 → slice_cmp nat_cmp (places 4 w) (places 4 o) ≡ nat_cmp w o
    one w o e f = word_cmp (places 4 w) (places 4 o) (places_small 4 w) (places_small 4 o) refl ∙ ap (λ (n : ℕ). nat_cmp n (word_of (places 4 o))) (word_back w e) ∙ ap (nat_cmp w) (word_back o f)
