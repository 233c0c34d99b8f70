-- The two words of a scope: eight places of sixteen bits, the first one highest.
use Rattle.std.specs.Prelude.{◌≡◌, ℕ, zero, suc, ◌+◌, ◌*◌, ◌/◌, ◌%◌, ◌^◌, ◌<◌, List, [], ◌∷◌, ◌++◌, length, take, drop, refl}
use Rattle.std.proofs.Common.{arith, ap, sym, ◌∙◌}
use Rattle.std.proofs.lemmas.Nat.{mod-pow-add}
use Rattle.std.proofs.Math.Nat.{mod-eq_of_lt}
use Rattle.syntect_scope.specs.Atoms.{atoms_in, IsPacked, places_of, places_of-atoms_in}

-- the lowest places of a word, so many of them, the highest one first
abbrev pub places : ℕ → ℕ → List ℕ
places zero word = []
places (suc n) word = word / 2 ^ (n * 16) % 65536 ∷ places n word

-- the places of two words
abbrev pub places_in : ℕ → ℕ → List ℕ
places_in high low = places 4 high ++ places 4 low

-- the word that has these places
abbrev pub word_of : List ℕ → ℕ
word_of [] = 0
word_of (a ∷ rest) = a * 2 ^ (length rest * 16) + word_of rest

-- the word of the first four atoms of a scope, and that of the others
abbrev pub high_of : List ℕ → ℕ
high_of scope = word_of (take 4 (places_of 8 scope))

abbrev pub low_of : List ℕ → ℕ
low_of scope = word_of (drop 4 (places_of 8 scope))

-- ---- For proofs and private functions alone ----

-- ---- words give their places back ----

pub places_length : (n w : ℕ) → length (places n w) ≡ n
places_length zero w = refl
places_length (suc n) w = ap suc (places_length n w)

pub word_of_places : (n w : ℕ) → word_of (places n w) ≡ w % 2 ^ (n * 16)
word_of_places zero w = omega arith
word_of_places (suc n) w =
    let e : suc n * 16 ≡ 16 + n * 16 = omega arith in
    rw (places_length n w, word_of_places n w, e) (sym (mod-pow-add w 16 (n * 16)))

pub word_back : (w : ℕ) → w < 2 ^ 64 → word_of (places 4 w) ≡ w
word_back w l = word_of_places 4 w ∙ mod-eq_of_lt l

pub high_back : (high low : ℕ) → high < 2 ^ 64 → IsPacked (places_in high low) → high_of (atoms_in (places_in high low)) ≡ high
high_back high low l p = ap (λ (zs : List ℕ). word_of (take 4 zs)) (places_of-atoms_in (places_in high low) 8 refl p) ∙ word_back high l

pub low_back : (high low : ℕ) → low < 2 ^ 64 → IsPacked (places_in high low) → low_of (atoms_in (places_in high low)) ≡ low
low_back high low l p = ap (λ (zs : List ℕ). word_of (drop 4 zs)) (places_of-atoms_in (places_in high low) 8 refl p) ∙ word_back low l
