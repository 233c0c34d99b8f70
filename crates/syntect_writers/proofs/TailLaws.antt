-- Where a text ends is a place to cut it, whatever is put after it.
use Rattle.std.proofs.Common.{◌≡◌, ℕ, zero, suc, ◌≤◌, List, [], ◌∷◌, ◌++◌, length, take, drop, Bool, true, false, if◌then◌else◌, refl, ap, ◌∙◌, arith, length-append}
use Rattle.std.specs.Str.{IsCharBoundary, IsUtf8}
use Rattle.std.proofs.lemmas.Str.{IsCharBoundary-from_take, IsUtf8-take}

pub front_stays : (n : ℕ) (xs ys : List ℕ) → n ≤ length xs → take n (xs ++ ys) ≡ take n xs
front_stays zero xs ys l = refl
front_stays (suc n) [] ys l = absurd (omega arith)
front_stays (suc n) (x ∷ xs) ys l = ap (λ s. x ∷ s) (front_stays n xs ys (omega arith))

pub back_grows : (n : ℕ) (xs ys : List ℕ) → n ≤ length xs → drop n (xs ++ ys) ≡ drop n xs ++ ys
back_grows zero xs ys l = refl
back_grows (suc n) [] ys l = absurd (omega arith)
back_grows (suc n) (x ∷ xs) ys l = back_grows n xs ys (omega arith)

pub ends_whole : (xs : List ℕ) → (take (length xs) xs ≡ xs) × (drop (length xs) xs ≡ [])
ends_whole [] = (refl, refl)
ends_whole (x ∷ xs) = (ap (λ s. x ∷ s) (ends_whole xs).0, (ends_whole xs).1)

-- a place to cut a text stays one when more is put last
boundary_stays : (n : ℕ) (old new more : List ℕ) → IsUtf8 old → IsUtf8 new → new ≡ old ++ more → IsCharBoundary old n → IsCharBoundary new n
boundary_stays n old new more u v e b =
    let t : take n new ≡ take n old = ap (take n) e ∙ front_stays n old more b.0 in
    IsCharBoundary-from_take new n v (omega (arith, ap length e, length-append old more, b.0)) (rw t (IsUtf8-take old n u b))

pub boundary_put : (put : Bool) (n : ℕ) (old new more : List ℕ) → IsUtf8 old → IsUtf8 new → new ≡ (if put then old ++ more else old) → IsCharBoundary old n → IsCharBoundary new n
boundary_put true n old new more u v e b = boundary_stays n old new more u v e b
boundary_put false n old new more u v e b = rw e b
