-- Quoted scalars, a piece at a time.
use Rattle.std.proofs.Common.{◌≡◌, ℕ, zero, suc, ◌-◌, ◌<◌, ◌≤◌, true, false, ◌==◌, List, [], ◌∷◌, ◌++◌, take, drop, IsUtf8, Some, None, refl, sym, ap, ◌∙◌, arith, append_assoc}
use Rattle.std.specs.Prelude.{slice_index, encode_utf8}
use Rattle.std.proofs.lemmas.Bool.Decides.{nat_tests}
use Rattle.std.proofs.lemmas.List.Sums.{prefix_len_passes}
use Rattle.std.specs.List.{prefix_len}
use Rattle.std.specs.Str.{IsCharBoundary}
use Rattle.std.specs.Str.Parse.{AllDigits}
use Rattle.std.specs.Char.{digit_value}
use Rattle.syntect_yaml.specs.Lines.{Rest, Read, first, split_run}
use Rattle.syntect_yaml.proofs.RunLaws.{front_boundary}
use Rattle.syntect_yaml.specs.Scalars.{prepend, is_single, is_double, is_hex, single, double, escape}

pub prepend-nil : (r : Read (List ℕ)) → prepend [] r ≡ r
prepend-nil None = refl
prepend-nil (Some p) = refl

pub prepend-prepend : (xs ys : List ℕ) (r : Read (List ℕ)) → prepend xs (prepend ys r) ≡ prepend (xs ++ ys) r
prepend-prepend xs ys None = refl
prepend-prepend xs ys (Some p) = rw (append_assoc xs ys p.0)

pub single_none : (m : ℕ) (rest front after : Rest) → 0 < m → (front, after) ≡ split_run is_single rest → (first after == 39) ≡ false → single m rest ≡ None
unfolding single
single_none zero rest front after room parts e = absurd (omega arith)
single_none (suc m) rest front after room parts e =
    let back : drop (prefix_len is_single rest) rest ≡ after = sym (ap (λ p. p.1) parts) in
    rw (back, e)

pub single_end : (m : ℕ) (rest front after : Rest) → 0 < m → (front, after) ≡ split_run is_single rest → (first after == 39) ≡ true → (slice_index after 1 == 39) ≡ false
    → single m rest ≡ Some (front, drop 1 after)
unfolding single
single_end zero rest front after room parts e f = absurd (omega arith)
single_end (suc m) rest front after room parts e f =
    let back : drop (prefix_len is_single rest) rest ≡ after = sym (ap (λ p. p.1) parts) in
    let ahead : take (prefix_len is_single rest) rest ≡ front = sym (ap (λ p. p.0) parts) in
    rw (back, ahead, e, f)

pub single_more : (m : ℕ) (rest front after : Rest) → 0 < m → (front, after) ≡ split_run is_single rest → (first after == 39) ≡ true → (slice_index after 1 == 39) ≡ true
    → single m rest ≡ prepend (front ++ 39 ∷ []) (single (m - 1) (drop 2 after))
unfolding single
single_more zero rest front after room parts e f = absurd (omega arith)
single_more (suc m) rest front after room parts e f =
    let back : drop (prefix_len is_single rest) rest ≡ after = sym (ap (λ p. p.1) parts) in
    let ahead : take (prefix_len is_single rest) rest ≡ front = sym (ap (λ p. p.0) parts) in
    let less : suc m - 1 ≡ m = omega arith in
    rw (back, ahead, e, f, less)

pub double_end : (m : ℕ) (rest front after : Rest) → 0 < m → (front, after) ≡ split_run is_double rest → (first after == 34) ≡ true → double m rest ≡ Some (front, drop 1 after)
unfolding double
double_end zero rest front after room parts e = absurd (omega arith)
double_end (suc m) rest front after room parts e =
    let back : drop (prefix_len is_double rest) rest ≡ after = sym (ap (λ p. p.1) parts) in
    let ahead : take (prefix_len is_double rest) rest ≡ front = sym (ap (λ p. p.0) parts) in
    rw (back, ahead, e)

pub double_none : (m : ℕ) (rest front after : Rest) → 0 < m → (front, after) ≡ split_run is_double rest → (first after == 34) ≡ false → (first after == 92) ≡ false → double m rest ≡ None
unfolding double
double_none zero rest front after room parts e f = absurd (omega arith)
double_none (suc m) rest front after room parts e f =
    let back : drop (prefix_len is_double rest) rest ≡ after = sym (ap (λ p. p.1) parts) in
    rw (back, e, f)

pub double_bad : (m : ℕ) (rest front after : Rest) → 0 < m → (front, after) ≡ split_run is_double rest → (first after == 34) ≡ false → (first after == 92) ≡ true
    → escape (drop 1 after) ≡ None → double m rest ≡ None
unfolding double
double_bad zero rest front after room parts e f g = absurd (omega arith)
double_bad (suc m) rest front after room parts e f g =
    let back : drop (prefix_len is_double rest) rest ≡ after = sym (ap (λ p. p.1) parts) in
    rw (back, e, f, g)

pub double_more : (m : ℕ) (rest front after : Rest) (c : ℕ) (behind : Rest) → 0 < m → (front, after) ≡ split_run is_double rest → (first after == 34) ≡ false → (first after == 92) ≡ true
    → escape (drop 1 after) ≡ Some (c, behind) → double m rest ≡ prepend (front ++ encode_utf8 c) (double (m - 1) behind)
unfolding double
double_more zero rest front after c behind room parts e f g = absurd (omega arith)
double_more (suc m) rest front after c behind room parts e f g =
    let back : drop (prefix_len is_double rest) rest ≡ after = sym (ap (λ p. p.1) parts) in
    let ahead : take (prefix_len is_double rest) rest ≡ front = sym (ap (λ p. p.0) parts) in
    let less : suc m - 1 ≡ m = omega arith in
    rw (back, ahead, e, f, g, less)

hex_small : (c : ℕ) → is_hex c ≡ true → digit_value c < 16
hex_small c e = grind (arith, nat_tests)

hex_ascii : (c : ℕ) → is_hex c ≡ true → c < 128
hex_ascii c e = grind (arith, nat_tests)

-- the digits at the front are digits
pub hex_digits : (n : ℕ) (t : Rest) → n ≤ prefix_len is_hex t → AllDigits 16 (take n t)
hex_digits zero t h = tt
hex_digits (suc n) [] h = tt
hex_digits (suc n) (c ∷ t) h =
    let here : is_hex c ≡ true = prefix_len_passes is_hex (c ∷ t) 0 0 (omega arith) in
    let more : n ≤ prefix_len is_hex t = let k = rw here at h in omega arith in
    (hex_small c here, hex_digits n t more)

pub hex_boundary : (n : ℕ) (t : Rest) → IsUtf8 t → n ≤ prefix_len is_hex t → IsCharBoundary t n
hex_boundary = front_boundary is_hex hex_ascii

-- what was read before, a front and a piece, one after another
pub joined : (out front piece mid new : List ℕ) → mid ≡ out ++ front → new ≡ mid ++ piece → out ++ (front ++ piece) ≡ new
joined out front piece mid new p q = sym (q ∙ ap (λ (xs : List ℕ). xs ++ piece) p ∙ append_assoc out front piece)
