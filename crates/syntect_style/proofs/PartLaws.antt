-- What the two parts of pieces are together.
use Rattle.std.proofs.Common.{◌≡◌, ℕ, zero, suc, ◌+◌, ◌-◌, ◌<◌, ◌≤◌, Bool, true, false, List, [], ◌∷◌, ◌++◌, length, map, take, drop, refl, sym, ap, subst, ◌∙◌, append-nil, append_assoc, arith, get_or, IsUtf8, length-append}
use Rattle.std.specs.Prelude.{nat_le}
use Rattle.std.specs.List.{flat_map}
use Rattle.std.specs.Str.{IsCharBoundary}
use Rattle.std.proofs.lemmas.Bool.Decides.{nat_tests}
use Rattle.std.proofs.lemmas.List.{get_or-append_right, get_or_append_left, take-append-drop, length-take-le, drop_at}
use Rattle.std.proofs.lemmas.Str.{IsUtf8-append, IsUtf8-nil, IsCharBoundary-start, IsCharBoundary-from_rest}
use Rattle.syntect_style.specs.Cut.{whole, others, bytes_left, cut_front, cut_back, CutsFirst, IsFront, IsCut, joined, AreTexts, IsParted}

fits : (n m : ℕ) → nat_le m n ≡ true → m ≤ n
fits n m h = grind (arith, nat_tests)

too_long : (n m : ℕ) → nat_le m n ≡ false → n < m
too_long n m h = grind (arith, nat_tests)

-- ---- places in a text after another, and in its front ----

behind : (xs ys : List ℕ) (i : ℕ) → length xs < i → IsCharBoundary (xs ++ ys) i → IsCharBoundary ys (i - length xs)
behind xs ys i h b =
    let total : length (xs ++ ys) ≡ length xs + length ys = length-append xs ys in
    let same : get_or (xs ++ ys) i 0 ≡ get_or ys (i - length xs) 0 = get_or-append_right xs ys (length xs) i 0 refl (omega (arith, h)) in
    (omega (arith, total, b.0, h), λ less high. subst (λ (c : ℕ). 192 ≤ c) same (b.1 (omega (arith, total, less, h)) (subst (λ (c : ℕ). 128 ≤ c) (sym same) high)))

front_behind : (xs ys : List ℕ) (n k : ℕ) → length xs ≤ n → IsFront ys (n - length xs) k → IsFront (xs ++ ys) n (length xs + k)
front_behind xs ys n k h f = record {
  bound = omega (arith, h, f.bound);
  boundary = IsCharBoundary-from_rest (xs ++ ys) (length xs) k (omega (arith, length-append xs ys)) (subst (λ (t : List ℕ). IsCharBoundary t k) (sym (drop_at xs ys (length xs) refl)) f.boundary);
  longest = λ i more most b. f.longest (i - length xs) (omega (arith, more)) (omega (arith, most)) (behind xs ys i (omega (arith, more)) b);
}

front_of_first : (xs ys : List ℕ) (n k : ℕ) → n < length xs → IsFront xs n k → IsFront (xs ++ ys) n k
front_of_first xs ys n k h f =
    let total : length (xs ++ ys) ≡ length xs + length ys = length-append xs ys in
    let same : (i : ℕ) → i < length xs → get_or (xs ++ ys) i 0 ≡ get_or xs i 0 = λ i l. get_or_append_left xs ys 0 i l in
    record {
      bound = f.bound;
      boundary = (omega (arith, total, h, f.bound), λ less high. let l : k < length xs = omega (arith, h, f.bound) in subst (λ (c : ℕ). 192 ≤ c) (sym (same k l)) (f.boundary.1 l (subst (λ (c : ℕ). 128 ≤ c) (same k l) high)));
      longest = λ i more most b. let l : i < length xs = omega (arith, most, h) in f.longest i more most (omega (arith, l), λ less high. subst (λ (c : ℕ). 192 ≤ c) (same i l) (b.1 (omega (arith, total, l)) (subst (λ (c : ℕ). 128 ≤ c) (sym (same i l)) high)));
    }

nothing : (n : ℕ) → IsFront [] n 0
nothing n = record { bound = omega arith; boundary = (omega arith, λ less high. absurd (omega (arith, less))); longest = λ i more most b. absurd (omega (arith, more, b.0)) }

module _ {A : Type 0} where
  texts_join : (ps : List (A × List ℕ)) → AreTexts ps → IsUtf8 (joined ps)
  texts_join [] t = IsUtf8-nil
  texts_join (p ∷ ps) t = IsUtf8-append p.1 (joined ps) t.0 (texts_join ps t.1)

  -- the first part of pieces that are cut
  abbrev first_of : ℕ → ℕ → List (A × List ℕ) → List (A × List ℕ)
  first_of front n ps = whole n ps ++ cut_front front (bytes_left n ps) (others n ps)

  abbrev second_of : ℕ → ℕ → List (A × List ℕ) → List (A × List ℕ)
  second_of front n ps = cut_back front (bytes_left n ps) (others n ps)

  -- what is said of a piece and its text, byte by byte, is said of both parts together
  module _ {B : Type 0} (f : A × List ℕ → List B) (cut : (a : A) (i : ℕ) (t : List ℕ) → f (a, take i t) ++ f (a, drop i t) ≡ f (a, t)) where
    first_both : (front n : ℕ) (ps : List (A × List ℕ)) → flat_map f (cut_front front n ps) ++ flat_map f (cut_back front n ps) ≡ flat_map f ps
    first_both front zero ps = refl
    first_both front (suc n) [] = refl
    first_both front (suc n) (p ∷ ps) =
        ap (λ (l : List B). l ++ (f (p.0, drop front p.1) ++ flat_map f ps)) (append-nil (f (p.0, take front p.1)))
        ∙ sym (append_assoc (f (p.0, take front p.1)) (f (p.0, drop front p.1)) (flat_map f ps))
        ∙ ap (λ (l : List B). l ++ flat_map f ps) (cut p.0 front p.1)

    both_case : (front n : ℕ) (p : A × List ℕ) (ps : List (A × List ℕ)) (b : Bool) → nat_le (length p.1) n ≡ b → flat_map f (first_of front (n - length p.1) ps) ++ flat_map f (second_of front (n - length p.1) ps) ≡ flat_map f ps
        → flat_map f (first_of front n (p ∷ ps)) ++ flat_map f (second_of front n (p ∷ ps)) ≡ flat_map f (p ∷ ps)
    both_case front n p ps true e h = rw e (append_assoc (f p) (flat_map f (first_of front (n - length p.1) ps)) (flat_map f (second_of front (n - length p.1) ps)) ∙ ap (λ (l : List B). f p ++ l) h)
    both_case front n p ps false e h = rw e (first_both front n (p ∷ ps))

    both : (front n : ℕ) (ps : List (A × List ℕ)) → flat_map f (first_of front n ps) ++ flat_map f (second_of front n ps) ≡ flat_map f ps
    both front n [] = first_both front n []
    both front n (p ∷ ps) = both_case front n p ps (nat_le (length p.1) n) refl (both front (n - length p.1) ps)

  abbrev shown_of : A → List ℕ → List (A × ℕ)
  shown_of a t = map (λ b. (a, b)) t

  cut_shown : (a : A) (i : ℕ) (t : List ℕ) → shown_of a (take i t) ++ shown_of a (drop i t) ≡ shown_of a t
  cut_shown a zero t = refl
  cut_shown a (suc i) [] = refl
  cut_shown a (suc i) (b ∷ t) = ap (λ (l : List (A × ℕ)). (a, b) ∷ l) (cut_shown a i t)

  first_front : (front n : ℕ) (p : A × List ℕ) (ps : List (A × List ℕ)) → AreTexts (p ∷ ps) → n < length p.1 → CutsFirst front n (p ∷ ps) → IsFront (joined (p ∷ ps)) n (length (joined (cut_front front n (p ∷ ps))))
  first_front front zero p ps t h c = record { bound = omega arith; boundary = IsCharBoundary-start (joined (p ∷ ps)) (texts_join (p ∷ ps) t); longest = λ i more most b. absurd (omega (arith, more, most)) }
  first_front front (suc n) p ps t h c =
      let cut : length (take front p.1 ++ []) ≡ front = ap length (append-nil (take front p.1)) ∙ length-take-le front p.1 (omega (arith, h, c.bound)) in
      subst (λ (k : ℕ). IsFront (p.1 ++ joined ps) (suc n) k) (sym cut) (front_of_first p.1 (joined ps) (suc n) front h c)

  -- the text of the first part is the longest front, with so many bytes
  abbrev Longest : ℕ → ℕ → List (A × List ℕ) → Type 0
  Longest front n ps = CutsFirst front (bytes_left n ps) (others n ps) → IsFront (joined ps) n (length (joined (first_of front n ps)))

  longest_case : (front n : ℕ) (p : A × List ℕ) (ps : List (A × List ℕ)) → AreTexts (p ∷ ps) → (b : Bool) → nat_le (length p.1) n ≡ b → Longest front (n - length p.1) ps → Longest front n (p ∷ ps)
  longest_case front n p ps t true e h = rw e (λ c. subst (λ (k : ℕ). IsFront (p.1 ++ joined ps) n k) (sym (length-append p.1 (joined (first_of front (n - length p.1) ps)))) (front_behind p.1 (joined ps) n (length (joined (first_of front (n - length p.1) ps))) (fits n (length p.1) e) (h c)))
  longest_case front n p ps t false e h = rw e (first_front front n p ps t (too_long n (length p.1) e))

  longest : (front n : ℕ) (ps : List (A × List ℕ)) → AreTexts ps → Longest front n ps
  longest front zero [] t c = nothing zero
  longest front (suc n) [] t c = nothing (suc n)
  longest front n (p ∷ ps) t c = longest_case front n p ps t (nat_le (length p.1) n) refl (longest front (n - length p.1) ps t.1) c

  pub parted : (n : ℕ) (ps first second : List (A × List ℕ)) → IsCut n ps first second → IsParted n ps first second
  parted n ps first second c = rw (c.first_is, c.second_is) record {
    text = both (λ (p : A × List ℕ). p.1) (λ a i t. take-append-drop i t) c.front n ps;
    attributes = both (λ (p : A × List ℕ). map (λ b. (p.0, b)) p.1) cut_shown c.front n ps;
    longest = λ t. longest c.front n ps t c.cuts;
  }

  -- pieces that are cut after the whole ones
  pub cut_behind : (n left : ℕ) (pieces rest front first second : List (A × List ℕ)) → whole n pieces ≡ front → others n pieces ≡ rest → bytes_left n pieces ≡ left
      → (f : ℕ) × CutsFirst f left rest × (first ≡ front ++ cut_front f left rest) × (second ≡ cut_back f left rest) → IsCut n pieces first second
  cut_behind n left pieces rest front first second w o b c = record { front = c.0; cuts = rw (o, b) c.1; first_is = rw (w, o, b) c.2; second_is = rw (o, b) c.3 }
