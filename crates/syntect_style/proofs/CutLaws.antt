-- Pieces that are cut.
use Rattle.std.proofs.Common.{◌≡◌, ℕ, zero, suc, ◌<◌, false, List, [], ◌∷◌, ◌++◌, length, take, drop, refl, sym, ap, ◌∙◌, append-nil, arith, get_or}
use Rattle.std.specs.Prelude.{nat_le}
use Rattle.std.specs.Borrow.{Bor}
use Rattle.std.proofs.lemmas.Bool.Decides.{nat_tests}
use Rattle.syntect_style.specs.Cut.{plain, whole, others, cut_front, cut_back, CutsFirst, IsFront}

too_long : (n m : ℕ) → n < m → nat_le m n ≡ false
too_long n m h = grind (arith, nat_tests)

module _ {A : Type 0} where
  pub take_plain : (i : ℕ) (v : List (A × Bor (List ℕ))) → take i (plain v) ≡ plain (take i v)
  take_plain zero v = refl
  take_plain (suc i) [] = refl
  take_plain (suc i) (x ∷ v) = ap (λ (l : List (A × List ℕ)). (x.0, x.1.now) ∷ l) (take_plain i v)

  pub drop_plain : (i : ℕ) (v : List (A × Bor (List ℕ))) → drop i (plain v) ≡ plain (drop i v)
  drop_plain zero v = refl
  drop_plain (suc i) [] = refl
  drop_plain (suc i) (x ∷ v) = drop_plain i v

  -- a piece that doesn't fit ends the whole ones
  pub stop_whole : (v : List (A × Bor (List ℕ))) (i n : ℕ) (d : A × Bor (List ℕ)) → i < length v → n < length (get_or v i d).1.now → whole n (plain (drop i v)) ≡ []
  stop_whole [] i n d l h = absurd (omega arith)
  stop_whole (x ∷ v) zero n d l h = rw (too_long n (length x.1.now) h) refl
  stop_whole (x ∷ v) (suc i) n d l h = stop_whole v i n d (omega arith) h

  pub stop_others : (v : List (A × Bor (List ℕ))) (i n : ℕ) (d : A × Bor (List ℕ)) → i < length v → n < length (get_or v i d).1.now → others n (plain (drop i v)) ≡ plain (drop i v)
  stop_others [] i n d l h = absurd (omega arith)
  stop_others (x ∷ v) zero n d l h = rw (too_long n (length x.1.now) h) refl
  stop_others (x ∷ v) (suc i) n d l h = stop_others v i n d (omega arith) h

  -- the first piece is cut
  pub first_cut : (left front : ℕ) (p : A × List ℕ) (ps rest old before mid after : List (A × List ℕ)) → rest ≡ p ∷ ps → 0 < left → IsFront p.1 left front → before ≡ old ++ (p.0, take front p.1) ∷ []
      → mid ≡ (p.0, drop front p.1) ∷ [] → after ≡ mid ++ ps → (f : ℕ) × CutsFirst f left rest × (before ≡ old ++ cut_front f left rest) × (after ≡ cut_back f left rest)
  first_cut zero front p ps rest old before mid after e z h b m k = absurd (omega arith)
  first_cut (suc n) front p ps rest old before mid after e z h b m k = rw e (front, h, b, k ∙ ap (λ (l : List (A × List ℕ)). l ++ ps) m)

  -- no piece is left
  pub none_cut : (left : ℕ) (rest old after : List (A × List ℕ)) → rest ≡ [] → after ≡ [] → (f : ℕ) × CutsFirst f left rest × (old ≡ old ++ cut_front f left rest) × (after ≡ cut_back f left rest)
  none_cut zero rest old after e a = rw e (0, tt, sym (append-nil old), a)
  none_cut (suc n) rest old after e a = rw e (0, tt, sym (append-nil old), a)

  pub empty_plain : (v : List (A × Bor (List ℕ))) → length v ≡ 0 → plain v ≡ []
  empty_plain [] e = refl
  empty_plain (x ∷ v) e = absurd (omega arith)
