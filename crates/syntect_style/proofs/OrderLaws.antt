-- The order of scores.
use Rattle.std.proofs.Common.{◌≡◌, ◌==◌, ℕ, Bool, true, false, ◌&&◌, ◌||◌, not, Option, Some, None, refl, arith}
use Rattle.std.specs.Prelude.{nat_lt}
use Rattle.std.specs.Cmp.{IsStrictWeakOrder}
use Rattle.std.proofs.lemmas.Bool.Decides.{nat_tests}
use Rattle.syntect_style.specs.Candidates.{Score, Candidate, goes_before, beats}

places_one_way : (p q : Option ℕ) → goes_before p q ≡ true → goes_before q p ≡ false
places_one_way (Some p) (Some q) h = grind (arith, nat_tests)
places_one_way (Some p) None h = refl
places_one_way None q h = cc

places_chain : (p q r : Option ℕ) → goes_before p q ≡ false → goes_before q r ≡ false → goes_before p r ≡ false
places_chain (Some p) (Some q) (Some r) h k = grind (arith, nat_tests)
places_chain (Some p) (Some q) None h k = cc
places_chain (Some p) None r h k = cc
places_chain None q r h k = refl

numbers_one_way : (m n : ℕ) (s t : Bool) → (s ≡ true → t ≡ false) → (nat_lt n m || ((m == n) && s)) ≡ true → (nat_lt m n || ((n == m) && t)) ≡ false
numbers_one_way m n s t f h = grind (arith, nat_tests)

numbers_chain : (m n k : ℕ) (s t u : Bool) → (s ≡ false → t ≡ false → u ≡ false) → (nat_lt n m || ((m == n) && s)) ≡ false → (nat_lt k n || ((n == k) && t)) ≡ false → (nat_lt k m || ((m == k) && u)) ≡ false
numbers_chain m n k s t u f g h = grind (arith, nat_tests)

pub beats_order : {V : Type 0} → IsStrictWeakOrder (λ (x y : Candidate V). beats x.score y.score)
beats_order {V} = record {
  one_way = λ x y h. numbers_one_way x.score.power y.score.power _ _ (places_one_way x.score.place y.score.place) h;
  chain = λ x y z h k. numbers_chain x.score.power y.score.power z.score.power _ _ _ (places_chain x.score.place y.score.place z.score.place) h k;
}

numbers_either : (m n : ℕ) → (nat_lt m n || ((n == m) && false)) ≡ not (nat_lt n m || ((m == n) && true))
numbers_either m n = grind (arith, nat_tests)

-- of a single rule and another one beats
pub one_of_two : (c o : Score) (p : ℕ) → c.place ≡ Some p → o.place ≡ None → beats o c ≡ not (beats c o)
one_of_two c o p e f = rw (e, f) (numbers_either c.power o.power)
