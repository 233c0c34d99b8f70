-- The character that a quantifier begins with.
use Rattle.std.proofs.Common.{◌≡◌, ℕ, Bool, true, false, ◌&&◌, [], ◌∷◌, Option, Some, None, refl, ap, ◌∙◌, arith, nat_eq, eq-eqb}
use Rattle.std.specs.Prelude.{if◌then◌else◌}
use Rattle.std.specs.List.{starts_with}
use Rattle.std.proofs.lemmas.Bool.Decides.{nat_tests}
use Rattle.syntect_pattern.specs.Reading.{Text, begins, first, ◌>>◌}
use Rattle.syntect_pattern.specs.Grammar.{Quantifier, quantifier, count, sign}
use Rattle.syntect_pattern_words.proofs.PassLaws.{first-cons, first-none}

guarded : {B : Type 0} (b : Bool) (o : Option B) → b ≡ false → (b >> o) ≡ None
guarded b o e = ap (λ x. x >> o) e

pub is-same : (a b : ℕ) → a ≡ b → nat_eq a b ≡ true
is-same a b e = eq-eqb a b e

pub is-other : (a b : ℕ) → (a ≡ b → ⊥) → nat_eq a b ≡ false
is-other a b e = grind (arith, nat_tests)

pub quantifier-none : (t : Text) → first t ≡ None → quantifier t ≡ None
unfolding quantifier count
quantifier-none t e = ap quantifier (first-none t e)

module _ (t : Text) (c : ℕ) (e : first t ≡ Some c) where
  begins-one : (d : ℕ) → starts_with nat_eq t (d ∷ []) ≡ nat_eq c d
  begins-one d = ap (λ u. starts_with nat_eq u (d ∷ [])) (first-cons t c e) ∙ alone (nat_eq d c) ∙ turned
    where
      alone : (b : Bool) → (b && true) ≡ b
      alone true = refl
      alone false = refl

      turned : nat_eq d c ≡ nat_eq c d
      turned = grind (arith, nat_tests)

  at_first : Bool → Bool → Bool → Option (Quantifier × Text)
  at_first star plus mark = if star then sign 0 None t else if plus then sign 1 None t else if mark then sign 0 (Some 1) t else count t

  quantifier-at : quantifier t ≡ at_first (nat_eq c 42) (nat_eq c 43) (nat_eq c 63)
  unfolding quantifier at_first
  quantifier-at =
      ap (λ b. at_first b (begins "+" t) (begins "?" t)) (begins-one 42) ∙ ap (λ b. at_first (nat_eq c 42) b (begins "?" t)) (begins-one 43) ∙ ap (at_first (nat_eq c 42) (nat_eq c 43)) (begins-one 63)

  pub quantifier-star : nat_eq c 42 ≡ true → quantifier t ≡ sign 0 None t
  unfolding at_first
  quantifier-star s = quantifier-at ∙ ap (λ b. at_first b (nat_eq c 43) (nat_eq c 63)) s

  module _ (s : nat_eq c 42 ≡ false) where
    pub quantifier-plus : nat_eq c 43 ≡ true → quantifier t ≡ sign 1 None t
    unfolding at_first
    quantifier-plus p = quantifier-at ∙ ap (λ b. at_first b (nat_eq c 43) (nat_eq c 63)) s ∙ ap (λ b. at_first false b (nat_eq c 63)) p

    module _ (p : nat_eq c 43 ≡ false) where
      pub quantifier-mark : nat_eq c 63 ≡ true → quantifier t ≡ sign 0 (Some 1) t
      unfolding at_first
      quantifier-mark m = quantifier-at ∙ ap (λ b. at_first b (nat_eq c 43) (nat_eq c 63)) s ∙ ap (λ b. at_first false b (nat_eq c 63)) p ∙ ap (at_first false false) m

      module _ (m : nat_eq c 63 ≡ false) where
        pub quantifier-count : quantifier t ≡ count t
        unfolding at_first
        quantifier-count = quantifier-at ∙ ap (λ b. at_first b (nat_eq c 43) (nat_eq c 63)) s ∙ ap (λ b. at_first false b (nat_eq c 63)) p ∙ ap (at_first false false) m

        pub quantifier-other : nat_eq c 123 ≡ false → quantifier t ≡ None
        unfolding count
        quantifier-other b = quantifier-count ∙ guarded (begins "{" t) _ (begins-one 123 ∙ b)
