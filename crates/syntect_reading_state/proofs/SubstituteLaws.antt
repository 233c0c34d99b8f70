-- Equal opening matches.
use Rattle.std.proofs.Common.{◌≡◌, ◌==◌, ◌&&◌, ℕ, Bool, true, false, List, [], ◌∷◌, refl, ap, ◌∙◌, arith}
use Rattle.std.specs.Cmp.Lexicographic.{pointwise}
use Rattle.std.proofs.lemmas.Bool.Decides.{nat_tests}
use Rattle.syntect_reading_state.specs.syntect_grammar_contexts.Substitution.{Groups, Opening, substituted}
use Rattle.syntect_reading_state.specs.Openings.{same_opening}
use Rattle.syntect_reading_state.proofs.syntect_regex_proofs.RegionLaws.{groups-equal}
use Rattle.syntect_reading_state.specs.syntect_regex.Region.{same_groups}

both : (a b : Bool) → (a && b) ≡ true → (a ≡ true) × (b ≡ true)
both true b e = (refl, e)
both false b e = cc

lines_equal : (xs ys : List ℕ) → pointwise ◌==◌ xs ys ≡ true → xs ≡ ys
lines_equal [] [] e = refl
lines_equal [] (y ∷ ys) e = cc
lines_equal (x ∷ xs) [] e = cc
lines_equal (x ∷ xs) (y ∷ ys) e =
    let h = both (x == y) (pointwise ◌==◌ xs ys) e in
    let f : (x == y) ≡ true = h.0 in
    let same : x ≡ y = grind (arith, nat_tests) in
    ap (λ (z : ℕ). z ∷ xs) same ∙ ap (λ (zs : List ℕ). y ∷ zs) (lines_equal xs ys h.1)

-- what is put in is the same where the opening matches are equal
pub put_in_same : (pattern other : List ℕ) (a b : Opening) → pattern ≡ other → same_opening a b ≡ true → substituted pattern a.region a.line ≡ substituted other b.region b.line
put_in_same pattern other a b p e =
    let h = both (same_groups a.region b.region) (pointwise ◌==◌ a.line b.line) e in
    ap (λ (t : List ℕ). substituted t a.region a.line) p
    ∙ ap (λ (r : Groups). substituted other r a.line) (groups-equal a.region b.region h.0)
    ∙ ap (λ (l : List ℕ). substituted other b.region l) (lines_equal a.line b.line h.1)
