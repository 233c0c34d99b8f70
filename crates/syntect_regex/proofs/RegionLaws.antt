-- What a search leaves in a region.
use Rattle.std.proofs.Common.{◌≡◌, ℕ, Bool, true, false, ◌&&◌, nat_eq, [], ◌∷◌, Option, Some, None, refl, sym, ◌∙◌, ap}
use Rattle.std.specs.Option.{option_eq}
use Rattle.std.proofs.lemmas.Bool.{eqb-true}
use Rattle.std.specs.Prelude.{Result, Ok, Err, IfOk, OnErr, is_ok, unwrap_or, if◌then◌else◌}
use Rattle.syntect_regex.specs.syntect_pattern.Matches.{Groups}
use Rattle.syntect_regex.specs.Region.{TakesMatch, same_span, same_groups, same_groups-equiv}

pub region-left : {E : Type 0} (r : Result Bool E) (match : Option Groups) (old new : Groups) → IfOk r (λ found. TakesMatch match old found new) → OnErr r (new ≡ old)
    → new ≡ (if is_ok r then unwrap_or match old else old)
region-left (Ok b) match old new ok err = ok.1
region-left (Err e) match old new ok err = err

-- -- Equal regions

both_true : (a b : Bool) → (a && b) ≡ true → (a ≡ true) × (b ≡ true)
both_true true true e = (refl, refl)
both_true true false e = cc
both_true false b e = cc

span-equal : (x y : ℕ × ℕ) → same_span x y ≡ true → x ≡ y
span-equal x y e =
    let h = both_true (nat_eq x.0 y.0) (nat_eq x.1 y.1) e in
    ap (λ (a : ℕ). (let p : ℕ × ℕ = (a, x.1) in p)) (eqb-true x.0 y.0 h.0) ∙ ap (λ (b : ℕ). (let p : ℕ × ℕ = (y.0, b) in p)) (eqb-true x.1 y.1 h.1)

slot-equal : (x y : Option (ℕ × ℕ)) → option_eq same_span x y ≡ true → x ≡ y
slot-equal None None e = refl
slot-equal None (Some y) e = cc
slot-equal (Some x) None e = cc
slot-equal (Some x) (Some y) e = ap Some (span-equal x y e)

pub groups-equal : (x y : Groups) → same_groups x y ≡ true → x ≡ y
groups-equal [] [] e = refl
groups-equal [] (y ∷ ys) e = cc
groups-equal (x ∷ xs) [] e = cc
groups-equal (x ∷ xs) (y ∷ ys) e =
    let h = both_true (option_eq same_span x y) (same_groups xs ys) e in
    ap (λ z. z ∷ xs) (slot-equal x y h.0) ∙ ap (λ zs. y ∷ zs) (groups-equal xs ys h.1)

pub groups-same : (x y : Groups) → x ≡ y → same_groups x y ≡ true
groups-same x y e = ap (same_groups x) (sym e) ∙ same_groups-equiv.refl x
