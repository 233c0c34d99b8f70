-- What is passed over, character by character.
use Rattle.std.proofs.Common.{◌≡◌, ℕ, suc, ◌<◌, Bool, [], ◌∷◌, length, drop, Some, None, refl, sym, ap, ◌∙◌, arith}
use Rattle.syntect_pattern.specs.Reading.{Text, first, Passing, between, note, comment, pass_on, pass}
use Rattle.syntect_pattern_words.specs.QuantifierViews.{goes_on}

pub first-cons : (t : Text) (c : ℕ) → first t ≡ Some c → t ≡ c ∷ drop 1 t
unfolding first
first-cons [] c e = cc
first-cons (x ∷ t) c e = let h : Some x ≡ Some c = e in let same : x ≡ c = cc in ap (λ (y : ℕ). y ∷ t) same

pub first-none : (t : Text) → first t ≡ None → t ≡ []
unfolding first
first-none [] e = refl
first-none (x ∷ t) e = let h : Some x ≡ None = e in cc

pub first-shorter : (t : Text) (c : ℕ) → first t ≡ Some c → length (drop 1 t) < length t
first-shorter t c e = let h : length t ≡ suc (length (drop 1 t)) = ap length (first-cons t c e) in omega arith

pass-cons : (spaced : Bool) (p : Passing) (c : ℕ) (t : Text) → pass spaced p (c ∷ t) ≡ pass_on (λ q. pass spaced q t) (c ∷ t) (goes_on spaced p c t)
unfolding pass
pass-cons spaced between c t = refl
pass-cons spaced note c t = refl
pass-cons spaced comment c t = refl

pub pass-goes : (spaced : Bool) (p q : Passing) (t : Text) (c : ℕ) → first t ≡ Some c → goes_on spaced p c (drop 1 t) ≡ Some q → pass spaced p t ≡ pass spaced q (drop 1 t)
pass-goes spaced p q t c e g =
    ap (pass spaced p) (first-cons t c e) ∙ pass-cons spaced p c (drop 1 t) ∙ ap (pass_on (λ r. pass spaced r (drop 1 t)) (c ∷ drop 1 t)) g

pub pass-stops : (spaced : Bool) (p : Passing) (t : Text) (c : ℕ) → first t ≡ Some c → goes_on spaced p c (drop 1 t) ≡ None → pass spaced p t ≡ Some t
pass-stops spaced p t c e g =
    ap (pass spaced p) (first-cons t c e) ∙ pass-cons spaced p c (drop 1 t) ∙ ap (pass_on (λ r. pass spaced r (drop 1 t)) (c ∷ drop 1 t)) g
    ∙ ap Some (sym (first-cons t c e))

pub pass-note_end : (spaced : Bool) (t : Text) → first t ≡ None → pass spaced note t ≡ None
unfolding pass
pass-note_end spaced t e = ap (pass spaced note) (first-none t e)

pub pass-between_end : (spaced : Bool) (t : Text) → first t ≡ None → pass spaced between t ≡ Some t
unfolding pass
pass-between_end spaced t e = ap (pass spaced between) (first-none t e) ∙ ap Some (sym (first-none t e))

pub pass-comment_end : (spaced : Bool) (t : Text) → first t ≡ None → pass spaced comment t ≡ Some t
unfolding pass
pass-comment_end spaced t e = ap (pass spaced comment) (first-none t e) ∙ ap Some (sym (first-none t e))
