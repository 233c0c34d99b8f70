-- Names and numbers in escapes.
use Rattle.std.proofs.Common.{◌≡◌, ℕ, [], ◌∷◌, Bool, true, false, ◌&&◌, Option, Some, None, length, take, drop, refl, ◌∙◌, ap, eq-eqb}
use Rattle.std.specs.List.{list_all}
use Rattle.std.specs.Char.{is_digit}
use Rattle.syntect_pattern.specs.Reading.{Text, first, is_name, is_name_start, is_name_char, char_of, value, ◌>>=◌, ◌>>◌}
use Rattle.syntect_pattern.specs.Escapes.{char, hex_fixed}

pub name-none : (t : Text) → first t ≡ None → is_name t ≡ false
unfolding first
name-none [] e = refl
name-none (x ∷ t) e = let h : Some x ≡ None = e in cc

pub name-some : (t : Text) (c : ℕ) → first t ≡ Some c → is_name t ≡ (is_name_start c && list_all is_name_char (drop 1 t))
unfolding first
name-some [] c e = cc
name-some (x ∷ t) c e = let h : Some x ≡ Some c = e in let same : x ≡ c = cc in ap (λ (y : ℕ). is_name_start y && list_all is_name_char t) same

-- so many digits that name a character
pub hex_fixed-is : (n : ℕ) (t : Text) (c : ℕ) → length (take n t) ≡ n → list_all (λ d. is_digit d 16) (take n t) ≡ true → char_of (value 16 (take n t)) ≡ Some c
    → hex_fixed n t ≡ Some (char c, drop n t)
unfolding hex_fixed
hex_fixed-is n t c e h k =
    ap (λ (b : Bool). (b && list_all (λ d. is_digit d 16) (take n t)) >> (char_of (value 16 (take n t)) >>= λ x. Some (char x, drop n t))) (eq-eqb (length (take n t)) n e)
    ∙ ap (λ (b : Bool). b >> (char_of (value 16 (take n t)) >>= λ x. Some (char x, drop n t))) h
    ∙ ap (λ (o : Option ℕ). o >>= λ x. Some (char x, drop n t)) k
