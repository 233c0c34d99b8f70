-- What stands between the parts of a list or a map on one line.
use Rattle.std.proofs.Common.{◌≡◌, ℕ, ◌==◌, Bool, true, false, ◌||◌, ◌∷◌, length, Some, None, refl, arith}
use Rattle.std.specs.Prelude.{nat_lt, not, ◌&&◌}
use Rattle.std.proofs.lemmas.Bool.Decides.{nat_tests}
use Rattle.syntect_yaml.specs.Lines.{Rest, is_white, is_space, line_tail}
use Rattle.syntect_yaml.specs.Scalars.{after_colon}
use Rattle.syntect_yaml.specs.Flow.{gap, after_part}
use Rattle.syntect_laws.proofs.ScalarLaws.{opens_scalar}

-- the first bytes of values
abbrev pub opens_value : ℕ → Bool
opens_value c = c == 91 || (c == 123 || opens_scalar c)

-- a byte that is neither white space nor a comment's
abbrev pub ends_gap : ℕ → Bool
ends_gap c = nat_lt 32 c && not (c == 35)

pub tail_here : (at_once : Bool) (c : ℕ) (t : Rest) → ends_gap c ≡ true → line_tail at_once (c ∷ t) ≡ None
unfolding line_tail
tail_here at_once c t h =
    let dark : is_white c ≡ false = grind (arith, nat_tests) in
    let some : (length (c ∷ t) == 0) ≡ false = grind (arith, nat_tests) in
    let feed : (c == 10) ≡ false = grind (arith, nat_tests) in
    let return : (c == 13) ≡ false = grind (arith, nat_tests) in
    let comment : (c == 35) ≡ false = grind (arith, nat_tests) in
    rw (dark, some, feed, return, comment)

pub tail_spaced : (c : ℕ) (t : Rest) → ends_gap c ≡ true → line_tail false (32 ∷ c ∷ t) ≡ None
unfolding line_tail
tail_spaced c t h =
    let dark : is_white c ≡ false = grind (arith, nat_tests) in
    let some : (length (c ∷ t) == 0) ≡ false = grind (arith, nat_tests) in
    let feed : (c == 10) ≡ false = grind (arith, nat_tests) in
    let return : (c == 13) ≡ false = grind (arith, nat_tests) in
    let comment : (c == 35) ≡ false = grind (arith, nat_tests) in
    rw (dark, some, feed, return, comment)

pub gap_here : (c : ℕ) (t : Rest) → ends_gap c ≡ true → gap (c ∷ t) ≡ Some (c ∷ t)
unfolding gap
gap_here c t h =
    let dark : is_space c ≡ false = grind (arith, nat_tests) in
    rw (tail_here false c t h, dark)

pub gap_spaced : (c : ℕ) (t : Rest) → ends_gap c ≡ true → gap (32 ∷ c ∷ t) ≡ Some (c ∷ t)
unfolding gap
gap_spaced c t h =
    let dark : is_space c ≡ false = grind (arith, nat_tests) in
    rw (tail_spaced c t h, dark)

pub value_stands : (c : ℕ) → opens_value c ≡ true → ends_gap c ≡ true
value_stands c h = grind (arith, nat_tests)

pub value_opens : (c : ℕ) → opens_value c ≡ true → ((c == 93) ≡ false) × ((c == 125) ≡ false)
value_opens c h = (grind (arith, nat_tests), grind (arith, nat_tests))

-- after a part, a comma or the mark that closes
pub comma_passed : (closing : ℕ) (t : Rest) → after_part closing (44 ∷ t) ≡ Some t
unfolding after_part
comma_passed closing t = rw (gap_here 44 t refl)

pub closing_stays : (closing : ℕ) (t : Rest) → ends_gap closing ≡ true → (closing == 44) ≡ false → after_part closing (closing ∷ t) ≡ Some (closing ∷ t)
unfolding after_part
closing_stays closing t h e =
    let same : (closing == closing) ≡ true = grind (arith, nat_tests) in
    rw (gap_here closing t h, e, same)

pub colon_passed : (flow : Bool) (t : Rest) → after_colon flow (58 ∷ 32 ∷ t) ≡ Some (32 ∷ t)
unfolding after_colon
colon_passed flow t =
    let some : (length (32 ∷ t) == 0) ≡ false = grind (arith, nat_tests) in
    rw some
