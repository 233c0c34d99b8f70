-- Plain scalars, a byte at a time.
use Rattle.std.proofs.Common.{◌≡◌, ℕ, zero, suc, ◌+◌, ◌<◌, ◌≤◌, Bool, true, false, ◌==◌, [], ◌∷◌, length, drop, get_or, subst, refl, arith, inl, inr}
use Rattle.std.specs.Prelude.{if◌then◌else◌}
use Rattle.std.proofs.lemmas.Bool.Decides.{nat_tests}
use Rattle.std.proofs.lemmas.List.{drop_more}
use Rattle.std.proofs.lemmas.Bool.{cases_lt}
use Rattle.std.proofs.lemmas.Str.{IsCharBoundary-end, IsCharBoundary-before_ascii}
use Rattle.std.specs.Str.{IsCharBoundary}
use Rattle.syntect_yaml.specs.Lines.{Rest, is_white, space}
use Rattle.syntect_yaml.specs.Scalars.{ends_plain, plain_len}

-- a scalar that goes on for n bytes at a place, or ended before it
abbrev pub from_end : ℕ → ℕ → ℕ → ℕ
from_end end at n = if n == 0 then end else at + n

at_end : (flow spaced : Bool) (c : ℕ) (t : Rest) → ends_plain flow spaced (c ∷ t) ≡ true → plain_len flow spaced (c ∷ t) ≡ 0
unfolding plain_len
at_end flow spaced c t e = rw e

at_white : (end at : ℕ) (flow spaced : Bool) (c : ℕ) (t : Rest) → ends_plain flow spaced (c ∷ t) ≡ false → is_white c ≡ true
    → from_end end at (plain_len flow spaced (c ∷ t)) ≡ from_end end (at + 1) (plain_len flow (c == space) t)
unfolding plain_len
at_white end at flow spaced c t e w = rw (e, w) (grind (arith, nat_tests))

at_other : (end at : ℕ) (flow spaced : Bool) (c : ℕ) (t : Rest) → ends_plain flow spaced (c ∷ t) ≡ false → is_white c ≡ false
    → from_end end at (plain_len flow spaced (c ∷ t)) ≡ from_end (at + 1) (at + 1) (plain_len flow (c == space) t)
unfolding plain_len
at_other end at flow spaced c t e w = rw (e, w) (grind (arith, nat_tests))

-- the scalar ended before the place
pub plain_ends : (flow spaced : Bool) (s : Rest) (i : ℕ) → i < length s → ends_plain flow spaced (drop i s) ≡ true → plain_len flow spaced (drop i s) ≡ 0
plain_ends flow spaced s i h e = rw (drop_more s i 0 h) (at_end flow spaced (get_or s i 0) (drop (i + 1) s) (rw (drop_more s i 0 h) at e))

pub plain_white : (end : ℕ) (flow spaced : Bool) (s : Rest) (i : ℕ) → i < length s → ends_plain flow spaced (drop i s) ≡ false → is_white (get_or s i 0) ≡ true
    → from_end end i (plain_len flow spaced (drop i s)) ≡ from_end end (i + 1) (plain_len flow (get_or s i 0 == space) (drop (i + 1) s))
plain_white end flow spaced s i h e w = rw (drop_more s i 0 h) (at_white end i flow spaced (get_or s i 0) (drop (i + 1) s) (rw (drop_more s i 0 h) at e) w)

pub plain_other : (end : ℕ) (flow spaced : Bool) (s : Rest) (i : ℕ) → i < length s → ends_plain flow spaced (drop i s) ≡ false → is_white (get_or s i 0) ≡ false
    → from_end end i (plain_len flow spaced (drop i s)) ≡ from_end (i + 1) (i + 1) (plain_len flow (get_or s i 0 == space) (drop (i + 1) s))
plain_other end flow spaced s i h e w = rw (drop_more s i 0 h) (at_other end i flow spaced (get_or s i 0) (drop (i + 1) s) (rw (drop_more s i 0 h) at e) w)

stop_ascii : (flow spaced : Bool) (c : ℕ) (t : Rest) → ends_plain flow spaced (c ∷ t) ≡ true → c < 128
unfolding ends_plain
stop_ascii flow spaced c t e = grind (arith, nat_tests)

-- what ends a plain scalar is an ASCII byte
pub stops_ascii : (flow spaced : Bool) (s : Rest) (i : ℕ) → i < length s → ends_plain flow spaced (drop i s) ≡ true → get_or s i 0 < 128
stops_ascii flow spaced s i h e = stop_ascii flow spaced (get_or s i 0) (drop (i + 1) s) (rw (drop_more s i 0 h) at e)

pub plain_none : (flow spaced : Bool) (s : Rest) (i : ℕ) → length s ≡ i → plain_len flow spaced (drop i s) ≡ 0
unfolding plain_len
plain_none flow spaced [] zero h = refl
plain_none flow spaced [] (suc i) h = refl
plain_none flow spaced (c ∷ s) zero h = absurd (omega arith)
plain_none flow spaced (c ∷ s) (suc i) h = plain_none flow spaced s i (omega arith)

-- the end of a scalar is the start of a character
pub end_boundary : (s : Rest) (end at : ℕ) → end ≤ at → (end < at → get_or s end 0 < 128) → at ≤ length s → (at < length s → get_or s at 0 < 128) → IsCharBoundary s end
end_boundary s end at le before within here =
    elim (cases_lt end (length s)) [
      | inl inside ↦ IsCharBoundary-before_ascii s end inside (elim (cases_lt end at) [ inl less ↦ before less | inr same ↦ let e : at ≡ end = omega arith in subst (λ (k : ℕ). get_or s k 0 < 128) e (here (omega arith)) ])
      | inr past ↦ let e : length s ≡ end = omega arith in subst (IsCharBoundary s) e (IsCharBoundary-end s)
    ]

pub kept_ascii : (s : Rest) (end at : ℕ) → end ≤ at → (end < at → get_or s end 0 < 128) → is_white (get_or s at 0) ≡ true → get_or s end 0 < 128
kept_ascii s end at le before white =
    elim (cases_lt end at) [ inl less ↦ before less | inr same ↦ let e : at ≡ end = omega arith in subst (λ (k : ℕ). get_or s k 0 < 128) e (grind (arith, nat_tests)) ]
