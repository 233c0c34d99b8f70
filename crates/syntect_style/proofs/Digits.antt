-- Numbers with one digit to the base of eight, compared by place and digit.
use Rattle.std.proofs.Common.{◌≡◌, ◌==◌, ℕ, zero, suc, ◌*◌, ◌^◌, ◌<◌, ◌≤◌, Bool, true, false, ◌&&◌, ◌||◌, refl, arith, lit<}
use Rattle.std.specs.Prelude.{nat_lt}
use Rattle.std.proofs.lemmas.Bool.{lt-ltb}
use Rattle.std.proofs.lemmas.Bool.Decides.{nat_tests}
use Rattle.std.proofs.Math.Nat.{pow-le-pow_right, pow-succ', one-le-pow, mul-le-mul_right, mul-lt-mul_of_pos_right}

positive : (d h k : ℕ) → (d ≡ 0 → h ≡ 0) → k < h → 0 < d
positive zero h k z l = let e : h ≡ 0 = z refl in absurd (omega arith)
positive (suc d) h k z l = omega arith

pub greater_place : (d h e k : ℕ) → (d ≡ 0 → h ≡ 0) → e < 8 → k < h → e * 8 ^ k < d * 8 ^ h
greater_place d h e k z b l =
    let i : 1 ≤ d = positive d h k z l in
    let up : 8 * 8 ^ k ≤ 8 ^ h = rw pow-succ' at (pow-le-pow_right {n = 8} (lit< tt) {i = suc k} {j = h} l) in
    let pos : 0 < 8 ^ k = one-le-pow k 8 (lit< tt) in
    let low : e * 8 ^ k < 8 * 8 ^ k = mul-lt-mul_of_pos_right b pos in
    let high : 1 * 8 ^ h ≤ d * 8 ^ h = mul-le-mul_right (8 ^ h) i in
    omega arith

-- at different places
pub by_place : (d h e k x y : ℕ) (tie : Bool) → d * 8 ^ h ≡ x → e * 8 ^ k ≡ y → (d ≡ 0 → h ≡ 0) → (e ≡ 0 → k ≡ 0) → d < 8 → e < 8 → (h ≡ k → ⊥) → nat_lt k h ≡ (nat_lt y x || ((x == y) && tie))
by_place d h e k x y tie ex ey zd ze bd be n = split (nat_lt k h) refl
  where
    split : (b : Bool) → nat_lt k h ≡ b → b ≡ (nat_lt y x || ((x == y) && tie))
    split true r =
        let l : k < h = grind (arith, nat_tests) in
        let g : e * 8 ^ k < d * 8 ^ h = greater_place d h e k zd be l in
        let m : y < x = omega arith in
        rw (lt-ltb y x m) refl
    split false r =
        let l : h < k = grind (arith, nat_tests) in
        let g : d * 8 ^ h < e * 8 ^ k = greater_place e k d h ze bd l in
        let m : x < y = omega arith in
        let f : nat_lt y x ≡ false = grind (arith, nat_tests) in
        let t : (x == y) ≡ false = grind (arith, nat_tests) in
        rw (f, t) refl

-- different digits at one place
pub by_digit : (d e k x y : ℕ) (tie : Bool) → d * 8 ^ k ≡ x → e * 8 ^ k ≡ y → (d ≡ e → ⊥) → nat_lt e d ≡ (nat_lt y x || ((x == y) && tie))
by_digit d e k x y tie ex ey n = split (nat_lt e d) refl
  where
    split : (b : Bool) → nat_lt e d ≡ b → b ≡ (nat_lt y x || ((x == y) && tie))
    split true r =
        let l : e < d = grind (arith, nat_tests) in
        let g : e * 8 ^ k < d * 8 ^ k = mul-lt-mul_of_pos_right l (one-le-pow k 8 (lit< tt)) in
        let m : y < x = omega arith in
        rw (lt-ltb y x m) refl
    split false r =
        let l : d < e = grind (arith, nat_tests) in
        let g : d * 8 ^ k < e * 8 ^ k = mul-lt-mul_of_pos_right l (one-le-pow k 8 (lit< tt)) in
        let m : x < y = omega arith in
        let f : nat_lt y x ≡ false = grind (arith, nat_tests) in
        let t : (x == y) ≡ false = grind (arith, nat_tests) in
        rw (f, t) refl
