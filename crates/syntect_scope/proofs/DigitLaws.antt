-- Digits that are set, put at the end, and compared.
use Rattle.std.proofs.Common.{◌≡◌, ◌≢◌, ℕ, zero, suc, ◌+◌, ◌*◌, ◌^◌, ◌<◌, ◌≤◌, ◌-◌, ◌%◌, ◌/◌, List, [], ◌∷◌, ◌++◌, length, length-append, length-set, drop, get_or, set, refl, arith, sym, ◌∙◌, ap, inl, inr, lit<}
use Rattle.std.proofs.lemmas.Bool.{cases_lt}
use Rattle.std.proofs.Math.Nat.{pow-le-pow_right}
use Rattle.std.proofs.Common.{nat_cmp, Less, Equal, Greater}
use Rattle.std.specs.Cmp.{nat_cmp_is}
use Rattle.std.proofs.lemmas.Grind.{pow_more}
use Rattle.std.proofs.lemmas.Nat.{pow-add, mul-le}
use Rattle.syntect_scope.specs.Digits.{number_of, AreDigits, IsNormal}

pub next_power : (n : ℕ) → 8 ^ suc n ≡ 8 * 8 ^ n
next_power n = omega arith

pub push_digit : (ds : List ℕ) (d : ℕ) → number_of (ds ++ d ∷ []) ≡ number_of ds + d * 8 ^ length ds
push_digit [] d = omega arith
push_digit (x ∷ ds) d = rw (push_digit ds d, next_power (length ds)) (omega arith)

pub digits_push : (ds : List ℕ) (d : ℕ) → AreDigits ds → d < 8 → AreDigits (ds ++ d ∷ [])
digits_push [] d h l = (l, tt)
digits_push (x ∷ ds) d h l = (h.0, digits_push ds d h.1 l)

pub digits_set : (ds : List ℕ) (i d : ℕ) → AreDigits ds → d < 8 → AreDigits (set ds i d)
digits_set [] i d h l = tt
digits_set (x ∷ ds) zero d h l = (l, h.1)
digits_set (x ∷ ds) (suc i) d h l = (h.0, digits_set ds i d h.1 l)

pub digit_small : (ds : List ℕ) (i : ℕ) → AreDigits ds → get_or ds i 0 < 8
digit_small [] i h = omega arith
digit_small (x ∷ ds) zero h = h.0
digit_small (x ∷ ds) (suc i) h = digit_small ds i h.1

-- a digit that is set
pub set_digit : (ds : List ℕ) (i d : ℕ) → i < length ds → number_of (set ds i d) + get_or ds i 0 * 8 ^ i ≡ number_of ds + d * 8 ^ i
set_digit [] i d l = absurd (omega (arith, l))
set_digit (x ∷ ds) zero d l = omega arith
set_digit (x ∷ ds) (suc i) d l =
    let ih : number_of (set ds i d) + get_or ds i 0 * 8 ^ i ≡ number_of ds + d * 8 ^ i = set_digit ds i d (omega (arith, l)) in
    rw (next_power i) (omega (arith, ih))

-- so many digits write no more than that
pub number_below : (ds : List ℕ) → AreDigits ds → number_of ds < 8 ^ length ds
number_below [] h = omega arith
number_below (d ∷ ds) h = rw (next_power (length ds)) (omega (arith, h.0, number_below ds h.1))

-- one digit of an addition: what is left to add goes on to the next digit
pub add_step : (total : ℕ) (ds : List ℕ) (i rest : ℕ) → i < length ds → number_of ds + rest * 8 ^ i ≡ total
    → number_of (set ds i ((rest + get_or ds i 0) % 8)) + (rest + get_or ds i 0) / 8 * 8 ^ (i + 1) ≡ total
add_step total ds i rest l h =
    let sum = rest + get_or ds i 0 in
    let s : number_of (set ds i (sum % 8)) + get_or ds i 0 * 8 ^ i ≡ number_of ds + sum % 8 * 8 ^ i = set_digit ds i (sum % 8) l in
    let p : 8 ^ (i + 1) ≡ 8 ^ i * 8 = pow_more 8 i in
    let parts : 8 * (sum / 8) + sum % 8 ≡ sum = omega arith in
    let m : (8 * (sum / 8) + sum % 8) * 8 ^ i ≡ sum * 8 ^ i = ap (λ (k : ℕ). k * 8 ^ i) parts in
    rw p (omega (arith, s, m, h))

-- one digit that is put at the end
pub push_step : (total : ℕ) (ds : List ℕ) (i rest : ℕ) → i ≡ length ds → number_of ds + rest * 8 ^ i ≡ total
    → number_of (ds ++ rest % 8 ∷ []) + rest / 8 * 8 ^ (i + 1) ≡ total
push_step total ds i rest e h =
    let d : number_of (ds ++ rest % 8 ∷ []) ≡ number_of ds + rest % 8 * 8 ^ i = push_digit ds (rest % 8) ∙ ap (λ (n : ℕ). number_of ds + rest % 8 * 8 ^ n) (sym e) in
    let p : 8 ^ (i + 1) ≡ 8 ^ i * 8 = pow_more 8 i in
    let parts : 8 * (rest / 8) + rest % 8 ≡ rest = omega arith in
    let m : (8 * (rest / 8) + rest % 8) * 8 ^ i ≡ rest * 8 ^ i = ap (λ (k : ℕ). k * 8 ^ i) parts in
    rw p (omega (arith, d, m, h))

times_ge : (r p : ℕ) → 0 < r → p ≤ r * p
times_ge zero p h = absurd (omega arith)
times_ge (suc r) p h = omega arith

-- while something is left to add, there is room for it
pub digit_left : (number i rest total n : ℕ) → number + rest * 8 ^ i ≡ total → total < 8 ^ n → 0 < rest → i < n
digit_left number i rest total n h t r =
    elim (cases_lt i n) [
      | inl l ↦ l
      | inr g ↦
          let m : 8 ^ n ≤ 8 ^ i = pow-le-pow_right (lit< tt) g in
          absurd (omega (arith, h, t, m, times_ge rest (8 ^ i) r))
    ]

-- ---- the highest digit ----

at_end : (ds : List ℕ) (d : ℕ) → get_or (ds ++ d ∷ []) (length ds) 0 ≡ d
at_end [] d = refl
at_end (x ∷ ds) d = at_end ds d

pub highest_push : (ds : List ℕ) (d : ℕ) → get_or (ds ++ d ∷ []) (length (ds ++ d ∷ []) - 1) 0 ≡ d
highest_push ds d =
    let k : length (ds ++ d ∷ []) - 1 ≡ length ds = omega (arith, length-append ds (d ∷ [])) in
    ap (λ (n : ℕ). get_or (ds ++ d ∷ []) n 0) k ∙ at_end ds d

other_place : (ds : List ℕ) (i k d : ℕ) → i ≢ k → get_or (set ds i d) k 0 ≡ get_or ds k 0
other_place [] i k d n = refl
other_place (x ∷ ds) zero zero d n = absurd (n refl)
other_place (x ∷ ds) zero (suc k) d n = refl
other_place (x ∷ ds) (suc i) zero d n = refl
other_place (x ∷ ds) (suc i) (suc k) d n = other_place ds i k d (λ e. n (ap suc e))

this_place : (ds : List ℕ) (i d : ℕ) → i < length ds → get_or (set ds i d) i 0 ≡ d
this_place [] i d l = absurd (omega (arith, l))
this_place (x ∷ ds) zero d l = refl
this_place (x ∷ ds) (suc i) d l = this_place ds i d (omega (arith, l))

-- a digit that is set below the highest one leaves that
pub highest_stays : (ds : List ℕ) (i d : ℕ) → i + 1 < length ds → 0 < get_or ds (length ds - 1) 0 → 0 < get_or (set ds i d) (length (set ds i d) - 1) 0
highest_stays ds i d l h =
    let e : get_or (set ds i d) (length (set ds i d) - 1) 0 ≡ get_or ds (length ds - 1) 0 =
    ap (λ (n : ℕ). get_or (set ds i d) (n - 1) 0) (length-set {A = ℕ} ds i d) ∙ other_place ds i (length ds - 1) d (λ e. omega (arith, e, l)) in
    omega (arith, e, h)

-- a sum that carries nothing on is no zero
pub highest_set : (ds : List ℕ) (i d : ℕ) → i < length ds → (i + 1 < length ds → 0 < get_or ds (length ds - 1) 0) → 0 < d → 0 < get_or (set ds i d) (length (set ds i d) - 1) 0
highest_set ds i d l h p =
    elim (cases_lt (i + 1) (length ds)) [
      | inl k ↦ highest_stays ds i d k (h k)
      | inr k ↦
          let at : length (set ds i d) - 1 ≡ i = omega (arith, length-set {A = ℕ} ds i d, k, l) in
          let e : get_or (set ds i d) (length (set ds i d) - 1) 0 ≡ d = ap (λ (n : ℕ). get_or (set ds i d) n 0) at ∙ this_place ds i d l in
          omega (arith, e, p)
    ]

normal_rest : (d e : ℕ) (ds : List ℕ) → IsNormal (d ∷ e ∷ ds) → IsNormal (e ∷ ds)
normal_rest d e ds h = (
  h.0.1,
  λ l.
      let y : length (d ∷ e ∷ ds) - 1 ≡ suc (length ds) = omega arith in
      let z : length (e ∷ ds) - 1 ≡ length ds = omega arith in
      let k : 0 < get_or (d ∷ e ∷ ds) (length (d ∷ e ∷ ds) - 1) 0 = h.1 (omega arith) in
      let q : get_or (e ∷ ds) (length (e ∷ ds) - 1) 0 ≡ get_or (d ∷ e ∷ ds) (length (d ∷ e ∷ ds) - 1) 0 =
      ap (λ (n : ℕ). get_or (e ∷ ds) n 0) z ∙ ap (λ (n : ℕ). get_or (d ∷ e ∷ ds) n 0) (sym y) in
      omega (arith, k, q),
)

-- a number without zeros at its end is at least the power of its highest place
pub number_least : (d : ℕ) (ds : List ℕ) → IsNormal (d ∷ ds) → 8 ^ length ds ≤ number_of (d ∷ ds)
number_least d [] h =
    let z : length (d ∷ []) - 1 ≡ 0 = omega arith in
    let q : get_or (d ∷ []) (length (d ∷ []) - 1) 0 ≡ d = ap (λ (n : ℕ). get_or (d ∷ []) n 0) z in
    let e : 0 < get_or (d ∷ []) (length (d ∷ []) - 1) 0 = h.1 (omega arith) in
    omega (arith, e, q)
number_least d (e ∷ ds) h = rw (next_power (length ds)) (omega (arith, number_least e ds (normal_rest d e ds h)))

-- a shorter number is less
pub shorter_less : (a b : List ℕ) → AreDigits a → IsNormal b → length a < length b → number_of a < number_of b
shorter_less a [] d n l = absurd (omega (arith, l))
shorter_less a (b ∷ bs) d n l =
    let m : 8 ^ length a ≤ 8 ^ length bs = pow-le-pow_right (lit< tt) (omega (arith, l)) in
    omega (arith, number_below a d, m, number_least b bs n)

same_digits : (a b : List ℕ) → AreDigits a → AreDigits b → length a ≡ length b → number_of a ≡ number_of b → a ≡ b
same_digits [] [] d f l e = refl
same_digits [] (y ∷ b) d f l e = absurd (omega (arith, l))
same_digits (x ∷ a) [] d f l e = absurd (omega (arith, l))
same_digits (x ∷ a) (y ∷ b) d f l e =
    let h : x ≡ y = omega (arith, e, d.0, f.0) in
    let t : number_of a ≡ number_of b = omega (arith, e, h) in
    rw (h, same_digits a b d.1 f.1 (omega (arith, l)) t) refl

-- equal numbers have equal digits
pub same_number : (a b : List ℕ) → IsNormal a → IsNormal b → number_of a ≡ number_of b → a ≡ b
same_number a b n m e =
    elim (cases_lt (length a) (length b)) [
      | inl l ↦ absurd (omega (arith, e, shorter_less a b n.0 m l))
      | inr g ↦ elim (cases_lt (length b) (length a)) [
        | inl l ↦ absurd (omega (arith, e, shorter_less b a m.0 n l))
        | inr k ↦ same_digits a b n.0 m.0 (omega (arith, g, k)) e
      ]
    ]

-- the highest digit that differs decides
pub higher_digit : (a b : List ℕ) (i : ℕ) → AreDigits a → AreDigits b → length a ≡ length b → i < length a → drop (i + 1) a ≡ drop (i + 1) b → get_or b i 0 < get_or a i 0
    → number_of b < number_of a
higher_digit [] b i d f l k e t = absurd (omega arith)
higher_digit (x ∷ a) [] i d f l k e t = absurd (omega (arith, l))
higher_digit (x ∷ a) (y ∷ b) zero d f l k e t = omega (arith, ap number_of e, t)
higher_digit (x ∷ a) (y ∷ b) (suc i) d f l k e t =
    let z : suc i + 1 ≡ suc (i + 1) = omega arith in
    let rest : drop (i + 1) a ≡ drop (i + 1) b = ap (λ (n : ℕ). drop n (x ∷ a)) (sym z) ∙ e ∙ ap (λ (n : ℕ). drop n (y ∷ b)) z in
    let ih : number_of b < number_of a = higher_digit a b i d.1 f.1 (omega (arith, l)) (omega (arith, k)) rest t in
    omega (arith, ih, d.0, f.0)

pub higher_cmp : (a b : List ℕ) (i : ℕ) → AreDigits a → AreDigits b → length a ≡ length b → i < length a → drop (i + 1) a ≡ drop (i + 1) b → get_or a i 0 ≢ get_or b i 0
    → nat_cmp (get_or a i 0) (get_or b i 0) ≡ nat_cmp (number_of a) (number_of b)
higher_cmp a b i d f l k e h =
    elim (cases_lt (get_or a i 0) (get_or b i 0)) [
      | inl u ↦ sym (nat_cmp_is (get_or a i 0) (get_or b i 0) Less u) ∙ nat_cmp_is (number_of a) (number_of b) Less (higher_digit b a i f d (sym l) (omega (arith, k, l)) (sym e) u)
      | inr v ↦ elim (cases_lt (get_or b i 0) (get_or a i 0)) [
        | inl u ↦ sym (nat_cmp_is (get_or a i 0) (get_or b i 0) Greater u) ∙ nat_cmp_is (number_of a) (number_of b) Greater (higher_digit a b i d f l k e u)
        | inr w ↦ absurd (h (omega (arith, v, w)))
      ]
    ]

pub length_cmp : (a b : List ℕ) → IsNormal a → IsNormal b → (nat_cmp (length a) (length b) ≡ Equal → ⊥) → nat_cmp (length a) (length b) ≡ nat_cmp (number_of a) (number_of b)
length_cmp a b n m d =
    elim (cases_lt (length a) (length b)) [
      | inl l ↦ sym (nat_cmp_is (length a) (length b) Less l) ∙ nat_cmp_is (number_of a) (number_of b) Less (shorter_less a b n.0 m l)
      | inr g ↦ elim (cases_lt (length b) (length a)) [
        | inl l ↦ sym (nat_cmp_is (length a) (length b) Greater l) ∙ nat_cmp_is (number_of a) (number_of b) Greater (shorter_less b a m.0 n l)
        | inr k ↦ let e : length a ≡ length b = omega (arith, g, k) in absurd (d (sym (nat_cmp_is (length a) (length b) Equal e)))
      ]
    ]

-- the sum fits into the room
pub sum_below : (old n count place room : ℕ) → old < 8 ^ n → count < 2 ^ 32 → n < room → place + 11 < room → old + count * 8 ^ place < 8 ^ room
sum_below old n count place room o k l m =
    let one : 8 ^ (n + 1) ≤ 8 ^ room = pow-le-pow_right (lit< tt) (omega (arith, l)) in
    let two : 8 ^ (place + 12) ≤ 8 ^ room = pow-le-pow_right (lit< tt) (omega (arith, m)) in
    let p : 8 ^ (n + 1) ≡ 8 ^ n * 8 = pow_more 8 n in
    let q : 8 ^ (place + 12) ≡ 8 ^ place * 8 ^ 12 = pow-add 8 place 12 in
    let r : count * 8 ^ place ≤ 4294967296 * 8 ^ place = mul-le count (8 ^ place) 4294967296 (8 ^ place) (omega (arith, k)) (omega arith) in
    omega (arith, one, two, p, q, r, o)

-- ---- the digits of a number, one after another ----

pub digit_step : (ds : List ℕ) (rest number : ℕ) → number_of ds + rest * 8 ^ length ds ≡ number → number_of (ds ++ rest % 8 ∷ []) + rest / 8 * 8 ^ length (ds ++ rest % 8 ∷ []) ≡ number
digit_step ds rest number h =
    ap (λ (n : ℕ). number_of (ds ++ rest % 8 ∷ []) + rest / 8 * 8 ^ n) (length-append ds (rest % 8 ∷ [])) ∙ push_step number ds (length ds) rest refl h

pub last_step : (ds : List ℕ) (rest : ℕ) → 0 < rest → rest / 8 ≡ 0 → 0 < get_or (ds ++ rest % 8 ∷ []) (length (ds ++ rest % 8 ∷ []) - 1) 0
last_step ds rest l z = omega (arith, highest_push ds (rest % 8), l, z)

-- ---- the digits from a place on ----

-- that digit, and those above it
pub from_place : (ds : List ℕ) (i : ℕ) → i < length ds → number_of (drop i ds) ≡ get_or ds i 0 + 8 * number_of (drop (i + 1) ds)
from_place [] i l = absurd (omega (arith, l))
from_place (x ∷ ds) zero l = refl
from_place (x ∷ ds) (suc i) l =
    let z : suc i + 1 ≡ suc (i + 1) = omega arith in
    rw z (from_place ds i (omega (arith, l)))

-- they write no more than all
pub part_below : (ds : List ℕ) (i : ℕ) → number_of (drop i ds) ≤ number_of ds
part_below [] zero = omega arith
part_below [] (suc i) = omega arith
part_below (x ∷ ds) zero = omega arith
part_below (x ∷ ds) (suc i) = omega (arith, part_below ds i)

-- a digit and what those above it write
pub digits_above : (ds : List ℕ) (i n : ℕ) → 0 < i → i ≤ length ds → number_of (drop i ds) ≡ n → get_or ds (i - 1) 0 + n * 8 ≤ number_of ds
digits_above ds i n p l e =
    let z : i - 1 + 1 ≡ i = omega (arith, p) in
    let f : number_of (drop (i - 1) ds) ≡ get_or ds (i - 1) 0 + 8 * number_of (drop (i - 1 + 1) ds) = from_place ds (i - 1) (omega (arith, p, l)) in
    let g : number_of (drop (i - 1) ds) ≡ get_or ds (i - 1) 0 + 8 * number_of (drop i ds) = rw z at f in
    omega (arith, g, e, part_below ds (i - 1))
