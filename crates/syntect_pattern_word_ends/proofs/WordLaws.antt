-- The ASCII characters of words, and white space.
use Rattle.std.proofs.Common.{◌≡◌, ◌<◌, ◌≤◌, ◌==◌, ◌+◌, ◌^◌, ◌&&◌, ◌||◌, ◌∙◌, ℕ, zero, suc, Bool, true, false, not, List, [], ◌∷◌, ◌++◌, refl, sym, ap, arith, inl, inr, leb-true, below_more, bit_and, true≢false}
use Rattle.std.specs.Prelude.{if◌then◌else◌, nat_le}
use Rattle.std.specs.Bool.{beq}
use Rattle.std.specs.Int.{bit_at, trailing_zeros, w128}
use Rattle.std.specs.List.{list_all, list_any}
use Rattle.std.proofs.lemmas.Bool.Decides.{eqb_tells, nat_tests}
use Rattle.std.proofs.lemmas.Nat.Bits.{bit_at-trailing_zeros, bit_at-zero}
use Rattle.std.proofs.lemmas.Bool.{cases_lt, and_parts, lt-ltb}
use Rattle.std.proofs.lemmas.List.Folds.{list_any-append}
use Rattle.syntect_pattern_word_ends.specs.syntect_pattern.Sets.{Set, holds, is_within, numbers_from, range}
use Rattle.syntect_pattern_table.specs.SetTable.{AreFlags, is_wide}
use Rattle.syntect_pattern_table.specs.Starts.{can_hold, is_in}
use Rattle.syntect_pattern_table.specs.declared.starts.Places.{Places}
use Rattle.syntect_pattern_table.proofs.AlikeLaws.{or_cases}
use Rattle.syntect_pattern_table.proofs.PlaceLaws.{bits_and, in_low}
use Rattle.syntect_pattern_word_ends.specs.Ends.{blanks, has_one, is_blank, is_of, is_word_char, word_chars}

pub or-left : (a b : Bool) → a ≡ true → (a || b) ≡ true
or-left true b e = refl
or-left false b e = cc

pub or-right : (a b : Bool) → b ≡ true → (a || b) ≡ true
or-right true b e = refl
or-right false b e = e

-- a number among some in a row
number-among : (f : ℕ → Bool) (n low c : ℕ) → low ≤ c → c < low + n → f c ≡ true → list_any f (numbers_from low n) ≡ true
number-among f zero low c l h y = absurd (omega arith)
number-among f (suc n) low c l h y = elim (cases_lt low c) [
  | inl p ↦ or-right (f low) (list_any f (numbers_from (suc low) n)) (number-among f n (suc low) c (omega (arith, p)) (omega (arith, h)) y)
  | inr p ↦ (let is : c ≡ low = omega (arith, p, l) in or-left (f low) (list_any f (numbers_from (suc low) n)) (sym (ap f is) ∙ y))
]

within-among : (f : ℕ → Bool) (low n c : ℕ) → is_within low (low + n) c ≡ true → f c ≡ true → list_any f (numbers_from low (suc n)) ≡ true
within-among f low n c e y =
    let p = and_parts (nat_le low c) (nat_le c (low + n)) e in
    let least : low ≤ c = leb-true low c p.0 in
    let most : c ≤ low + n = leb-true c (low + n) p.1 in
    number-among f (suc n) low c least (omega (arith, most)) y

any-left : (f : ℕ → Bool) (xs ys : List ℕ) → list_any f xs ≡ true → list_any f (xs ++ ys) ≡ true
any-left f xs ys e = list_any-append f xs ys ∙ or-left (list_any f xs) (list_any f ys) e

any-right : (f : ℕ → Bool) (xs ys : List ℕ) → list_any f ys ≡ true → list_any f (xs ++ ys) ≡ true
any-right f xs ys e = list_any-append f xs ys ∙ or-right (list_any f xs) (list_any f ys) e

abbrev digits : List ℕ
digits = numbers_from 0x30 10

abbrev capitals : List ℕ
capitals = numbers_from 0x41 26

abbrev line : List ℕ
line = numbers_from 0x5F 1

abbrev small : List ℕ
small = numbers_from 0x61 26

char-among : (f : ℕ → Bool) (c : ℕ) → is_word_char c ≡ true → f c ≡ true → list_any f word_chars ≡ true
char-among f c e y = elim (or_cases (is_within 0x30 0x39 c) (is_within 0x41 0x5A c || (is_within 0x5F 0x5F c || is_within 0x61 0x7A c)) e) [
  | inl p ↦ any-left f digits (capitals ++ (line ++ small)) (within-among f 0x30 9 c p y)
  | inr p ↦ any-right f digits (capitals ++ (line ++ small)) (elim (or_cases (is_within 0x41 0x5A c) (is_within 0x5F 0x5F c || is_within 0x61 0x7A c) p) [
    | inl q ↦ any-left f capitals (line ++ small) (within-among f 0x41 25 c q y)
    | inr q ↦ any-right f capitals (line ++ small) (elim (or_cases (is_within 0x5F 0x5F c) (is_within 0x61 0x7A c) q) [
      | inl r ↦ any-left f line small (within-among f 0x5F 0 c r y)
      | inr r ↦ any-right f line small (within-among f 0x61 25 c r y)
    ])
  ])
]

blank-among : (f : ℕ → Bool) (c : ℕ) → is_blank c ≡ true → f c ≡ true → list_any f blanks ≡ true
blank-among f c e y = elim (or_cases (is_within 0x09 0x0D c) (is_within 0x20 0x20 c) e) [
  | inl p ↦ any-left f (numbers_from 0x09 5) (numbers_from 0x20 1) (within-among f 0x09 4 c p y)
  | inr p ↦ any-right f (numbers_from 0x09 5) (numbers_from 0x20 1) (within-among f 0x20 0 c p y)
]

-- a set that holds a character of runs has one
pub run-held : (blank : Bool) (a : Set) (c : ℕ) → is_of blank c ≡ true → holds a c ≡ true → has_one blank a ≡ true
unfolding has_one
run-held true a c e y = blank-among (holds a) c e y
run-held false a c e y = char-among (holds a) c e y

below : (low high c : ℕ) → high < 128 → is_within low high c ≡ true → c < 128
below low high c h y =
    let p = and_parts (nat_le low c) (nat_le c high) y in
    let most : c ≤ high = leb-true c high p.1 in
    omega (arith, most, h)

word-near : (c : ℕ) → is_word_char c ≡ true → c < 128
word-near c e = elim (or_cases (is_within 0x30 0x39 c) (is_within 0x41 0x5A c || (is_within 0x5F 0x5F c || is_within 0x61 0x7A c)) e) [
  | inl p ↦ below 0x30 0x39 c (omega arith) p
  | inr p ↦ elim (or_cases (is_within 0x41 0x5A c) (is_within 0x5F 0x5F c || is_within 0x61 0x7A c) p) [
    | inl q ↦ below 0x41 0x5A c (omega arith) q
    | inr q ↦ elim (or_cases (is_within 0x5F 0x5F c) (is_within 0x61 0x7A c) q) [
      | inl r ↦ below 0x5F 0x5F c (omega arith) r
      | inr r ↦ below 0x61 0x7A c (omega arith) r
    ]
  ]
]

blank-near : (c : ℕ) → is_blank c ≡ true → c < 128
blank-near c e = elim (or_cases (is_within 0x09 0x0D c) (is_within 0x20 0x20 c) e) [
  | inl p ↦ below 0x09 0x0D c (omega arith) p
  | inr p ↦ below 0x20 0x20 c (omega arith) p
]

-- such a character is one of ASCII
pub run-near : (blank : Bool) (c : ℕ) → is_of blank c ≡ true → c < 128
run-near true c e = blank-near c e
run-near false c e = word-near c e

-- -- One character

row-of : (w n low : ℕ) → list_any (is_within w w) (numbers_from low (suc n)) ≡ is_within low (low + n) w
row-of w zero low = grind (arith, nat_tests)
row-of w (suc n) low =
    ap (λ b. is_within w w low || b) (row-of w n (suc low)) ∙ first
  where
    first : (is_within w w low || is_within (suc low) (suc low + n) w) ≡ is_within low (low + suc n) w
    first = grind (arith, nat_tests)

-- a list of two rows
two-rows : (f : ℕ → Bool) (xs ys : List ℕ) (a b : Bool) → list_any f xs ≡ a → list_any f ys ≡ b → list_any f (xs ++ ys) ≡ (a || b)
two-rows f xs ys a b h k = list_any-append f xs ys ∙ ap (λ c. c || list_any f ys) h ∙ ap (λ c. a || c) k

one_of_run : (blank : Bool) (w : ℕ) → is_of blank w ≡ has_one blank (range w w)
unfolding has_one
one_of_run true w =
    sym (two-rows (is_within w w) (numbers_from 0x09 5) (numbers_from 0x20 1) (is_within 0x09 0x0D w) (is_within 0x20 0x20 w) (row-of w 4 0x09) (row-of w 0 0x20))
one_of_run false w =
    let f : ℕ → Bool = is_within w w in
    let last : list_any f (line ++ small) ≡ (is_within 0x5F 0x5F w || is_within 0x61 0x7A w) = two-rows f line small _ _ (row-of w 0 0x5F) (row-of w 25 0x61) in
    let more : list_any f (capitals ++ (line ++ small)) ≡ (is_within 0x41 0x5A w || (is_within 0x5F 0x5F w || is_within 0x61 0x7A w)) = two-rows f capitals (line ++ small) _ _ (row-of w 25 0x41) last in
    sym (two-rows f digits (capitals ++ (line ++ small)) _ _ (row-of w 9 0x30) more)

-- a character of ASCII is asked by its byte
pub near_one : (blank r : Bool) (w : ℕ) → r ≡ is_of blank w → r ≡ has_one blank (range w w)
near_one blank r w e = e ∙ one_of_run blank w

pub far_one : (blank : Bool) (w : ℕ) → 128 ≤ w → false ≡ has_one blank (range w w)
far_one blank w l = sym (none (is_of blank w) refl) ∙ one_of_run blank w
  where
    none : (b : Bool) → is_of blank w ≡ b → is_of blank w ≡ false
    none true e = absurd (omega (arith, l, run-near blank w e))
    none false e = e

-- -- The characters as bits

abbrev all_below : (ℕ → Bool) → ℕ → Bool
all_below p zero = true
all_below p (suc n) = p n && all_below p n

all_below-at : (p : ℕ → Bool) (n j : ℕ) → all_below p n ≡ true → j < n → p j ≡ true
all_below-at p zero j h l = absurd (omega (arith, l))
all_below-at p (suc n) j h l =
    let parts = and_parts (p n) (all_below p n) h in
    below_more (λ i. p i ≡ true) n (λ i q. all_below-at p n i parts.1 q) parts.0 j (omega (arith, l))

alike : (a b : Bool) → beq a b ≡ true → a ≡ b
alike true true e = refl
alike true false e = cc
alike false true e = cc
alike false false e = refl

pub word_bits : (x : ℕ) → x < 128 → (bit_at 0x07ff_fffe_87ff_fffe_03ff_0000_0000_0000 x == 1) ≡ is_of false x
word_bits x l = alike _ _ (all_below-at (λ c. beq (bit_at 0x07ff_fffe_87ff_fffe_03ff_0000_0000_0000 c == 1) (is_word_char c)) 128 x refl l)

pub blank_bits : (x : ℕ) → x < 128 → (bit_at 0x0000_0000_0000_0000_0000_0001_0000_3e00 x == 1) ≡ is_of true x
blank_bits x l = alike _ _ (all_below-at (λ c. beq (bit_at 0x0000_0000_0000_0000_0000_0001_0000_3e00 c == 1) (is_blank c)) 128 x refl l)

-- one of some numbers, of which each passes the other test
any-of : (f g : ℕ → Bool) (xs : List ℕ) → list_all g xs ≡ true → list_any f xs ≡ true → (c : ℕ) × ((f c ≡ true) × (g c ≡ true))
any-of f g [] h e = cc
any-of f g (x ∷ xs) h e =
    let parts = and_parts (g x) (list_all g xs) h in
    elim (or_cases (f x) (list_any f xs) e) [
      | inl p ↦ (x, (p, parts.0))
      | inr p ↦ any-of f g xs parts.1 p
    ]

one-in : (blank : Bool) (a : Set) → has_one blank a ≡ true → (c : ℕ) × ((holds a c ≡ true) × (is_of blank c ≡ true))
unfolding has_one
one-in true a e = any-of (holds a) is_blank blanks refl e
one-in false a e = any-of (holds a) is_word_char word_chars refl e

-- the bits of a set and those of runs have one in common
pub bits_tell : (blank : Bool) (a : Set) (n m : ℕ) → AreFlags n a → ((x : ℕ) → x < 128 → (bit_at m x == 1) ≡ is_of blank x) → bit_and n m < 2 ^ 128
    → not (bit_and n m == 0) ≡ has_one blank a
bits_tell blank a n m h k fits = elim (eqb_tells (bit_and n m) 0) [
  | inl t ↦ ap not t.0 ∙ sym (none (has_one blank a) refl t.1)
  | inr f ↦
      let low = bit_at-trailing_zeros w128 (bit_and n m) (omega (arith, f.1)) fits in
      let x : ℕ = trailing_zeros w128 (bit_and n m) in
      let parts = and_parts (bit_at n x == 1) (bit_at m x == 1) (sym (bits_and n m x) ∙ ap (λ b. b == 1) low.1) in
      ap not f.0 ∙ sym (run-held blank a x (sym (k x low.0) ∙ parts.1) (sym (h x low.0) ∙ parts.0))
]
  where
    none : (b : Bool) → has_one blank a ≡ b → bit_and n m ≡ 0 → has_one blank a ≡ false
    none false e z = e
    none true e z =
        let c = one-in blank a e in
        let near : c.0 < 128 = run-near blank c.0 c.1.1 in
        let both : (bit_at (bit_and n m) c.0 == 1) ≡ true =
        bits_and n m c.0 ∙ ap (λ b. b && (bit_at m c.0 == 1)) (h c.0 near ∙ c.1.0) ∙ (k c.0 near ∙ c.1.1) in
        let clear : (bit_at (bit_and n m) c.0 == 1) ≡ false = ap (λ i. bit_at i c.0 == 1) z ∙ ap (λ i. i == 1) (bit_at-zero c.0) in
        absurd (true≢false (sym both ∙ clear))

-- the bits of where a character of a set can stand are those of the set
pub flags-in : (places : Places) (a : Set) → ((x : ℕ) → x < 130 → is_in places x ≡ can_hold a x) → AreFlags places.ascii a
flags-in places a h x l =
    in_low places x l ∙ h x (omega (arith, l))
    ∙ ap (λ (b : Bool). if b then holds a x else (x == 128 && is_wide a)) (lt-ltb x 128 l)
