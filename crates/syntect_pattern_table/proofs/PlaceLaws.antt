-- Sets of what can stand at a place.
use Rattle.std.proofs.Common.{◌≡◌, ◌<◌, ◌≤◌, ◌==◌, ◌+◌, ◌*◌, ◌/◌, ◌%◌, ◌^◌, ◌-◌, ◌&&◌, ◌||◌, ℕ, zero, suc, Bool, true, false, not, refl, sym, ◌∙◌, ap, arith, inl, inr, max, min, nat_le, nat_lt, eq-eqb, ne_eqb, bit_and, bit_or, List, [], ◌∷◌, ◌++◌, length, length-append, get_or, below_more}
use Rattle.std.specs.Prelude.{if◌then◌else◌}
use Rattle.std.specs.Int.{bit_at, w128}
use Rattle.std.proofs.lemmas.Bool.{lt-ltb, le-ltb, cases_lt}
use Rattle.std.proofs.lemmas.Bool.Decides.{nat_tests, eqb_tells}
use Rattle.std.proofs.lemmas.Nat.Bits.{bit_at_or, bit_at_and, bit_at-lt, bit_at-zero, bit_at_ones, bit_at_ones_above, bit_at_set_same, bit_at_set_other, shr_and_one}
use Rattle.std.proofs.lemmas.Nat.{shr-shr}
use Rattle.syntect_pattern.specs.Sets.{Set, none, range, holds}
use Rattle.syntect_pattern_table.specs.SetTable.{AreBits, is_wide, sets, set_in}
use Rattle.syntect_pattern_table.specs.declared.sets.Part.{Part}
use Rattle.syntect_pattern_table.proofs.SetLaws.{get_or-past, length-sets}
use Rattle.std.proofs.Math.ListN.{get_or-append}
use Rattle.std.proofs.Math.Seq.{get_or-append_seam}
use Rattle.syntect_pattern_table.specs.Starts.{is_in, can_hold}
use Rattle.std.proofs.lemmas.Nat.Bits.{bit_at_not}
use Rattle.std.specs.Int.{bit_not}
use Rattle.syntect_pattern_table.specs.declared.starts.Places.{Places}

or-one : (m n : ℕ) → m < 2 → n < 2 → (max m n == 1) ≡ ((m == 1) || (n == 1))
or-one zero zero h k = refl
or-one zero (suc zero) h k = refl
or-one (suc zero) zero h k = refl
or-one (suc zero) (suc zero) h k = refl
or-one (suc (suc m)) n h k = absurd (omega arith)
or-one m (suc (suc n)) h k = absurd (omega arith)

and-one : (m n : ℕ) → m < 2 → n < 2 → (min m n == 1) ≡ ((m == 1) && (n == 1))
and-one zero zero h k = refl
and-one zero (suc zero) h k = refl
and-one (suc zero) zero h k = refl
and-one (suc zero) (suc zero) h k = refl
and-one (suc (suc m)) n h k = absurd (omega arith)
and-one m (suc (suc n)) h k = absurd (omega arith)

pub bits_or : (a b x : ℕ) → (bit_at (bit_or a b) x == 1) ≡ ((bit_at a x == 1) || (bit_at b x == 1))
bits_or a b x = ap (λ n. n == 1) (bit_at_or a b x) ∙ or-one (bit_at a x) (bit_at b x) (bit_at-lt a x) (bit_at-lt b x)

pub bits_and : (a b x : ℕ) → (bit_at (bit_and a b) x == 1) ≡ ((bit_at a x == 1) && (bit_at b x == 1))
bits_and a b x = ap (λ n. n == 1) (bit_at_and a b x) ∙ and-one (bit_at a x) (bit_at b x) (bit_at-lt a x) (bit_at-lt b x)

pub put_in : (n k : ℕ) → k < 128 → (x : ℕ) → (bit_at (bit_or n (1 * 2 ^ k % 2 ^ 128)) x == 1) ≡ ((x == k) || (bit_at n x == 1))
put_in n k h x = elim (eqb_tells x k) [
  | inl t ↦ rw t.0 (ap (λ m. bit_at (bit_or n (1 * 2 ^ k % 2 ^ 128)) m == 1) t.1 ∙ ap (λ m. m == 1) (bit_at_set_same w128 n k h))
  | inr f ↦ rw f.0 (ap (λ m. m == 1) (bit_at_set_other w128 n k h x f.1))
]

choose_or : (b p q r s : Bool) → (if b then (p || r) else (q || s)) ≡ ((if b then p else q) || (if b then r else s))
choose_or true p q r s = refl
choose_or false p q r s = refl

choose_and : (b p q r s : Bool) → (if b then (p && r) else (q && s)) ≡ ((if b then p else q) && (if b then r else s))
choose_and true p q r s = refl
choose_and false p q r s = refl

same : (b p : Bool) → (if b then p else p) ≡ p
same true p = refl
same false p = refl

pub either_in : (a b : Places) (x : ℕ) → is_in (record { ascii = bit_or a.ascii b.ascii; wide = a.wide || b.wide; end = a.end || b.end }) x ≡ (is_in a x || is_in b x)
unfolding is_in
either_in a b x =
    ap (λ (t : Bool). if nat_lt x 128 then t else (if x == 128 then a.wide || b.wide else a.end || b.end)) (bits_or a.ascii b.ascii x)
    ∙ ap (λ (t : Bool). if nat_lt x 128 then (bit_at a.ascii x == 1) || (bit_at b.ascii x == 1) else t) (choose_or (x == 128) a.wide a.end b.wide b.end)
    ∙ choose_or (nat_lt x 128) (bit_at a.ascii x == 1) (if x == 128 then a.wide else a.end) (bit_at b.ascii x == 1) (if x == 128 then b.wide else b.end)

pub both_in : (a b : Places) (x : ℕ) → is_in (record { ascii = bit_and a.ascii b.ascii; wide = a.wide && b.wide; end = a.end && b.end }) x ≡ (is_in a x && is_in b x)
unfolding is_in
both_in a b x =
    ap (λ (t : Bool). if nat_lt x 128 then t else (if x == 128 then a.wide && b.wide else a.end && b.end)) (bits_and a.ascii b.ascii x)
    ∙ ap (λ (t : Bool). if nat_lt x 128 then (bit_at a.ascii x == 1) && (bit_at b.ascii x == 1) else t) (choose_and (x == 128) a.wide a.end b.wide b.end)
    ∙ choose_and (nat_lt x 128) (bit_at a.ascii x == 1) (if x == 128 then a.wide else a.end) (bit_at b.ascii x == 1) (if x == 128 then b.wide else b.end)

pub none_in : (x : ℕ) → is_in (record { ascii = 0; wide = false; end = false }) x ≡ false
unfolding is_in
none_in x =
    ap (λ (t : Bool). if nat_lt x 128 then t else (if x == 128 then false else false)) (ap (λ n. n == 1) (bit_at-zero x))
    ∙ ap (λ (t : Bool). if nat_lt x 128 then false else t) (same (x == 128) false)
    ∙ same (nat_lt x 128) false

pub all_in : (x : ℕ) → is_in (record { ascii = 2 ^ 128 - 1; wide = true; end = true }) x ≡ true
unfolding is_in
all_in x = elim (cases_lt x 128) [
  | inl l ↦ rw (lt-ltb x 128 l) (ap (λ n. n == 1) (bit_at_ones 128 x l))
  | inr l ↦ rw (le-ltb x 128 l) (same (x == 128) true)
]

-- where nothing can stand, by its parts
pub none_there : (p : Places) → p.ascii ≡ 0 → p.wide ≡ false → p.end ≡ false → (x : ℕ) → is_in p x ≡ false
unfolding is_in
none_there p a w e x = rw (a, w, e) (none_in x)

pub is_bit : (n x : ℕ) → (bit_and (n / 2 ^ x) 1 == 1) ≡ (bit_at n x == 1)
is_bit n x = ap (λ m. m == 1) (shr_and_one n x)

pub in_low : (p : Places) (x : ℕ) → x < 128 → (bit_at p.ascii x == 1) ≡ is_in p x
unfolding is_in
in_low p x l = rw (lt-ltb x 128 l) refl

pub in_wide : (p : Places) (x : ℕ) → x ≡ 128 → p.wide ≡ is_in p x
unfolding is_in
in_wide p x e = rw (le-ltb x 128 (omega (arith, e)), eq-eqb x 128 e) refl

pub in_end : (p : Places) (x : ℕ) → 128 < x → p.end ≡ is_in p x
unfolding is_in
in_end p x l = rw (le-ltb x 128 (omega (arith, l)), ne_eqb x 128 (λ e. omega (arith, e, l))) refl

-- one more flag of a number's bits
pub bit_flags-push : (bits : ℕ) (flags : List Bool) (rest k : ℕ) → length flags ≡ k → rest ≡ bits / 2 ^ k → ((j : ℕ) → j < k → get_or flags j true ≡ (bit_at bits j == 1))
    → (j : ℕ) → j < k + 1 → get_or (flags ++ (bit_and rest 1 == 1) ∷ []) j true ≡ (bit_at bits j == 1)
bit_flags-push bits flags rest k e is h =
    let flag : Bool = bit_and rest 1 == 1 in
    below_more (λ j. get_or (flags ++ flag ∷ []) j true ≡ (bit_at bits j == 1)) k
    (λ j l. get_or-append flags (flag ∷ []) true j (omega (arith, l, e)) ∙ h j l)
    (ap (λ j. get_or (flags ++ flag ∷ []) j true) (sym e) ∙ get_or-append_seam flags flag [] true ∙ ap (λ n. bit_and n 1 == 1) is ∙ is_bit bits k)

-- the flags of all that can stand there
pub flags_in : (p : Places) (low more all : List Bool) → length low ≡ 128 → ((k : ℕ) → k < 128 → get_or low k true ≡ (bit_at p.ascii k == 1))
    → more ≡ low ++ p.wide ∷ [] → all ≡ more ++ p.end ∷ [] → (x : ℕ) → x < 130 → get_or all x true ≡ is_in p x
flags_in p low more all e h m a x l =
    let count : length more ≡ 129 = ap length m ∙ omega (arith, length-append low (p.wide ∷ []), e) in
    let front : (k : ℕ) → k < 129 → get_or all k true ≡ get_or (low ++ p.wide ∷ []) k true =
    λ k q. ap (λ (fs : List Bool). get_or fs k true) a ∙ get_or-append more (p.end ∷ []) true k (omega (arith, q, count)) ∙ ap (λ (fs : List Bool). get_or fs k true) m in
    elim (cases_lt x 128) [
      | inl q ↦ front x (omega (arith, q)) ∙ get_or-append low (p.wide ∷ []) true x (omega (arith, q, e)) ∙ h x q ∙ in_low p x q
      | inr q ↦ elim (cases_lt x 129) [
        | inl r ↦
            let is : x ≡ 128 = omega (arith, q, r) in
            front x r ∙ ap (λ k. get_or (low ++ p.wide ∷ []) k true) (is ∙ sym e) ∙ get_or-append_seam low p.wide [] true ∙ in_wide p x is
        | inr r ↦
            let is : x ≡ 129 = omega (arith, r, l) in
            ap (λ (fs : List Bool). get_or fs x true) a ∙ ap (λ k. get_or (more ++ p.end ∷ []) k true) (is ∙ sym count) ∙ get_or-append_seam more p.end [] true ∙ in_end p x (omega (arith, is))
      ]
    ]

no_bit : (x : ℕ) → (bit_at 0 x == 1) ≡ false
no_bit x = ap (λ n. n == 1) (bit_at-zero x)

or_false : (b : Bool) → (b || false) ≡ b
or_false true = refl
or_false false = refl

as_and : (b w : Bool) → (if b then w else false) ≡ (b && w)
as_and true w = refl
as_and false w = refl

pub holding_in : (n : ℕ) (a : Set) (w : Bool) → ((x : ℕ) → x < 128 → (bit_at n x == 1) ≡ holds a x) → w ≡ is_wide a → (x : ℕ) → is_in (record { ascii = n; wide = w; end = false }) x ≡ can_hold a x
unfolding is_in
holding_in n a w h e x = elim (cases_lt x 128) [
  | inl l ↦ rw (lt-ltb x 128 l) (h x l)
  | inr l ↦ rw (le-ltb x 128 l) (as_and (x == 128) w ∙ ap (λ b. x == 128 && b) e)
]

is_one : (w x : ℕ) → (x == w) ≡ holds (range w w) x
is_one w x = elim (eqb_tells x w) [
  | inl t ↦ t.0 ∙ sym (grind (arith, nat_tests))
  | inr f ↦ f.0 ∙ sym (grind (arith, nat_tests))
]

pub char_in : (w : ℕ) → w < 128 → (n : ℕ) → ((x : ℕ) → (bit_at n x == 1) ≡ ((x == w) || (bit_at 0 x == 1))) → (x : ℕ) → is_in (record { ascii = n; wide = false; end = false }) x ≡ can_hold (range w w) x
char_in w near n h =
    holding_in n (range w w) false (λ x l. h x ∙ ap (λ b. (x == w) || b) (no_bit x) ∙ or_false (x == w) ∙ is_one w x) (grind (arith, nat_tests))

pub wide_in : (w : ℕ) → 128 ≤ w → (x : ℕ) → is_in (record { ascii = 0; wide = true; end = false }) x ≡ can_hold (range w w) x
wide_in w far = holding_in 0 (range w w) true (λ x l. no_bit x ∙ sym (ne_eqb x w (λ e. omega (arith, e, l, far))) ∙ is_one w x) (grind (arith, nat_tests))

pub newline_in : (n : ℕ) → ((x : ℕ) → (bit_at n x == 1) ≡ ((x == 10) || (bit_at 0 x == 1))) → (x : ℕ) → is_in (record { ascii = n; wide = true; end = true }) x ≡ (not (nat_lt x 128) || x == 10)
unfolding is_in
newline_in n h x = elim (cases_lt x 128) [
  | inl l ↦ rw (lt-ltb x 128 l) (h x ∙ ap (λ b. (x == 10) || b) (no_bit x) ∙ or_false (x == 10))
  | inr l ↦ rw (le-ltb x 128 l) (same (x == 128) true)
]

pub end_in : (x : ℕ) → x < 130 → is_in (record { ascii = 0; wide = false; end = true }) x ≡ (x == 129)
unfolding is_in
end_in x top = elim (cases_lt x 128) [
  | inl l ↦ rw (lt-ltb x 128 l) (no_bit x ∙ sym (ne_eqb x 129 (λ e. omega (arith, e, l))))
  | inr l ↦ rw (le-ltb x 128 l) (elim (cases_lt x 129) [
    | inl k ↦ let is : x ≡ 128 = omega (arith, l, k) in rw (eq-eqb x 128 is) (sym (ne_eqb x 129 (λ e. omega (arith, e, k))))
    | inr k ↦ let is : x ≡ 129 = omega (arith, top, k) in rw (ne_eqb x 128 (λ e. omega (arith, e, k))) (sym (eq-eqb x 129 is))
  ])
]

not-one : (m : ℕ) → m < 2 → (1 - m == 1) ≡ not (m == 1)
not-one zero h = refl
not-one (suc zero) h = refl
not-one (suc (suc m)) h = absurd (omega arith)

pub bits_not : (n x : ℕ) → n < 2 ^ 128 → x < 128 → (bit_at (bit_not w128 n) x == 1) ≡ not (bit_at n x == 1)
bits_not n x h l = ap (λ m. m == 1) (bit_at_not w128 n x h l) ∙ not-one (bit_at n x) (bit_at-lt n x)

-- the bits below an end, of all bits that there are
pub bits_below : (end : ℕ) → 0 < end → end ≤ 128 → (x : ℕ) → (bit_at ((2 ^ 128 - 1) / 2 ^ (128 - end)) x == 1) ≡ nat_lt x end
bits_below end some top x =
    let k : ℕ = 128 - end in
    let moved : bit_at ((2 ^ 128 - 1) / 2 ^ k) x ≡ bit_at (2 ^ 128 - 1) (k + x) = ap (λ n. n % 2) (shr-shr (2 ^ 128 - 1) k x) in
    elim (cases_lt x end) [
      | inl l ↦ ap (λ m. m == 1) (moved ∙ bit_at_ones 128 (k + x) (omega (arith, l, top))) ∙ sym (lt-ltb x end l)
      | inr l ↦ ap (λ m. m == 1) (moved ∙ bit_at_ones_above 128 (k + x) (omega (arith, l, top))) ∙ sym (le-ltb x end l)
    ]

pub none_below : (x : ℕ) → (bit_at 0 x == 1) ≡ nat_lt x 0
none_below x = no_bit x ∙ sym (le-ltb x 0 (omega arith))

between : (first end x : ℕ) → (nat_lt x end && not (nat_lt x first)) ≡ (nat_le first x && nat_lt x end)
between first end x = grind (arith, nat_tests)

none_between : (first x : ℕ) → false ≡ (nat_le first x && false)
none_between first x = grind (arith, nat_tests)

-- the bits that are below the end and not below the first one
pub bits_between : (first end x : ℕ) → end ≤ 128 → (low high rest whole : Bool) → low ≡ nat_lt x first → high ≡ nat_lt x end → (x < 128 → rest ≡ not low) → whole ≡ (high && rest)
    → whole ≡ (nat_le first x && nat_lt x end)
bits_between first end x top low high rest whole lo hi others is = elim (cases_lt x 128) [
  | inl l ↦ is ∙ ap (λ b. high && b) (others l ∙ ap not lo) ∙ ap (λ b. b && not (nat_lt x first)) hi ∙ between first end x
  | inr l ↦
      let none : nat_lt x end ≡ false = le-ltb x end (omega (arith, l, top)) in
      is ∙ ap (λ b. b && rest) (hi ∙ none) ∙ none_between first x ∙ ap (λ b. nat_le first x && b) (sym none)
]

-- one more set's bit
pub bits_push : (x : ℕ) (bs : List ℕ) (ss : List Set) (b k : ℕ) → AreBits x bs ss → length bs ≡ k → (bit_at b x == 1) ≡ holds (get_or ss k none) x → AreBits x (bs ++ b ∷ []) ss
bits_push x bs ss b k h e is j d l =
    below_more (λ n. (c : ℕ) → (bit_at (get_or (bs ++ b ∷ []) n c) x == 1) ≡ holds (get_or ss n none) x) (length bs)
    (λ n p c. ap (λ y. bit_at y x == 1) (get_or-append bs (b ∷ []) c n p) ∙ h n c p)
    (λ c. ap (λ y. bit_at y x == 1) (get_or-append_seam bs b [] c) ∙ is ∙ ap (λ n. holds (get_or ss n none) x) (sym e)) j (omega (arith, length-append bs (b ∷ []))) d

-- nothing is in a set past the end
pub past_bits : (ps : List Part) (k : ℕ) → length ps ≤ k → (x : ℕ) → (bit_at 0 x == 1) ≡ holds (set_in ps k) x
past_bits ps k h x = no_bit x ∙ sym (ap (λ (a : Set). holds a x) (get_or-past (sets ps) k (omega (arith, length-sets ps))))
