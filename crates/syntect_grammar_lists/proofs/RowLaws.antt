-- Rows of bits, and what is passed over by them.
use Rattle.std.proofs.Common.{◌≡◌, ◌==◌, ◌<◌, ◌≤◌, ◌+◌, ◌-◌, ◌*◌, ◌/◌, ◌%◌, ◌^◌, ℕ, Bool, true, false, List, length, get_or, take, refl, sym, ap, subst, ◌∙◌, ◌⊎◌, arith, inl, inr, bit_and, bit_or, if◌then◌else◌}
use Rattle.std.specs.Int.{bit_at, trailing_zeros, w64}
use Rattle.std.specs.Prelude.{slice_set, min, max}
use Rattle.std.proofs.lemmas.Bool.{cases_lt, lt-ltb}
use Rattle.std.proofs.lemmas.Bool.Decides.{eqb_tells}
use Rattle.std.proofs.lemmas.List.{get_or-set_same, get_or-set_other, get_or-take, get_or_past, get_or_default}
use Rattle.std.proofs.lemmas.Nat.{shr-shr, shr_le}
use Rattle.std.proofs.Math.Nat.{div-eq_of_lt}
use Rattle.std.proofs.Math.Pow.{pow_mono}
use Rattle.std.proofs.lemmas.Nat.Bits.{bit_at-lt, bit_at-zero, bit_at_and, bit_at_cat_low, bit_at_ones, bit_at_or, bit_at_set_same, bit_at-trailing_zeros}
use Rattle.syntect_grammar_lists.specs.syntect_pattern_table.Starts.{is_in}
use Rattle.syntect_grammar_lists.specs.syntect_pattern_table.declared.starts.Places.{Places}
use Rattle.syntect_grammar_lists.specs.Rows.{AreRowsOf, IsOut, KeepsBits, TellsAlive, TellsEdges, TellsLines, TellsSide, behind_of, behind_row, bit_of, has_bit, side_behind}
use Rattle.syntect_grammar_lists.specs.Sides.{first_row, places_on}
use Rattle.syntect_grammar_lists.specs.declared.flats.Flat.{Flat}
use Rattle.syntect_grammar_lists.specs.declared.flats.Outlook.{Outlook}
use Rattle.syntect_grammar_lists.specs.declared.sides.Side.{Side}

-- ---- bits more ----

pub bit_past : (rows : List ℕ) (place bit : ℕ) → length rows ≤ place → bit < 64 → has_bit rows place bit ≡ true
bit_past rows place bit l b = ap (λ w. bit_at w bit == 1) (get_or_past rows place 18446744073709551615 l) ∙ ap (λ m. m == 1) (bit_at_ones 64 bit b)

-- a bit of one of two words is one of both together
one_of_two : (m n : ℕ) → m < 2 → n < 2 → (m ≡ 1) ⊎ (n ≡ 1) → max m n ≡ 1
one_of_two m n l k (inl e) = omega (arith, e, k)
one_of_two m n l k (inr e) = omega (arith, e, l)

set_in_either : (word bits b : ℕ) → (bit_at word b ≡ 1) ⊎ (bit_at bits b ≡ 1) → (bit_at (bit_or word bits) b == 1) ≡ true
set_in_either word bits b e = ap (λ m. m == 1) (bit_at_or word bits b ∙ one_of_two (bit_at word b) (bit_at bits b) (bit_at-lt word b) (bit_at-lt bits b) e)

-- a bit that is found set is 1
pub is_one : (n : ℕ) → (n == 1) ≡ true → n ≡ 1
is_one n e = elim (eqb_tells n 1) [
  | inl t ↦ t.1
  | inr f ↦ absurd (let no : true ≡ false = sym e ∙ f.0 in cc)
]

pub bits_set : (rows : List ℕ) (place word bits : ℕ) → place < length rows → (b : ℕ) → bit_at bits b ≡ 1 → has_bit (slice_set rows place (bit_or word bits)) place b ≡ true
bits_set rows place word bits l b e =
    ap (λ w. bit_at w b == 1) (get_or-set_same rows place (bit_or word bits) 18446744073709551615 l) ∙ set_in_either word bits b (inr e)

pub bits_kept : (rows : List ℕ) (place word bits : ℕ) → place < length rows → word ≡ get_or rows place word → KeepsBits rows (slice_set rows place (bit_or word bits))
bits_kept rows place word bits l same p b e = elim (eqb_tells p place) [
  | inl t ↦ rw t.1
      (ap (λ w. bit_at w b == 1) (get_or-set_same rows place (bit_or word bits) 18446744073709551615 l)
      ∙ set_in_either word bits b (inl (is_one (bit_at word b)
      (ap (λ w. bit_at w b == 1) (same ∙ get_or_default rows place word 18446744073709551615 l ∙ ap (λ q. get_or rows q 18446744073709551615) (sym t.1)) ∙ e))))
  | inr f ↦ ap (λ w. bit_at w b == 1) (get_or-set_other rows place p (bit_or word bits) 18446744073709551615 f.1) ∙ e
]

-- the bit of a number, alone in a word
pub one_bit : (k : ℕ) → k < 64 → bit_at (1 * 2 ^ k % 2 ^ 64) k ≡ 1
one_bit k l =
    let e : max (bit_at 0 k) (bit_at (1 * 2 ^ k % 2 ^ 64) k) ≡ 1 = sym (bit_at_or 0 (1 * 2 ^ k % 2 ^ 64) k) ∙ bit_at_set_same w64 0 k l in
    omega (arith, e, bit_at-zero k)

-- ---- the bits of places ----

-- an ASCII character that is one of these has its bit set
pub in_ascii : (p : Places) (x : ℕ) → x < 128 → is_in p x ≡ true → bit_at p.ascii x ≡ 1
unfolding is_in
in_ascii p x l e = is_one (bit_at p.ascii x) (sym (ap (λ b. if b then bit_at p.ascii x == 1 else (if x == 128 then p.wide else p.end)) (lt-ltb x 128 l)) ∙ e)

-- the lower and the upper half of 128 bits
pub lower_half : (n x : ℕ) → x < 64 → bit_at n x ≡ bit_at (n % 2 ^ 64) x
lower_half n x l =
    let parts : n ≡ n / 2 ^ 64 * 2 ^ 64 + n % 2 ^ 64 = omega arith in
    ap (λ m. bit_at m x) parts ∙ bit_at_cat_low (n / 2 ^ 64) 64 (n % 2 ^ 64) x l

pub upper_half : (n x : ℕ) → 64 ≤ x → bit_at n x ≡ bit_at (n / 2 ^ 64) (x - 64)
upper_half n x l =
    let far : x ≡ 64 + (x - 64) = omega (arith, l) in
    ap (bit_at n) far ∙ ap (λ m. m % 2) (sym (shr-shr n 64 (x - 64)))

-- bits from one on of which the rest has none
pub none_from : (bits from : ℕ) → bits / 2 ^ from ≡ 0 → (k : ℕ) → from ≤ k → bit_at bits k ≡ 0
none_from bits from e k l =
    let far : k ≡ from + (k - from) = omega (arith, l) in
    ap (bit_at bits) far ∙ ap (λ m. m % 2) (sym (shr-shr bits from (k - from))) ∙ ap (λ r. bit_at r (k - from)) e ∙ bit_at-zero (k - from)

-- bits from one on up to the first that is set
pub none_up_to : (bits from stop : ℕ) → ((i : ℕ) → i < stop → bit_at (bits / 2 ^ from) i ≡ 0) → (k : ℕ) → from ≤ k → k < from + stop → bit_at bits k ≡ 0
none_up_to bits from stop zeros k l m =
    let far : k ≡ from + (k - from) = omega (arith, l) in
    ap (bit_at bits) far ∙ ap (λ n. n % 2) (sym (shr-shr bits from (k - from))) ∙ zeros (k - from) (omega (arith, l, m))

-- the first bit that is set, from one on
pub set_from : (bits from stop : ℕ) → bit_at (bits / 2 ^ from) stop ≡ 1 → bit_at bits (from + stop) ≡ 1
set_from bits from stop e = ap (λ n. n % 2) (sym (shr-shr bits from stop)) ∙ e

-- a bit that is set is no farther than the word's width
pub bit_inside : (word i : ℕ) → word < 2 ^ 64 → bit_at word i ≡ 1 → i < 64
bit_inside word i fits e = elim (cases_lt i 64) [
  | inl l ↦ l
  | inr m ↦ absurd (let zero : bit_at word i ≡ 0 = high word i fits m in omega (arith, zero, e))
]
  where
    high : (word i : ℕ) → word < 2 ^ 64 → 64 ≤ i → bit_at word i ≡ 0
    high word i fits m = ap (λ q. q % 2) (div-eq_of_lt (omega (arith, fits, pow_mono m)))

-- the bits of a word from one on, of which some are left
module _ (bits from rest : ℕ) (fits : bits < 2 ^ 64) (e : rest ≡ bits / 2 ^ from) (some : 0 < rest) where
  abbrev pub skip : ℕ
  skip = trailing_zeros w64 rest

  tells : (skip < 64) × (bit_at rest skip ≡ 1) × ((i : ℕ) → i < skip → bit_at rest i ≡ 0)
  tells = bit_at-trailing_zeros w64 rest some (omega (arith, fits, e, shr_le bits from))

  pub found_next : bit_at bits (from + skip) ≡ 1
  found_next = set_from bits from skip (ap (λ r. bit_at r skip) (sym e) ∙ tells.1)

  pub found_inside : from + skip < 64
  found_inside = bit_inside bits (from + skip) fits found_next

  pub none_between : (k : ℕ) → from ≤ k → k < from + skip → bit_at bits k ≡ 0
  none_between = none_up_to bits from skip (λ i l. ap (λ r. bit_at r i) (sym e) ∙ tells.2 i l)

  pub rest_behind : rest / 2 ^ skip / 2 ^ 1 ≡ bits / 2 ^ (from + skip + 1)
  rest_behind = ap (λ r. r / 2 ^ skip / 2 ^ 1) e ∙ ap (λ r. r / 2 ^ 1) (shr-shr bits from skip) ∙ shr-shr bits (from + skip) 1

-- the next bit that is set lies in the same word
pub next_inside : (word next t : ℕ) → word < 2 ^ 64 → bit_at (word / 2 ^ (next % 64)) t ≡ 1 → next + t < (next / 64 + 1) * 64
next_inside word next t fits e =
    let at : bit_at word (next % 64 + t) ≡ 1 = ap (λ m. m % 2) (sym (shr-shr word (next % 64) t)) ∙ e in
    let l : next % 64 + t < 64 = bit_inside word (next % 64 + t) fits at in
    omega (arith, l)

-- ---- rows of a table ----

same_word : (rows part : List ℕ) (place d : ℕ) → take (length part) rows ≡ part → place < length part → get_or part place d ≡ get_or rows place d
same_word rows part place d e l = ap (λ p. get_or p place d) (sym e) ∙ get_or-take (length part) rows place d l

-- the first of some rows keep the bits of all
part_kept : (rows part : List ℕ) (place bit : ℕ) → take (length part) rows ≡ part → bit < 64 → has_bit rows place bit ≡ true → has_bit part place bit ≡ true
part_kept rows part place bit e b h = elim (cases_lt place (length part)) [
  | inl l ↦ ap (λ w. bit_at w bit == 1) (same_word rows part place 18446744073709551615 e l) ∙ h
  | inr m ↦ bit_past part place bit m b
]

-- what comes after some rows comes after the first words of the next
pub past_rows : (count first x words word : ℕ) → count ≤ first * words → count ≤ (first + x) * words + word
past_rows count first x words word l =
    let split : (first + x) * words ≡ first * words + x * words = omega arith in
    omega (arith, split, l)

pub side_kept : (side : Side) (old new : List ℕ) (words : ℕ) (flats : List Flat) → KeepsBits old new → TellsSide side old words flats → TellsSide side new words flats
side_kept side old new words flats k h x i d l m e = k ((first_row side + x) * words + i / 64) (i % 64) (h x i d l m e)

pub edges_kept : (old new : List ℕ) (words : ℕ) (flats : List Flat) → KeepsBits old new → TellsEdges old words flats → TellsEdges new words flats
edges_kept old new words flats k h i d m e = k (130 * words + i / 64) (i % 64) (h i d m e)

pub lines_kept : (old new : List ℕ) (words : ℕ) (flats : List Flat) → KeepsBits old new → TellsLines old words flats → TellsLines new words flats
lines_kept old new words flats k h i d m e = k (131 * words + i / 64) (i % 64) (h i d m e)

pub all_sides : (rows : List ℕ) (words : ℕ) (flats : List Flat) → TellsSide Side.Here rows words flats → TellsSide Side.Word rows words flats → TellsSide Side.Blank rows words flats
    → (side : Side) → TellsSide side rows words flats
all_sides rows words flats h w b Side.Here = h
all_sides rows words flats h w b Side.Word = w
all_sides rows words flats h w b Side.Blank = b

pub rows_kept : (rows part : List ℕ) (words : ℕ) (flats : List Flat) → take (length part) rows ≡ part
    → ((side : Side) → TellsSide side rows words flats) → TellsEdges rows words flats → TellsLines rows words flats → AreRowsOf part words flats
rows_kept rows part words flats e s t v = record {
  sides = λ side x k d l m i. part_kept rows part ((first_row side + x) * words + k / 64) (k % 64) e (omega arith) (s side x k d l m i);
  edges = λ k d m i. part_kept rows part (130 * words + k / 64) (k % 64) e (omega arith) (t k d m i);
  lines = λ k d m i. part_kept rows part (131 * words + k / 64) (k % 64) e (omega arith) (v k d m i);
}

-- ---- which patterns can begin where this is seen ----

-- what isn't so is the other way
is_false : (b : Bool) → (b ≡ true → true ≡ false) → b ≡ false
is_false true h = h refl
is_false false h = refl

pub is_true : (b : Bool) → (b ≡ false → true ≡ false) → b ≡ true
is_true true h = refl
is_true false h = sym (h refl)

pub side_out : (side : Side) (rows : List ℕ) (words : ℕ) (flats : List Flat) → TellsSide side rows words flats → (x k : ℕ) (d : Flat) → x < 130 → k < length flats
    → bit_of rows words (first_row side + x) k ≡ false → is_in (places_on side (get_or flats k d)) x ≡ false
side_out side rows words flats h x k d l m e = is_false (is_in (places_on side (get_or flats k d)) x) (λ f. sym (h x k d l m f) ∙ e)

edges_out : (rows : List ℕ) (words : ℕ) (flats : List Flat) → TellsEdges rows words flats → (k : ℕ) (d : Flat) → k < length flats → bit_of rows words 130 k ≡ false → (get_or flats k d).at_edges ≡ true
edges_out rows words flats h k d m e = is_true (get_or flats k d).at_edges (λ f. sym (h k d m f) ∙ e)

lines_out : (rows : List ℕ) (words : ℕ) (flats : List Flat) → TellsLines rows words flats → (k : ℕ) (d : Flat) → k < length flats → bit_of rows words 131 k ≡ false → (get_or flats k d).at_lines ≡ true
lines_out rows words flats h k d m e = is_true (get_or flats k d).at_lines (λ f. sym (h k d m f) ∙ e)

one_is_zero : (m n : ℕ) → m < 2 → n < 2 → min m n ≡ 0 → (m ≡ 0) ⊎ (n ≡ 0)
one_is_zero m n l k e = elim (cases_lt m 1) [
  | inl p ↦ inl (omega (arith, p))
  | inr p ↦ inr (omega (arith, p, l, k, e))
]

-- where a bit of two words together isn't set, it isn't in one of them
pub clear_in_one : (a b i : ℕ) → bit_at (bit_and a b) i ≡ 0 → (bit_at a i ≡ 0) ⊎ (bit_at b i ≡ 0)
clear_in_one a b i e = one_is_zero (bit_at a i) (bit_at b i) (bit_at-lt a i) (bit_at-lt b i) (sym (bit_at_and a b i) ∙ e)

module _ (rows : List ℕ) (words : ℕ) (o : Outlook) (word : ℕ) where
  module _ (flats : List Flat) (i : ℕ) (d : Flat) (r : AreRowsOf rows words flats) (l : i < 64) (inside : word * 64 + i < length flats) where
    -- its bit in a row is this one
    cleared : (row found : ℕ) → found ≡ get_or rows (row * words + word) 18446744073709551615 → bit_at found i ≡ 0 → bit_of rows words row (word * 64 + i) ≡ false
    cleared row found f z =
        let part : (word * 64 + i) / 64 ≡ word = omega (arith, l) in
        let rest : (word * 64 + i) % 64 ≡ i = omega (arith, l) in
        ap (λ q. bit_at (get_or rows (row * words + q) 18446744073709551615) ((word * 64 + i) % 64) == 1) part ∙ ap (λ q. bit_at (get_or rows (row * words + word) 18446744073709551615) q == 1) rest
        ∙ ap (λ q. bit_at q i == 1) (sym f) ∙ ap (λ q. q == 1) z

    by_edges : (edges : ℕ) → edges ≡ get_or rows (130 * words + word) 18446744073709551615 → o.off_edges ≡ true → bit_at edges i ≡ 0 → IsOut o (get_or flats (word * 64 + i) d)
    by_edges edges e f z = inr (inr (inl (f, edges_out rows words flats r.edges (word * 64 + i) d inside (cleared 130 edges e z))))

    by_lines : (lines : ℕ) → lines ≡ get_or rows (131 * words + word) 18446744073709551615 → o.off_lines ≡ true → bit_at lines i ≡ 0 → IsOut o (get_or flats (word * 64 + i) d)
    by_lines lines e f z = inr (inr (inr (f, lines_out rows words flats r.lines (word * 64 + i) d inside (cleared 131 lines e z))))

  pub tells_off_edges : (inner edges : ℕ) → TellsAlive rows words o word inner → edges ≡ get_or rows (130 * words + word) 18446744073709551615 → o.off_edges ≡ true → TellsAlive rows words o word (bit_and inner edges)
  tells_off_edges inner edges t e f flats i d r l inside z = elim (clear_in_one inner edges i z) [
    | inl p ↦ t flats i d r l inside p
    | inr q ↦ by_edges flats i d r l inside edges e f q
  ]

  pub tells_off_lines : (inner lines : ℕ) → TellsAlive rows words o word inner → lines ≡ get_or rows (131 * words + word) 18446744073709551615 → o.off_lines ≡ true → TellsAlive rows words o word (bit_and inner lines)
  tells_off_lines inner lines t e f flats i d r l inside z = elim (clear_in_one inner lines i z) [
    | inl p ↦ t flats i d r l inside p
    | inr q ↦ by_lines flats i d r l inside lines e f q
  ]

module _ (rows : List ℕ) (words : ℕ) (o : Outlook) (word here behind : ℕ) (low : o.here < 130) (bound : o.behind < 130)
    (h : here ≡ get_or rows (o.here * words + word) 18446744073709551615) (c : behind ≡ get_or rows (behind_row o * words + word) 18446744073709551615) where
  module _ (flats : List Flat) (i : ℕ) (d : Flat) (r : AreRowsOf rows words flats) (l : i < 64) (inside : word * 64 + i < length flats) where
    abbrev at : ℕ
    at = word * 64 + i

    abbrev flat : Flat
    flat = get_or flats at d

    -- its bit in a row is this one
    clear : (row found : ℕ) → found ≡ get_or rows (row * words + word) 18446744073709551615 → bit_at found i ≡ 0 → bit_of rows words row at ≡ false
    clear row found f z = cleared rows words o word flats i d r l inside row found f z

    by_here : bit_at here i ≡ 0 → IsOut o flat
    by_here z =
        let same : o.here ≡ first_row Side.Here + o.here = omega arith in
        inl (side_out Side.Here rows words flats (r.sides Side.Here) o.here at d low inside (subst (λ n. bit_of rows words n at ≡ false) same (clear o.here here h z)))

    by_behind : bit_at behind i ≡ 0 → IsOut o flat
    by_behind z = inr (inl (kind o.blank refl))
      where
        on_side : (side : Side) → side_behind o ≡ side → is_in (places_on side flat) o.behind ≡ false
        on_side side e = side_out side rows words flats (r.sides side) o.behind at d bound inside (clear (first_row side + o.behind) behind (c ∙ ap (λ s. get_or rows ((first_row s + o.behind) * words + word) 18446744073709551615) e) z)

        kind : (t : Bool) → o.blank ≡ t → is_in (behind_of o.blank flat) o.behind ≡ false
        kind false f = ap (λ t. is_in (behind_of t flat) o.behind) f ∙ on_side Side.Word (ap (λ t. if t then Side.Blank else Side.Word) f)
        kind true f = ap (λ t. is_in (behind_of t flat) o.behind) f ∙ on_side Side.Blank (ap (λ t. if t then Side.Blank else Side.Word) f)

    by_both : bit_at (bit_and here behind) i ≡ 0 → IsOut o flat
    by_both z = elim (clear_in_one here behind i z) [
      | inl p ↦ by_here p
      | inr q ↦ by_behind q
    ]

  pub tells_within : TellsAlive rows words o word (bit_and here behind)
  tells_within flats i d r l inside z = by_both flats i d r l inside z

-- ---- runs of bits that aren't set ----

-- patterns from one on whose bits in a word aren't set can't begin
pub passed_alive : (rows : List ℕ) (words : ℕ) (o : Outlook) (flats : List Flat) (next stop alive : ℕ) → AreRowsOf rows words flats
    → TellsAlive rows words o (next / 64) alive → stop ≤ (next / 64 + 1) * 64 → ((i : ℕ) → next + i < stop → bit_at (alive / 2 ^ (next % 64)) i ≡ 0)
    → (k : ℕ) (d : Flat) → next ≤ k → k < stop → k < length flats → IsOut o (get_or flats k d)
passed_alive rows words o flats next stop alive r told within zeros k d from before inside =
    let at : next / 64 * 64 + k % 64 ≡ k = omega (arith, from, before, within) in
    let bit : k % 64 ≡ next % 64 + (k - next) = omega (arith, at, from) in
    let zero : bit_at alive (k % 64) ≡ 0 = ap (bit_at alive) bit ∙ ap (λ n. n % 2) (sym (shr-shr alive (next % 64) (k - next))) ∙ zeros (k - next) (omega (arith, from, before)) in
    subst (λ n. IsOut o (get_or flats n d)) at (told flats (k % 64) d r (omega arith) (omega (arith, at, inside)) zero)
