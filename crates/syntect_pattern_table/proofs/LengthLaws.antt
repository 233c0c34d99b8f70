-- How many bytes matches read.
use Rattle.std.proofs.Common.{◌≡◌, ◌<◌, ◌≤◌, ◌+◌, ◌-◌, ◌*◌, ℕ, zero, suc, Bool, true, false, List, [], ◌∷◌, ◌++◌, max, refl, sym, ◌∙◌, ap, subst, arith, Option, Some, None, length, get_or, inl, inr}
use Rattle.std.specs.Prelude.{nat_le, ◌&&◌, ◌==◌, ◌≢◌, chars, slice_get, slice_range}
use Rattle.std.specs.List.{list_all}
use Rattle.std.specs.Char.{len_utf8}
use Rattle.std.specs.Option.{SomeIff, option_map}
use Rattle.std.proofs.lemmas.Str.{len_utf8_bounds, len_utf8_ascii}
use Rattle.std.proofs.lemmas.Bool.{le-leb, leb-true, eqb-true, and_parts, cases_lt}
use Rattle.std.proofs.lemmas.Bool.Decides.{nat_tests}
use Rattle.std.proofs.Math.Seq.{get_or-append_seam}
use Rattle.std.proofs.lemmas.List.{get_or_append_left}
use Rattle.std.proofs.Common.{length-append}
use Rattle.syntect_pattern.specs.Text.{char_at}
use Rattle.syntect_pattern.specs.Sets.{Set, range, holds}
use Rattle.syntect_pattern.specs.Trees.{Tree, nothing, one_of, anchor, same, seq, alt, repeat, group, atomic, ahead, behind}
use Rattle.syntect_pattern.specs.declared.anchor.Anchor.{Anchor}
use Rattle.syntect_pattern.specs.Matches.{Groups, Member, Way, matches, past, only_if, close, look, ending_here, anchor_holds, turns, prefer, while_left, after_turn, spelled, same_text, equals}
use Rattle.syntect_pattern.proofs.Each.{Each, each_of, each-append, each-flat_map, each-map, each-take}
use Rattle.syntect_pattern_table.specs.SetTable.{is_wide}
use Rattle.syntect_pattern_table.specs.Lengths.{ReadsLeast, ReadsMost, HasLengths, AreLengths, IsMadeOf}
use Rattle.syntect_pattern_table.specs.declared.lengths.Lengths.{Lengths}
use Rattle.syntect_pattern_table.proofs.StartLaws.{wide-holds}

-- -- A test of each member

all-each : (p : Member → Bool) (ms : List Member) → list_all p ms ≡ true → Each (λ m. p m ≡ true) ms
all-each p [] e = tt
all-each p (m ∷ ms) e = let q = and_parts (p m) (list_all p ms) e in (q.0, all-each p ms q.1)

both_true : (a b : Bool) → a ≡ true → b ≡ true → (a && b) ≡ true
both_true true b e h = h
both_true false b e h = cc

each-all : (p : Member → Bool) (ms : List Member) → Each (λ m. p m ≡ true) ms → list_all p ms ≡ true
each-all p [] e = refl
each-all p (m ∷ ms) e = both_true (p m) (list_all p ms) e.0 (each-all p ms e.1)

-- no member ends before this place, and none after it
abbrev From : ℕ → List Member → Type 0
From n = Each (λ m. n ≤ m.0)

abbrev Within : ℕ → List Member → Type 0
Within n = Each (λ m. m.0 ≤ n)

pub least-each : (t : Tree) (n : ℕ) → ReadsLeast t n → (s : List ℕ) (i : ℕ) (g : Groups) → From (i + n) (matches s t i g)
least-each t n h s i g =
    each_of (λ m. nat_le (i + n) m.0 ≡ true) (λ m. i + n ≤ m.0) (matches s t i g) (λ m e. leb-true (i + n) m.0 e) (all-each (λ m. nat_le (i + n) m.0) (matches s t i g) (h s i g))

pub most-each : (t : Tree) (n : ℕ) → ReadsMost t n → (s : List ℕ) (i : ℕ) (g : Groups) → Within (i + n) (matches s t i g)
most-each t n h s i g =
    each_of (λ m. nat_le m.0 (i + n) ≡ true) (λ m. m.0 ≤ i + n) (matches s t i g) (λ m e. leb-true m.0 (i + n) e) (all-each (λ m. nat_le m.0 (i + n)) (matches s t i g) (h s i g))

each-least : (t : Tree) (n : ℕ) → ((s : List ℕ) (i : ℕ) (g : Groups) → From (i + n) (matches s t i g)) → ReadsLeast t n
each-least t n h s i g =
    each-all (λ m. nat_le (i + n) m.0) (matches s t i g) (each_of (λ m. i + n ≤ m.0) (λ m. nat_le (i + n) m.0 ≡ true) (matches s t i g) (λ m e. le-leb (i + n) m.0 e) (h s i g))

each-most : (t : Tree) (n : ℕ) → ((s : List ℕ) (i : ℕ) (g : Groups) → Within (i + n) (matches s t i g)) → ReadsMost t n
each-most t n h s i g =
    each-all (λ m. nat_le m.0 (i + n)) (matches s t i g) (each_of (λ m. m.0 ≤ i + n) (λ m. nat_le m.0 (i + n) ≡ true) (matches s t i g) (λ m e. le-leb m.0 (i + n) e) (h s i g))

from_less : (n k : ℕ) (ms : List Member) → k ≤ n → From n ms → From k ms
from_less n k ms h e = each_of (λ m. n ≤ m.0) (λ m. k ≤ m.0) ms (λ m l. (let p : n ≤ m.0 = l in omega arith)) e

within_more : (n k : ℕ) (ms : List Member) → n ≤ k → Within n ms → Within k ms
within_more n k ms h e = each_of (λ m. m.0 ≤ n) (λ m. m.0 ≤ k) ms (λ m l. (let p : m.0 ≤ n = l in omega arith)) e

-- -- Lengths from the two sides

made : (t : Tree) (l : Lengths) (low high : ℕ) → l.least ≤ low → l.most ≡ Some high
    → ((s : List ℕ) (i : ℕ) (g : Groups) → From (i + low) (matches s t i g)) → ((s : List ℕ) (i : ℕ) (g : Groups) → Within (i + high) (matches s t i g)) → HasLengths t l
made t l low high h e f w = record {
  least = each-least t l.least (λ s i g. from_less (i + low) (i + l.least) (matches s t i g) (omega arith) (f s i g));
  most = λ n k.
      let same : high ≡ n = let q : Some high ≡ Some n = sym e ∙ k in cc in
      each-most t n (λ s i g. within_more (i + high) (i + n) (matches s t i g) (omega arith) (w s i g));
}

-- what reads nothing
from-here : (b : Bool) (i : ℕ) (g : Groups) → From (i + 0) (only_if b i g)
from-here true i g = (omega arith, tt)
from-here false i g = tt

within-here : (b : Bool) (i : ℕ) (g : Groups) → Within (i + 0) (only_if b i g)
within-here true i g = (omega arith, tt)
within-here false i g = tt

from-look : (negated : Bool) (i : ℕ) (g : Groups) (ms : List Member) → From (i + 0) (look negated i g ms)
from-look false i g [] = tt
from-look false i g (m ∷ ms) = (omega arith, tt)
from-look true i g [] = (omega arith, tt)
from-look true i g (m ∷ ms) = tt

within-look : (negated : Bool) (i : ℕ) (g : Groups) (ms : List Member) → Within (i + 0) (look negated i g ms)
within-look false i g [] = tt
within-look false i g (m ∷ ms) = (omega arith, tt)
within-look true i g [] = (omega arith, tt)
within-look true i g (m ∷ ms) = tt

module _ (l : Lengths) (least : l.least ≡ 0) (most : l.most ≡ Some 0) where
  pub lengths-nothing : HasLengths nothing l
  lengths-nothing = made nothing l 0 0 (omega arith) most (λ s i g. (omega arith, tt)) (λ s i g. (omega arith, tt))

  pub lengths-anchor : (a : Anchor) → HasLengths (anchor a) l
  lengths-anchor a = made (anchor a) l 0 0 (omega arith) most (λ s i g. from-here (anchor_holds s a i) i g) (λ s i g. within-here (anchor_holds s a i) i g)

  pub lengths-ahead : (negated : Bool) (a : Tree) → HasLengths (ahead negated a) l
  lengths-ahead negated a = made (ahead negated a) l 0 0 (omega arith) most (λ s i g. from-look negated i g (matches s a i g)) (λ s i g. within-look negated i g (matches s a i g))

  pub lengths-behind : (negated : Bool) (a : Tree) → HasLengths (behind negated a) l
  lengths-behind negated a =
      made (behind negated a) l 0 0 (omega arith) most
      (λ s i g. from-look negated i g (ending_here s (matches s a) i i g)) (λ s i g. within-look negated i g (ending_here s (matches s a) i i g))

-- -- One character

from-if : (b : Bool) (j n : ℕ) (g : Groups) → (b ≡ true → n ≤ j) → From n (only_if b j g)
from-if true j n g h = (h refl, tt)
from-if false j n g h = tt

within-if : (b : Bool) (j n : ℕ) (g : Groups) → (b ≡ true → j ≤ n) → Within n (only_if b j g)
within-if true j n g h = (h refl, tt)
within-if false j n g h = tt

from-past : (test : ℕ → Bool) (o : Option ℕ) (i n : ℕ) (g : Groups) → ((c : ℕ) → test c ≡ true → n ≤ len_utf8 c) → From (i + n) (past test o i g)
from-past test None i n g h = tt
from-past test (Some c) i n g h = from-if (test c) (i + len_utf8 c) (i + n) g (λ y. (let l : n ≤ len_utf8 c = h c y in omega arith))

within-past : (test : ℕ → Bool) (o : Option ℕ) (i n : ℕ) (g : Groups) → ((c : ℕ) → test c ≡ true → len_utf8 c ≤ n) → Within (i + n) (past test o i g)
within-past test None i n g h = tt
within-past test (Some c) i n g h = within-if (test c) (i + len_utf8 c) (i + n) g (λ y. (let l : len_utf8 c ≤ n = h c y in omega arith))

pub lengths-one : (a : Set) (l : Lengths) (low high : ℕ) → l.least ≤ low → l.most ≡ Some high
    → ((c : ℕ) → holds a c ≡ true → low ≤ len_utf8 c) → ((c : ℕ) → holds a c ≡ true → len_utf8 c ≤ high) → HasLengths (one_of a) l
lengths-one a l low high h e f w =
    made (one_of a) l low high h e (λ s i g. from-past (holds a) (char_at s i) i low g f) (λ s i g. within-past (holds a) (char_at s i) i high g w)

same-char : (w c : ℕ) → holds (range w w) c ≡ true → len_utf8 c ≡ len_utf8 w
same-char w c h = let e : c ≡ w = grind (arith, nat_tests) in ap len_utf8 e

pub lengths-char : (w : ℕ) (l : Lengths) → l.least ≡ len_utf8 w → l.most ≡ Some (len_utf8 w) → HasLengths (one_of (range w w)) l
lengths-char w l h e =
    lengths-one (range w w) l (len_utf8 w) (len_utf8 w) (omega arith) e
    (λ c y. let q : len_utf8 c ≡ len_utf8 w = same-char w c y in omega arith) (λ c y. let q : len_utf8 c ≡ len_utf8 w = same-char w c y in omega arith)

narrow : (a : Set) (c : ℕ) → is_wide a ≡ false → holds a c ≡ true → len_utf8 c ≤ 1
narrow a c n h = elim (cases_lt c 128) [
  | inl l ↦ omega (arith, len_utf8_ascii c l)
  | inr l ↦ let wide : is_wide a ≡ true = wide-holds a c l h in cc
]

pub lengths-class : (a : Set) (l : Lengths) → l.least ≡ 1 → l.most ≡ Some 4 → HasLengths (one_of a) l
lengths-class a l h e = lengths-one a l 1 4 (omega arith) e (λ c y. (len_utf8_bounds c).0) (λ c y. (len_utf8_bounds c).1)

pub lengths-narrow : (a : Set) (l : Lengths) → l.least ≡ 1 → l.most ≡ Some 1 → is_wide a ≡ false → HasLengths (one_of a) l
lengths-narrow a l h e n = lengths-one a l 1 1 (omega arith) e (λ c y. (len_utf8_bounds c).0) (λ c y. narrow a c n y)

-- -- Parts

module _ (s : List ℕ) where
  abbrev FromAll : Tree → ℕ → Type 0
  FromAll t n = (i : ℕ) (g : Groups) → From (i + n) (matches s t i g)

  abbrev WithinAll : Tree → ℕ → Type 0
  WithinAll t n = (i : ℕ) (g : Groups) → Within (i + n) (matches s t i g)

  from-seq : (a b : Tree) (n m : ℕ) → FromAll a n → FromAll b m → FromAll (seq a b) (n + m)
  from-seq a b n m h k i g =
      each-flat_map (λ l. i + (n + m) ≤ l.0) (λ (j, q). matches s b j q) (matches s a i g)
      (each_of (λ l. i + n ≤ l.0) (λ l. From (i + (n + m)) (matches s b l.0 l.1)) (matches s a i g)
      (λ l e. from_less (l.0 + m) (i + (n + m)) (matches s b l.0 l.1) (let p : i + n ≤ l.0 = e in omega arith) (k l.0 l.1)) (h i g))

  within-seq : (a b : Tree) (n m : ℕ) → WithinAll a n → WithinAll b m → WithinAll (seq a b) (n + m)
  within-seq a b n m h k i g =
      each-flat_map (λ l. l.0 ≤ i + (n + m)) (λ (j, q). matches s b j q) (matches s a i g)
      (each_of (λ l. l.0 ≤ i + n) (λ l. Within (i + (n + m)) (matches s b l.0 l.1)) (matches s a i g)
      (λ l e. within_more (l.0 + m) (i + (n + m)) (matches s b l.0 l.1) (let p : l.0 ≤ i + n = e in omega arith) (k l.0 l.1)) (h i g))

  from-alt : (a b : Tree) (n m r : ℕ) → FromAll a n → FromAll b m → r ≤ n → r ≤ m → FromAll (alt a b) r
  from-alt a b n m r h k p q i g =
      each-append (λ l. i + r ≤ l.0) (matches s a i g) (matches s b i g)
      (from_less (i + n) (i + r) (matches s a i g) (omega arith) (h i g)) (from_less (i + m) (i + r) (matches s b i g) (omega arith) (k i g))

  within-alt : (a b : Tree) (n m r : ℕ) → WithinAll a n → WithinAll b m → n ≤ r → m ≤ r → WithinAll (alt a b) r
  within-alt a b n m r h k p q i g =
      each-append (λ l. l.0 ≤ i + r) (matches s a i g) (matches s b i g)
      (within_more (i + n) (i + r) (matches s a i g) (omega arith) (h i g)) (within_more (i + m) (i + r) (matches s b i g) (omega arith) (k i g))

  from-group : (k : ℕ) (a : Tree) (n : ℕ) → FromAll a n → FromAll (group k a) n
  from-group k a n h i g = each-map (λ l. i + n ≤ l.0) (close k i) (matches s a i g) (h i g)

  within-group : (k : ℕ) (a : Tree) (n : ℕ) → WithinAll a n → WithinAll (group k a) n
  within-group k a n h i g = each-map (λ l. l.0 ≤ i + n) (close k i) (matches s a i g) (h i g)

  from-atomic : (a : Tree) (n : ℕ) → FromAll a n → FromAll (atomic a) n
  from-atomic a n h i g = each-take (λ l. i + n ≤ l.0) 1 (matches s a i g) (h i g)

  within-atomic : (a : Tree) (n : ℕ) → WithinAll a n → WithinAll (atomic a) n
  within-atomic a n h i g = each-take (λ l. l.0 ≤ i + n) 1 (matches s a i g) (h i g)

  -- -- Loops

  each-prefer : (P : Member → Type 0) (greedy : Bool) (more leave : List Member) → Each P more → Each P leave → Each P (prefer greedy more leave)
  each-prefer P true more leave h k = each-append P more leave h k
  each-prefer P false more leave h k = each-append P leave more k h

  each-while : (P : Member → Type 0) (most : Option ℕ) (way : Way) (i : ℕ) (g : Groups) → (most ≢ Some 0 → Each P (way i g)) → Each P (while_left most way i g)
  each-while P None way i g h = h (λ e. cc)
  each-while P (Some zero) way i g h = tt
  each-while P (Some (suc n)) way i g h = h (λ e. let q : suc n ≡ 0 = (let r : Some (suc n) ≡ Some 0 = e in cc) in omega arith)

  -- a turn less leaves so much less to read
  turn_more : (least n : ℕ) → least * n ≤ n + (least - 1) * n
  turn_more zero n = omega arith
  turn_more (suc k) n = let e : suc k - 1 ≡ k = omega arith in omega (arith, ap (λ m. m * n) e)

  after-least : (b : Bool) (more : Way) (i j least n : ℕ) (h : Groups) → i + n ≤ j → (b ≡ true → j ≡ i) → From (j + (least - 1) * n) (more j h) → From (i + least * n) (after_turn b more j h)
  after-least true more i j least n h l e f =
      let none : n ≡ 0 = let q : j ≡ i = e refl in omega arith in
      let all : least * n ≡ 0 = ap (λ m. least * m) none ∙ omega arith in
      (omega arith, tt)
  after-least false more i j least n h l e f = from_less (j + (least - 1) * n) (i + least * n) (more j h) (omega (arith, turn_more least n)) f

  from-turns : (a : Tree) (n : ℕ) → FromAll a n → (greedy : Bool) (left least : ℕ) (most : Option ℕ) (i : ℕ) (g : Groups) → From (i + least * n) (turns (matches s a) greedy left least most i g)
  from-turns a n h greedy zero least most i g = tt
  from-turns a n h greedy (suc left) least most i g =
      let more : Way = turns (matches s a) greedy left (least - 1) (option_map (λ k. k - 1) most) in
      each-prefer (λ l. i + least * n ≤ l.0) greedy _ _
      (each-while (λ l. i + least * n ≤ l.0) most _ i g (λ some.
      each-flat_map (λ l. i + least * n ≤ l.0) (λ (j, q). after_turn (j == i) more j q) (matches s a i g)
      (each_of (λ l. i + n ≤ l.0) (λ l. From (i + least * n) (after_turn (l.0 == i) more l.0 l.1)) (matches s a i g)
      (λ l e. after-least (l.0 == i) more i l.0 least n l.1 e (λ y. eqb-true l.0 i y)
      (from-turns a n h greedy left (least - 1) (option_map (λ k. k - 1) most) l.0 l.1)) (h i g))))
      (from-if (least == 0) i (i + least * n) g (λ y. let z : least ≡ 0 = eqb-true least 0 y in omega (arith, ap (λ m. m * n) z)))

  after-most : (b : Bool) (more : Way) (i j turns n : ℕ) (h : Groups) → j ≤ i + n → 0 < turns → Within (j + (turns - 1) * n) (more j h) → Within (i + turns * n) (after_turn b more j h)
  after-most b more i j zero n h l some f = absurd (omega arith)
  after-most true more i j (suc k) n h l some f = (omega arith, tt)
  after-most false more i j (suc k) n h l some f =
      let e : suc k - 1 ≡ k = omega arith in
      within_more (j + (suc k - 1) * n) (i + suc k * n) (more j h) (omega (arith, ap (λ m. m * n) e)) f

  within-turns : (a : Tree) (n : ℕ) → WithinAll a n → (greedy : Bool) (left least most : ℕ) (i : ℕ) (g : Groups) → Within (i + most * n) (turns (matches s a) greedy left least (Some most) i g)
  within-turns a n h greedy zero least most i g = tt
  within-turns a n h greedy (suc left) least most i g =
      let more : Way = turns (matches s a) greedy left (least - 1) (Some (most - 1)) in
      each-prefer (λ l. l.0 ≤ i + most * n) greedy _ _
      (each-while (λ l. l.0 ≤ i + most * n) (Some most) _ i g (λ some.
      each-flat_map (λ l. l.0 ≤ i + most * n) (λ (j, q). after_turn (j == i) more j q) (matches s a i g)
      (each_of (λ l. l.0 ≤ i + n) (λ l. Within (i + most * n) (after_turn (l.0 == i) more l.0 l.1)) (matches s a i g)
      (λ l e. after-most (l.0 == i) more i l.0 most n l.1 e (let q : most ≢ 0 = (λ z. some (ap Some z)) in omega arith)
      (within-turns a n h greedy left (least - 1) (most - 1) l.0 l.1)) (h i g))))
      (within-if (least == 0) i (i + most * n) g (λ y. omega arith))

  -- -- Any tree

  from-spelled : (fold : Bool) (cs : List ℕ) (i : ℕ) (g : Groups) → From (i + 0) (spelled s fold cs i g)
  from-spelled fold [] i g = (omega arith, tt)
  from-spelled fold (c ∷ cs) i g =
      each-flat_map (λ l. i + 0 ≤ l.0) (λ (j, q). spelled s fold cs j q) (past (equals fold c) (char_at s i) i g)
      (each_of (λ l. i + 0 ≤ l.0) (λ l. From (i + 0) (spelled s fold cs l.0 l.1)) (past (equals fold c) (char_at s i) i g)
      (λ l e. from_less (l.0 + 0) (i + 0) (spelled s fold cs l.0 l.1) (let p : i + 0 ≤ l.0 = e in omega arith) (from-spelled fold cs l.0 l.1))
      (from-past (equals fold c) (char_at s i) i 0 g (λ d y. omega arith)))

  from-same : (fold : Bool) (o : Option (Option (ℕ × ℕ))) (i : ℕ) (g : Groups) → From (i + 0) (same_text s fold o i g)
  from-same fold None i g = tt
  from-same fold (Some None) i g = tt
  from-same fold (Some (Some (a, b))) i g = from-spelled fold (chars (slice_range s a b)) i g

  -- no match ends before its place
  from-all : (t : Tree) → FromAll t 0
  from-all nothing i g = (omega arith, tt)
  from-all (one_of a) i g = from-past (holds a) (char_at s i) i 0 g (λ c y. omega arith)
  from-all (anchor a) i g = from-here (anchor_holds s a i) i g
  from-all (same fold n) i g = from-same fold (slice_get g n) i g
  from-all (seq a b) i g = from-seq a b 0 0 (from-all a) (from-all b) i g
  from-all (alt a b) i g = from-alt a b 0 0 0 (from-all a) (from-all b) (omega arith) (omega arith) i g
  from-all (repeat greedy least most a) i g =
      from_less (i + least * 0) (i + 0) (turns (matches s a) greedy (suc (length s - i)) least most i g) (omega arith) (from-turns a 0 (from-all a) greedy (suc (length s - i)) least most i g)
  from-all (group k a) i g = from-group k a 0 (from-all a) i g
  from-all (atomic a) i g = from-atomic a 0 (from-all a) i g
  from-all (ahead negated a) i g = from-look negated i g (matches s a i g)
  from-all (behind negated a) i g = from-look negated i g (ending_here s (matches s a) i i g)

pub lengths-any : (t : Tree) (l : Lengths) → l.least ≡ 0 → l.most ≡ None → HasLengths t l
lengths-any t l h e = record {
  least = each-least t l.least (λ s i g. from_less (i + 0) (i + l.least) (matches s t i g) (omega arith) (from-all s t i g));
  most = λ n k. let no : None ≡ Some n = sym e ∙ k in cc;
}

-- -- Nodes with parts

-- a limit that is made of two
limit_of : (f : ℕ → ℕ → ℕ) (a b : Option ℕ) (n : ℕ) (P : ℕ → Type 0) → IsMadeOf f a b n → ((x y : ℕ) → a ≡ Some x → b ≡ Some y → P (f x y)) → P n
limit_of f a b n P h k = subst P (sym h.is) (k h.first h.second h.first_is h.second_is)

module _ (l : Lengths) (a : Lengths) where
  pub lengths-seq : (t u : Tree) (b : Lengths) → l.least ≤ a.least + b.least → ((n : ℕ) → l.most ≡ Some n → IsMadeOf (λ x y. x + y) a.most b.most n)
      → HasLengths t a → HasLengths u b → HasLengths (seq t u) l
  lengths-seq t u b h e p q = record {
    least = each-least (seq t u) l.least (λ s i g. from_less (i + (a.least + b.least)) (i + l.least) (matches s (seq t u) i g) (omega arith)
        (from-seq s t u a.least b.least (least-each t a.least p.least s) (least-each u b.least q.least s) i g));
    most = λ n k. limit_of (λ x y. x + y) a.most b.most n (ReadsMost (seq t u)) (e n k) (λ x y c d. each-most (seq t u) (x + y) (λ s i g.
        within-seq s t u x y (most-each t x (p.most x c) s) (most-each u y (q.most y d) s) i g));
  }

  pub lengths-alt : (t u : Tree) (b : Lengths) → l.least ≤ a.least → l.least ≤ b.least → ((n : ℕ) → l.most ≡ Some n → IsMadeOf max a.most b.most n)
      → HasLengths t a → HasLengths u b → HasLengths (alt t u) l
  lengths-alt t u b h k e p q = record {
    least = each-least (alt t u) l.least (λ s i g. from-alt s t u a.least b.least l.least (least-each t a.least p.least s) (least-each u b.least q.least s) h k i g);
    most = λ n r. limit_of max a.most b.most n (ReadsMost (alt t u)) (e n r) (λ x y c d. each-most (alt t u) (max x y) (λ s i g.
        within-alt s t u x y (max x y) (most-each t x (p.most x c) s) (most-each u y (q.most y d) s) (omega arith) (omega arith) i g));
  }

  pub lengths-repeat : (t : Tree) (greedy : Bool) (least : ℕ) (most : Option ℕ) → l.least ≤ least * a.least → ((n : ℕ) → l.most ≡ Some n → IsMadeOf (λ x y. x * y) most a.most n)
      → HasLengths t a → HasLengths (repeat greedy least most t) l
  lengths-repeat t greedy least most h e p = record {
    least = each-least (repeat greedy least most t) l.least (λ s i g. from_less (i + least * a.least) (i + l.least) (matches s (repeat greedy least most t) i g) (omega arith)
        (from-turns s t a.least (least-each t a.least p.least s) greedy (suc (length s - i)) least most i g));
    most = λ n k. limit_of (λ x y. x * y) most a.most n (ReadsMost (repeat greedy least most t)) (e n k) (λ x y c d.
        subst (λ (o : Option ℕ). ReadsMost (repeat greedy least o t) (x * y)) (sym c) (each-most (repeat greedy least (Some x) t) (x * y) (λ s i g.
        within-turns s t y (most-each t y (p.most y d) s) greedy (suc (length s - i)) least x i g)));
  }

pub lengths-group : (k : ℕ) (t : Tree) (a : Lengths) → HasLengths t a → HasLengths (group k t) a
lengths-group k t a p = record {
  least = each-least (group k t) a.least (λ s i g. from-group s k t a.least (least-each t a.least p.least s) i g);
  most = λ n e. each-most (group k t) n (λ s i g. within-group s k t n (most-each t n (p.most n e) s) i g);
}

pub lengths-atomic : (t : Tree) (a : Lengths) → HasLengths t a → HasLengths (atomic t) a
lengths-atomic t a p = record {
  least = each-least (atomic t) a.least (λ s i g. from-atomic s t a.least (least-each t a.least p.least s) i g);
  most = λ n e. each-most (atomic t) n (λ s i g. within-atomic s t n (most-each t n (p.most n e) s) i g);
}

-- a limit that is known by a checked sum or product
pub some-made : (f : ℕ → ℕ → ℕ) (a b : Option ℕ) (x y : ℕ) (o : Option ℕ) (P : Type 0) → a ≡ Some x → b ≡ Some y → SomeIff o P (f x y) → (n : ℕ) → o ≡ Some n → IsMadeOf f a b n
some-made f a b x y None P p q h n e = cc
some-made f a b x y (Some r) P p q h n e = record { first = x; second = y; first_is = p; second_is = q; is = (let same : r ≡ n = (let k : Some r ≡ Some n = e in cc) in sym same ∙ h.1) }

-- one more
pub AreLengths-push : (ls : List Lengths) (ts : List Tree) (l : Lengths) (at : ℕ) → AreLengths ls ts → length ls ≡ at → HasLengths (get_or ts at nothing) l → AreLengths (ls ++ l ∷ []) ts
AreLengths-push ls ts l at h e new k d inside = elim (cases_lt k (length ls)) [
  | inl a ↦ subst (HasLengths (get_or ts k nothing)) (sym (get_or_append_left ls (l ∷ []) d k a)) (h k d a)
  | inr a ↦
      let same : k ≡ length ls = omega (arith, length-append ls (l ∷ [])) in
      let there : get_or (ls ++ l ∷ []) k d ≡ l = ap (λ j. get_or (ls ++ l ∷ []) j d) same ∙ get_or-append_seam ls l [] d in
      subst (HasLengths (get_or ts k nothing)) (sym there) (subst (λ (j : ℕ). HasLengths (get_or ts j nothing) l) (sym (same ∙ e)) new)
]

some_got : (ls : List Lengths) (k : ℕ) (l : Lengths) → Some l ≡ slice_get ls k → (k < length ls) × (get_or ls k l ≡ l)
some_got [] zero l e = cc
some_got [] (suc k) l e = cc
some_got (x ∷ ls) zero l e = (omega arith, (let q : Some l ≡ Some x = e in cc))
some_got (x ∷ ls) (suc k) l e = let r = some_got ls k l e in (omega (arith, r.0), r.1)

-- what is looked up
pub known-lengths : (ls : List Lengths) (ts : List Tree) → AreLengths ls ts → (k : ℕ) (l : Lengths) → Some l ≡ slice_get ls k → HasLengths (get_or ts k nothing) l
known-lengths ls ts are k l e = let r = some_got ls k l e in subst (HasLengths (get_or ts k nothing)) r.1 (are k l r.0)
