-- The marks of captures in order are their operations.
use Rattle.std.proofs.Common.{◌≡◌, ℕ, zero, suc, ◌==◌, ◌-◌, ◌+◌, ◌≤◌, ◌<◌, nat_lt, Bool, true, false, List, [], ◌∷◌, ◌++◌, length, map, filter, refl, sym, ap, ◌∙◌, arith, if◌then◌else◌}
use Rattle.std.specs.List.{flat_map, range_with_len}
use Rattle.std.proofs.lemmas.List.Concat.{flat_map-append}
use Rattle.std.proofs.lemmas.List.Elements.{filter-append}
use Rattle.std.proofs.lemmas.Bool.Decides.{nat_tests}
use Rattle.syntect_parsing.specs.syntect_scope.declared.stack.ScopeStackOp.{ScopeStackOp}
use Rattle.syntect_parsing.specs.syntect_scope.declared.stack.ScopeStackOp.TheVariants.{Pop}
use Rattle.syntect_parsing.specs.syntect_scope.Replay.{pushes}
use Rattle.syntect_parsing.specs.Scopes.{Scopes, Capture, is_longer, put, longer_first}
use Rattle.syntect_parsing.specs.Operations.{captures_at, capture_operations}
use Rattle.syntect_parsing.specs.Sorting.{put_behind, in_order}
use Rattle.syntect_parsing.specs.MatchViews.{end_mark, start_mark, marks_of, seen_mark, mark_operations}
use Rattle.syntect_reading_choice.proofs.ListLaws.{tested_true, tested_false}
use Rattle.syntect_parsing.proofs.syntect_reading_state_proofs.OpenLaws.{pushes_append}
use Rattle.syntect_parsing.proofs.CaptureLaws.{Each, each_put}
use Rattle.syntect_parsing.specs.declared.captures.Mark.{Mark}

abbrev Seen : Type 0
Seen = ℕ × (ℕ × Scopes)

abbrev place_of : Seen → ℕ
place_of m = m.0

abbrev rank_of : Seen → ℕ
rank_of m = m.1.0

-- ---- captures in order, those that begin at a place ----

abbrev NoneLonger : Capture → List Capture → Type 0
NoneLonger c = Each (λ d. is_longer d c ≡ false)

abbrev Falls : List Capture → Type 0
Falls [] = Unit {0}
Falls (d ∷ ds) = NoneLonger d ds × Falls ds

none_longer_less : (c d : Capture) (ds : List Capture) → d.end - d.start ≤ c.end - c.start → NoneLonger d ds → NoneLonger c ds
none_longer_less c d [] l h = tt
none_longer_less c d (x ∷ ds) l h = let h0 = h.0 in (grind (arith, nat_tests), none_longer_less c d ds l h.1)

put_falls : (c : Capture) (ds : List Capture) → Falls ds → Falls (put c ds)
put_falls c [] f = (tt, tt)
put_falls c (d ∷ ds) f = by (is_longer d c) refl (put_falls c ds f.1)
  where
    by : (b : Bool) → is_longer d c ≡ b → Falls (put c ds) → Falls (if b then d ∷ put c ds else c ∷ d ∷ ds)
    by true e rest = (each_put (λ x. is_longer x d ≡ false) c ds (grind (arith, nat_tests)) f.0, rest)
    by false e rest = let l : d.end - d.start ≤ c.end - c.start = grind (arith, nat_tests) in ((e, none_longer_less c d ds l f.0), f)

order_falls : (cs : List Capture) → Falls (longer_first cs)
order_falls [] = tt
order_falls (c ∷ cs) = put_falls c (longer_first cs) (order_falls cs)

put_first : (c : Capture) (ds : List Capture) → NoneLonger c ds → put c ds ≡ c ∷ ds
put_first c [] h = refl
put_first c (d ∷ ds) h = rw (h.0) refl

filter_each : (P : Capture → Type 0) (q : Capture → Bool) (ds : List Capture) → Each P ds → Each P (filter q ds)
filter_each P q [] h = tt
filter_each P q (d ∷ ds) h = by (q d) (filter_each P q ds h.1)
  where
    by : (b : Bool) → Each P (filter q ds) → Each P (if b then d ∷ filter q ds else filter q ds)
    by true rest = (h.0, rest)
    by false rest = rest

filter_put : (q : Capture → Bool) (c : Capture) (ds : List Capture) → Falls ds → filter q (put c ds) ≡ (if q c then put c (filter q ds) else filter q ds)
filter_put q c [] f = refl
filter_put q c (d ∷ ds) f = by (is_longer d c) refl (filter_put q c ds f.1)
  where
    after : (x y : Bool) → is_longer d c ≡ true → filter q (put c ds) ≡ (if x then put c (filter q ds) else filter q ds)
        → (if y then d ∷ filter q (put c ds) else filter q (put c ds)) ≡ (if x then put c (if y then d ∷ filter q ds else filter q ds) else (if y then d ∷ filter q ds else filter q ds))
    after true true e h = ap (λ l. d ∷ l) h ∙ sym (ap (λ (b : Bool). if b then d ∷ put c (filter q ds) else c ∷ d ∷ filter q ds) e)
    after true false e h = h
    after false true e h = ap (λ l. d ∷ l) h
    after false false e h = h

    before : (x : Bool) → NoneLonger c (filter q (d ∷ ds)) → (if x then c ∷ filter q (d ∷ ds) else filter q (d ∷ ds)) ≡ (if x then put c (filter q (d ∷ ds)) else filter q (d ∷ ds))
    before true h = sym (put_first c (filter q (d ∷ ds)) h)
    before false h = refl

    by : (b : Bool) → is_longer d c ≡ b → filter q (put c ds) ≡ (if q c then put c (filter q ds) else filter q ds) → filter q (if b then d ∷ put c ds else c ∷ d ∷ ds) ≡ (if q c then put c (filter q (d ∷ ds)) else filter q (d ∷ ds))
    by true e rest = after (q c) (q d) e rest
    by false e rest =
        let l : d.end - d.start ≤ c.end - c.start = grind (arith, nat_tests) in
        before (q c) (filter_each (λ x. is_longer x c ≡ false) q (d ∷ ds) (e, none_longer_less c d ds l f.0))

filter_order : (q : Capture → Bool) (cs : List Capture) → filter q (longer_first cs) ≡ longer_first (filter q cs)
filter_order q [] = refl
filter_order q (c ∷ cs) = filter_put q c (longer_first cs) (order_falls cs) ∙ by (q c) (filter_order q cs)
  where
    by : (b : Bool) → filter q (longer_first cs) ≡ longer_first (filter q cs) → (if b then put c (filter q (longer_first cs)) else filter q (longer_first cs)) ≡ longer_first (if b then c ∷ filter q cs else filter q cs)
    by true rest = ap (put c) rest
    by false rest = rest

-- ---- by rank: pops in the order of the list, then pushes of longer captures first ----

-- not empty, and so short that its rank is above 0
abbrev IsShort : Capture → Type 0
IsShort c = (c.start < c.end) × (c.end ≤ 18446744073709551615)

each_order : (P : Capture → Type 0) (cs : List Capture) → Each P cs → Each P (longer_first cs)
each_order P [] h = tt
each_order P (c ∷ cs) h = each_put P c (longer_first cs) h.0 (each_order P cs h.1)

put_zero : (m : Seen) (ms : List Seen) → rank_of m ≡ 0 → put_behind rank_of m ms ≡ m ∷ ms
put_zero m [] e = refl
put_zero m (k ∷ ms) e = let f : nat_lt (rank_of k) (rank_of m) ≡ false = grind (arith, nat_tests) in rw f refl

above_zero : (c : Capture) → c.start < c.end → c.end ≤ 18446744073709551615 → nat_lt 0 (18446744073709551615 - (c.end - c.start - 1)) ≡ true
above_zero c l h = grind (arith, nat_tests)

put_past_ends : (c : Capture) (ds : List Capture) (ms : List Seen) → IsShort c → put_behind rank_of (start_mark c) (map end_mark ds ++ ms) ≡ map end_mark ds ++ put_behind rank_of (start_mark c) ms
put_past_ends c [] ms h = refl
put_past_ends c (d ∷ ds) ms h =
    let f : nat_lt 0 (18446744073709551615 - (c.end - c.start - 1)) ≡ true = above_zero c h.0 h.1 in
    rw f (ap (λ l. end_mark d ∷ l) (put_past_ends c ds ms h))

rank_test : (c d : Capture) → c.start < c.end → d.start < d.end → d.end ≤ 18446744073709551615 → nat_lt (18446744073709551615 - (d.end - d.start - 1)) (18446744073709551615 - (c.end - c.start - 1)) ≡ is_longer d c
rank_test c d k l h = grind (arith, nat_tests)

put_starts : (c : Capture) (ds : List Capture) → c.start < c.end → Each IsShort ds → put_behind rank_of (start_mark c) (map start_mark ds) ≡ map start_mark (put c ds)
put_starts c [] l h = refl
put_starts c (d ∷ ds) l h = rw (rank_test c d l h.0.0 h.0.1) (by (is_longer d c) (put_starts c ds l h.1))
  where
    by : (b : Bool) → put_behind rank_of (start_mark c) (map start_mark ds) ≡ map start_mark (put c ds) → (if b then start_mark d ∷ put_behind rank_of (start_mark c) (map start_mark ds) else start_mark c ∷ start_mark d ∷ map start_mark ds) ≡ map start_mark (if b then d ∷ put c ds else c ∷ d ∷ ds)
    by true rest = ap (λ l. start_mark d ∷ l) rest
    by false rest = refl

abbrev ranked : List Capture → List Seen
ranked cs = map end_mark cs ++ map start_mark (longer_first cs)

by_rank : (cs : List Capture) → Each IsShort cs → in_order rank_of (flat_map marks_of cs) ≡ ranked cs
by_rank [] h = refl
by_rank (c ∷ cs) h =
    ap (λ l. put_behind rank_of (end_mark c) (put_behind rank_of (start_mark c) l)) (by_rank cs h.1)
    ∙ ap (put_behind rank_of (end_mark c)) (put_past_ends c cs (map start_mark (longer_first cs)) h.0 ∙ ap (λ l. map end_mark cs ++ l) (put_starts c (longer_first cs) h.0.0 (each_order IsShort cs h.1)))
    ∙ put_zero (end_mark c) (map end_mark cs ++ map start_mark (put c (longer_first cs))) refl

-- ---- by place ----

abbrev at_place : ℕ → Seen → Bool
at_place i m = m.0 == i

abbrev blocks : List Seen → List ℕ → List Seen
blocks ms places = flat_map (λ i. filter (at_place i) ms) places

abbrev AllFrom : ℕ → List Seen → Type 0
AllFrom k [] = Unit {0}
AllFrom k (m ∷ ms) = (k ≤ m.0) × AllFrom k ms

from_append : (k : ℕ) (xs ys : List Seen) → AllFrom k xs → AllFrom k ys → AllFrom k (xs ++ ys)
from_append k [] ys h g = g
from_append k (x ∷ xs) ys h g = (h.0, from_append k xs ys h.1 g)

block_from : (k i : ℕ) (ms : List Seen) → k ≤ i → AllFrom k (filter (at_place i) ms)
block_from k i [] l = tt
block_from k i (m ∷ ms) l = by (at_place i m) refl (block_from k i ms l)
  where
    by : (b : Bool) → at_place i m ≡ b → AllFrom k (filter (at_place i) ms) → AllFrom k (if b then m ∷ filter (at_place i) ms else filter (at_place i) ms)
    by true e rest = let f = tested_true m.0 i e in (omega (arith, f, l), rest)
    by false e rest = rest

blocks_from : (ms : List Seen) (k i n : ℕ) → k ≤ i → AllFrom k (blocks ms (range_with_len i n))
blocks_from ms k i zero l = tt
blocks_from ms k i (suc n) l = from_append k (filter (at_place i) ms) (blocks ms (range_with_len (i + 1) n)) (block_from k i ms l) (blocks_from ms k (i + 1) n (omega (arith, l)))

put_at_front : (m : Seen) (ms : List Seen) → AllFrom m.0 ms → put_behind place_of m ms ≡ m ∷ ms
put_at_front m [] h = refl
put_at_front m (k ∷ ms) h = let h0 = h.0 in let f : nat_lt k.0 m.0 ≡ false = grind (arith, nat_tests) in rw f refl

put_past_block : (m : Seen) (i : ℕ) (ms ks : List Seen) → i < m.0 → put_behind place_of m (filter (at_place i) ms ++ ks) ≡ filter (at_place i) ms ++ put_behind place_of m ks
put_past_block m i [] ks l = refl
put_past_block m i (k ∷ ms) ks l = by (at_place i k) refl (put_past_block m i ms ks l)
  where
    by : (b : Bool) → at_place i k ≡ b → put_behind place_of m (filter (at_place i) ms ++ ks) ≡ filter (at_place i) ms ++ put_behind place_of m ks → put_behind place_of m ((if b then k ∷ filter (at_place i) ms else filter (at_place i) ms) ++ ks) ≡ (if b then k ∷ filter (at_place i) ms else filter (at_place i) ms) ++ put_behind place_of m ks
    by true e rest =
        let g = tested_true k.0 i e in
        let f : nat_lt k.0 m.0 ≡ true = grind (arith, nat_tests) in
        rw f (ap (λ l. k ∷ l) rest)
    by false e rest = rest

-- places after it don't have it
blocks_without : (m : Seen) (ms : List Seen) (i n : ℕ) → m.0 < i → blocks (m ∷ ms) (range_with_len i n) ≡ blocks ms (range_with_len i n)
blocks_without m ms i zero l = refl
blocks_without m ms i (suc n) l =
    let f : at_place i m ≡ false = grind (arith, nat_tests) in
    rw f (ap (λ x. filter (at_place i) ms ++ x) (blocks_without m ms (i + 1) n (omega (arith, l))))

put_in_blocks : (m : Seen) (ms : List Seen) (n i : ℕ) → i ≤ m.0 → m.0 < i + n → put_behind place_of m (blocks ms (range_with_len i n)) ≡ blocks (m ∷ ms) (range_with_len i n)
put_in_blocks m ms zero i l h = absurd (omega (arith, l, h))
put_in_blocks m ms (suc n) i l h = by (at_place i m) refl (λ j k. put_in_blocks m ms n (i + 1) j k)
  where
    by : (b : Bool) → at_place i m ≡ b → (i + 1 ≤ m.0 → m.0 < (i + 1) + n → put_behind place_of m (blocks ms (range_with_len (i + 1) n)) ≡ blocks (m ∷ ms) (range_with_len (i + 1) n))
        → put_behind place_of m (filter (at_place i) ms ++ blocks ms (range_with_len (i + 1) n)) ≡ (if b then m ∷ filter (at_place i) ms else filter (at_place i) ms) ++ blocks (m ∷ ms) (range_with_len (i + 1) n)
    by true e rest =
        let f = tested_true m.0 i e in
        put_at_front m (filter (at_place i) ms ++ blocks ms (range_with_len (i + 1) n))
        (from_append m.0 (filter (at_place i) ms) (blocks ms (range_with_len (i + 1) n)) (block_from m.0 i ms (omega (arith, f))) (blocks_from ms m.0 (i + 1) n (omega (arith, f))))
        ∙ ap (λ x. m ∷ (filter (at_place i) ms ++ x)) (sym (blocks_without m ms (i + 1) n (omega (arith, f))))
    by false e rest =
        let f = tested_false m.0 i e in
        put_past_block m i ms (blocks ms (range_with_len (i + 1) n)) (omega (arith, f, l))
        ∙ ap (λ x. filter (at_place i) ms ++ x) (rest (omega (arith, f, l)) (omega (arith, h)))

abbrev AllWithin : ℕ → ℕ → List Seen → Type 0
AllWithin i n [] = Unit {0}
AllWithin i n (m ∷ ms) = (i ≤ m.0) × (m.0 < i + n) × AllWithin i n ms

no_blocks : (places : List ℕ) → blocks [] places ≡ []
no_blocks [] = refl
no_blocks (i ∷ places) = no_blocks places

by_place : (ms : List Seen) (i n : ℕ) → AllWithin i n ms → in_order place_of ms ≡ blocks ms (range_with_len i n)
by_place [] i n h = sym (no_blocks (range_with_len i n))
by_place (m ∷ ms) i n h = ap (put_behind place_of m) (by_place ms i n h.2) ∙ put_in_blocks m ms n i h.0 h.1

-- ---- the operations of the marks at a place ----

pops_at : (i : ℕ) (cs : List Capture) → flat_map mark_operations (filter (at_place i) (map end_mark cs)) ≡ map (λ c. (i, Pop (length c.scopes))) (filter (λ c. c.end == i) cs)
pops_at i [] = refl
pops_at i (c ∷ cs) = by (c.end == i) refl (pops_at i cs)
  where
    by : (b : Bool) → (c.end == i) ≡ b → flat_map mark_operations (filter (at_place i) (map end_mark cs)) ≡ map (λ c. (i, Pop (length c.scopes))) (filter (λ c. c.end == i) cs) → flat_map mark_operations (if b then end_mark c ∷ filter (at_place i) (map end_mark cs) else filter (at_place i) (map end_mark cs))
        ≡ map (λ (c : Capture). (i, Pop (length c.scopes))) (if b then c ∷ filter (λ (c : Capture). c.end == i) cs else filter (λ (c : Capture). c.end == i) cs)
    by true e rest = ap (λ (k : ℕ). (k, Pop (length c.scopes)) ∷ flat_map mark_operations (filter (at_place i) (map end_mark cs))) (tested_true c.end i e) ∙ ap (λ (l : List (ℕ × ScopeStackOp)). (i, Pop (length c.scopes)) ∷ l) rest
    by false e rest = rest

not_zero : (c : Capture) → c.start < c.end → c.end ≤ 18446744073709551615 → ((18446744073709551615 - (c.end - c.start - 1)) == 0) ≡ false
not_zero c l h = grind (arith, nat_tests)

pushes_of : (c : Capture) → IsShort c → mark_operations (start_mark c) ≡ pushes c.start c.scopes
pushes_of c h = let f : ((18446744073709551615 - (c.end - c.start - 1)) == 0) ≡ false = not_zero c h.0 h.1 in rw f refl

pushes_at : (i : ℕ) (cs : List Capture) → Each IsShort cs → flat_map mark_operations (filter (at_place i) (map start_mark cs)) ≡ pushes i (flat_map (λ c. c.scopes) (filter (λ c. c.start == i) cs))
pushes_at i [] h = refl
pushes_at i (c ∷ cs) h = by (c.start == i) refl (pushes_at i cs h.1)
  where
    by : (b : Bool) → (c.start == i) ≡ b → flat_map mark_operations (filter (at_place i) (map start_mark cs)) ≡ pushes i (flat_map (λ c. c.scopes) (filter (λ c. c.start == i) cs)) → flat_map mark_operations (if b then start_mark c ∷ filter (at_place i) (map start_mark cs) else filter (at_place i) (map start_mark cs))
        ≡ pushes i (flat_map (λ (c : Capture). c.scopes) (if b then c ∷ filter (λ (c : Capture). c.start == i) cs else filter (λ (c : Capture). c.start == i) cs))
    by true e rest =
        ap (λ l. l ++ flat_map mark_operations (filter (at_place i) (map start_mark cs))) (pushes_of c h.0 ∙ ap (λ k. pushes k c.scopes) (tested_true c.start i e))
        ∙ ap (λ l. pushes i c.scopes ++ l) rest ∙ sym (pushes_append i c.scopes (flat_map (λ (c : Capture). c.scopes) (filter (λ (c : Capture). c.start == i) cs)))
    by false e rest = rest

place_operations : (i : ℕ) (cs : List Capture) → Each IsShort cs → flat_map mark_operations (filter (at_place i) (ranked cs)) ≡ captures_at cs i
place_operations i cs h =
    ap (flat_map mark_operations) (filter-append (at_place i) (map end_mark cs) (map start_mark (longer_first cs)))
    ∙ flat_map-append mark_operations (filter (at_place i) (map end_mark cs)) (filter (at_place i) (map start_mark (longer_first cs)))
    ∙ ap (λ l. l ++ flat_map mark_operations (filter (at_place i) (map start_mark (longer_first cs)))) (pops_at i cs)
    ∙ ap (λ l. map (λ (c : Capture). (i, Pop (length c.scopes))) (filter (λ (c : Capture). c.end == i) cs) ++ l)
    (pushes_at i (longer_first cs) (each_order IsShort cs h) ∙ ap (λ l. pushes i (flat_map (λ (c : Capture). c.scopes) l)) (filter_order (λ c. c.start == i) cs))

blocks_operations : (places : List ℕ) (cs : List Capture) → Each IsShort cs → flat_map mark_operations (blocks (ranked cs) places) ≡ flat_map (captures_at cs) places
blocks_operations [] cs h = refl
blocks_operations (i ∷ places) cs h =
    flat_map-append mark_operations (filter (at_place i) (ranked cs)) (blocks (ranked cs) places)
    ∙ ap (λ l. l ++ flat_map mark_operations (blocks (ranked cs) places)) (place_operations i cs h)
    ∙ ap (λ l. captures_at cs i ++ l) (blocks_operations places cs h)

-- ---- all of them ----

-- captures that aren't empty and lie in the match
abbrev pub LiesWithin : ℕ → ℕ → Capture → Type 0
LiesWithin s e c = (s ≤ c.start) × (c.start < c.end) × (c.end ≤ e)

within_append : (i n : ℕ) (xs ys : List Seen) → AllWithin i n xs → AllWithin i n ys → AllWithin i n (xs ++ ys)
within_append i n [] ys h g = g
within_append i n (x ∷ xs) ys h g = (h.0, h.1, within_append i n xs ys h.2 g)

ends_within : (s e n : ℕ) (cs : List Capture) → e < s + n → Each (LiesWithin s e) cs → AllWithin s n (map end_mark cs)
ends_within s e n [] l h = tt
ends_within s e n (c ∷ cs) l h = let a = h.0.0 in let b = h.0.1 in let d = h.0.2 in (omega (arith, a, b), omega (arith, d, l), ends_within s e n cs l h.1)

starts_within : (s e n : ℕ) (cs : List Capture) → e < s + n → Each (LiesWithin s e) cs → AllWithin s n (map start_mark cs)
starts_within s e n [] l h = tt
starts_within s e n (c ∷ cs) l h = let a = h.0.0 in let b = h.0.1 in let d = h.0.2 in (a, omega (arith, b, d, l), starts_within s e n cs l h.1)

short_of : (s e : ℕ) (cs : List Capture) → e ≤ 18446744073709551615 → Each (LiesWithin s e) cs → Each IsShort cs
short_of s e [] l h = tt
short_of s e (c ∷ cs) l h = let b = h.0.1 in let d = h.0.2 in ((b, omega (arith, d, l)), short_of s e cs l h.1)

map_put : {X : Type 0} (f : X → Seen) (n : Seen → ℕ) (x : X) (ys : List X) → map f (put_behind (λ y. n (f y)) x ys) ≡ put_behind n (f x) (map f ys)
map_put f n x [] = refl
map_put f n x (y ∷ ys) = by (nat_lt (n (f y)) (n (f x))) (map_put f n x ys)
  where
    by : (b : Bool) → map f (put_behind (λ z. n (f z)) x ys) ≡ put_behind n (f x) (map f ys) → map f (if b then y ∷ put_behind (λ z. n (f z)) x ys else x ∷ y ∷ ys) ≡ (if b then f y ∷ put_behind n (f x) (map f ys) else f x ∷ f y ∷ map f ys)
    by true rest = ap (λ l. f y ∷ l) rest
    by false rest = refl

map_order : {X : Type 0} (f : X → Seen) (n : Seen → ℕ) (xs : List X) → map f (in_order (λ y. n (f y)) xs) ≡ in_order n (map f xs)
map_order f n [] = refl
map_order f n (x ∷ xs) = map_put f n x (in_order (λ y. n (f y)) xs) ∙ ap (put_behind n (f x)) (map_order f n xs)

-- the marks of captures, put in order, make their operations
pub marks_make : (marks : List Mark) (s e : ℕ) (cs : List Capture) → map seen_mark marks ≡ flat_map marks_of cs → s ≤ e → e ≤ 18446744073709551615 → Each (LiesWithin s e) cs
    → flat_map mark_operations (map seen_mark (in_order (λ m. m.place) (in_order (λ m. m.rank) marks))) ≡ capture_operations s e cs
marks_make marks s e cs same l short lie =
    ap (flat_map mark_operations)
    (map_order seen_mark place_of (in_order (λ m. m.rank) marks) ∙ ap (in_order place_of) (map_order seen_mark rank_of marks ∙ ap (in_order rank_of) same ∙ by_rank cs (short_of s e cs short lie))
    ∙ by_place (ranked cs) s (e - s + 1)
    (within_append s (e - s + 1) (map end_mark cs) (map start_mark (longer_first cs)) (ends_within s e (e - s + 1) cs (omega (arith, l)) lie)
    (starts_within s e (e - s + 1) (longer_first cs) (omega (arith, l)) (each_order (LiesWithin s e) cs lie))))
    ∙ blocks_operations (range_with_len s (e - s + 1)) cs (short_of s e cs short lie)

pub none_make : (s e : ℕ) → capture_operations s e [] ≡ []
none_make s e = by (range_with_len s (e - s + 1))
  where
    by : (places : List ℕ) → flat_map (captures_at []) places ≡ []
    by [] = refl
    by (i ∷ places) = by places
