-- The captures of a match: which stand over a byte, and what is pushed and popped for them.
use Rattle.std.proofs.Common.{◌≡◌, ◌⊎◌, inl, inr, ℕ, zero, suc, ◌==◌, ◌-◌, ◌+◌, ◌≤◌, ◌<◌, nat_lt, nat_le, Bool, true, false, ◌&&◌, ◌||◌, List, [], ◌∷◌, ◌++◌, length, map, filter, take, refl, sym, ap, ◌∙◌, subst, arith, append_assoc, length-append, if◌then◌else◌}
use Rattle.std.specs.List.{flat_map, range_with_len}
use Rattle.std.specs.Str.{IsCharBoundary}
use Rattle.std.proofs.lemmas.List.{append-nil}
use Rattle.std.proofs.lemmas.Grind.{common_steps}
use Rattle.std.proofs.lemmas.Bool.Decides.{nat_tests}
use Rattle.syntect_parsing.specs.syntect_scope.declared.stack.ScopeStackOp.{ScopeStackOp}
use Rattle.syntect_parsing.specs.syntect_scope.declared.stack.ScopeStackOp.TheVariants.{Pop}
use Rattle.syntect_parsing.specs.syntect_scope.Replay.{Replay, InOrder, replay, replayed, pushes}
use Rattle.syntect_parsing.specs.syntect_pattern.Nesting.{AreNested, is_before, is_after, is_around, is_inside}
use Rattle.syntect_parsing.specs.Scopes.{Scopes, Capture, covers, is_longer, put, longer_first}
use Rattle.syntect_parsing.specs.Operations.{captures_at, capture_operations}
use Rattle.syntect_reading_choice.proofs.ListLaws.{tested_true}
use Rattle.syntect_parsing.proofs.CountLaws.{Counts, counts_nothing, counts_then, counts_pushes}
use Rattle.syntect_parsing.proofs.OrderLaws.{order-append, order-pushes}
use Rattle.syntect_parsing.proofs.ReplayLaws.{At, replay-append, at_op, at_pushes, at_move}

-- ---- members of a list ----

abbrev pub In : {X : Type 0} → X → List X → Type 0
In x [] = ⊥
In x (y ∷ ys) = (y ≡ x) ⊎ In x ys

-- how captures of one match lie: none is empty, they lie in the match, and each two are apart or
-- one in the other
pub record AreLaidOut (start end : ℕ) (cs : List Capture) : Type 0 where
  pub rise : (c : Capture) → In c cs → c.start < c.end
  pub from : (c : Capture) → In c cs → start ≤ c.start
  pub to : (c : Capture) → In c cs → c.end ≤ end
  pub nested : (c d : Capture) → In c cs → In d cs → AreNested (c.start, c.end) (d.start, d.end)

-- ---- the order of captures ----

abbrev pub Each : (Capture → Type 0) → List Capture → Type 0
Each P [] = Unit {0}
Each P (c ∷ cs) = P c × Each P cs

pub each_put : (P : Capture → Type 0) (c : Capture) (ds : List Capture) → P c → Each P ds → Each P (put c ds)
each_put P c [] p h = (p, tt)
each_put P c (d ∷ ds) p h = by (is_longer d c) (each_put P c ds p h.1)
  where
    by : (b : Bool) → Each P (put c ds) → Each P (if b then d ∷ put c ds else c ∷ d ∷ ds)
    by true rest = (h.0, rest)
    by false rest = (p, h)

-- of the captures that pass a test each has a property, and so those have it once they
-- are put in order
each_in_order : (P : Capture → Type 0) (p : Capture → Bool) (cs : List Capture) → ((c : Capture) → In c cs → p c ≡ true → P c) → Each P (longer_first (filter p cs))
each_in_order P p [] h = tt
each_in_order P p (c ∷ cs) h = by (p c) refl (each_in_order P p cs (λ d i e. h d (inr i) e))
  where
    by : (b : Bool) → p c ≡ b → Each P (longer_first (filter p cs)) → Each P (longer_first (if b then c ∷ filter p cs else filter p cs))
    by true e rest = each_put P c (longer_first (filter p cs)) (h c (inl refl) e) rest
    by false e rest = rest

put_front : (c : Capture) (xs ys : List Capture) → Each (λ y. is_longer y c ≡ false) ys → put c (xs ++ ys) ≡ put c xs ++ ys
put_front c [] [] h = refl
put_front c [] (y ∷ ys) h = rw (h.0) refl
put_front c (x ∷ xs) ys h = by (is_longer x c) (put_front c xs ys h)
  where
    by : (b : Bool) → put c (xs ++ ys) ≡ put c xs ++ ys → (if b then x ∷ put c (xs ++ ys) else c ∷ x ∷ (xs ++ ys)) ≡ (if b then x ∷ put c xs else c ∷ x ∷ xs) ++ ys
    by true rest = ap (λ l. x ∷ l) rest
    by false rest = refl

put_behind_longer : (c : Capture) (xs ys : List Capture) → Each (λ x. is_longer x c ≡ true) xs → put c (xs ++ ys) ≡ xs ++ put c ys
put_behind_longer c [] ys h = refl
put_behind_longer c (x ∷ xs) ys h = rw (h.0) (ap (λ l. x ∷ l) (put_behind_longer c xs ys h.1))

not_longer : (c d : Capture) → is_longer c d ≡ true → is_longer d c ≡ false
not_longer c d e = grind (arith, nat_tests)

-- where those that pass the one test are longer than those that pass the other, they come first
module _ (p a b : Capture → Bool) where
  record Splits (cs : List Capture) : Type 0 where
    both : (c : Capture) → In c cs → p c ≡ (a c || b c)
    apart : (c : Capture) → In c cs → a c ≡ true → b c ≡ false
    longer : (c d : Capture) → In c cs → In d cs → a c ≡ true → b d ≡ true → is_longer c d ≡ true

  rest_splits : (c : Capture) (cs : List Capture) → Splits (c ∷ cs) → Splits cs
  rest_splits c cs s = record {
    both = λ d i. s.both d (inr i);
    apart = λ d i. s.apart d (inr i);
    longer = λ d k i j. s.longer d k (inr i) (inr j);
  }

  split_order : (cs : List Capture) → Splits cs → longer_first (filter p cs) ≡ longer_first (filter a cs) ++ longer_first (filter b cs)
  split_order [] s = refl
  split_order (c ∷ cs) s = by (p c) (a c) (b c) refl refl (s.both c (inl refl)) (s.apart c (inl refl)) (split_order cs (rest_splits c cs s))
    where
      A : List Capture
      A = longer_first (filter a cs)

      B : List Capture
      B = longer_first (filter b cs)

      by : (x y z : Bool) → a c ≡ y → b c ≡ z → x ≡ (y || z) → (y ≡ true → z ≡ false) → longer_first (filter p cs) ≡ A ++ B
          → longer_first (if x then c ∷ filter p cs else filter p cs) ≡ longer_first (if y then c ∷ filter a cs else filter a cs) ++ longer_first (if z then c ∷ filter b cs else filter b cs)
      by true true true e f g h rest = let k : true ≡ false = h refl in cc
      by true true false e f g h rest =
          ap (put c) rest ∙ put_front c A B (each_in_order (λ d. is_longer d c ≡ false) b cs (λ d i k. not_longer c d (s.longer c d (inl refl) (inr i) e k)))
      by true false true e f g h rest =
          ap (put c) rest ∙ put_behind_longer c A B (each_in_order (λ d. is_longer d c ≡ true) a cs (λ d i k. s.longer d c (inr i) (inl refl) k f))
      by true false false e f g h rest = cc
      by false true z e f g h rest = cc
      by false false true e f g h rest = cc
      by false false false e f g h rest = rest

filter_alike : (p q : Capture → Bool) (cs : List Capture) → ((c : Capture) → In c cs → p c ≡ q c) → filter p cs ≡ filter q cs
filter_alike p q [] h = refl
filter_alike p q (c ∷ cs) h =
    rw (h c (inl refl)) (ap (λ (l : List Capture). if q c then c ∷ l else l) (filter_alike p q cs (λ d i. h d (inr i))))

filter_none : (p : Capture → Bool) (cs : List Capture) → ((c : Capture) → In c cs → p c ≡ false) → filter p cs ≡ []
filter_none p [] h = refl
filter_none p (c ∷ cs) h = rw (h c (inl refl)) (filter_none p cs (λ d i. h d (inr i)))

-- ---- the scopes of captures ----

abbrev pub scopes_of : List Capture → Scopes
scopes_of cs = flat_map (λ c. c.scopes) cs

-- those of the captures that pass a test, in order
abbrev pub over : (Capture → Bool) → List Capture → Scopes
over p cs = scopes_of (longer_first (filter p cs))

scopes_append : (cs ds : List Capture) → scopes_of (cs ++ ds) ≡ scopes_of cs ++ scopes_of ds
scopes_append [] ds = refl
scopes_append (c ∷ cs) ds = ap (λ (l : Scopes). c.scopes ++ l) (scopes_append cs ds) ∙ sym (append_assoc c.scopes (scopes_of cs) (scopes_of ds))

put_length : (c : Capture) (ds : List Capture) → length (scopes_of (put c ds)) ≡ length c.scopes + length (scopes_of ds)
put_length c [] = length-append c.scopes []
put_length c (d ∷ ds) = by (is_longer d c) (put_length c ds)
  where
    by : (b : Bool) → length (scopes_of (put c ds)) ≡ length c.scopes + length (scopes_of ds) → length (scopes_of (if b then d ∷ put c ds else c ∷ d ∷ ds)) ≡ length c.scopes + length (scopes_of (d ∷ ds))
    by true g =
        let e = length-append d.scopes (scopes_of (put c ds)) in
        let f = length-append d.scopes (scopes_of ds) in
        omega (arith, e, f, g)
    by false g = length-append c.scopes (scopes_of (d ∷ ds))

order_length : (cs : List Capture) → length (scopes_of (longer_first cs)) ≡ length (scopes_of cs)
order_length [] = refl
order_length (c ∷ cs) = put_length c (longer_first cs) ∙ ap (λ n. length c.scopes + n) (order_length cs) ∙ sym (length-append c.scopes (scopes_of cs))

-- ---- the operations at one place ----

abbrev popped_each : ℕ → List Capture → List (ℕ × ScopeStackOp)
popped_each i cs = map (λ c. (i, Pop (length c.scopes))) cs

take_less : (n : ℕ) (us ws : Scopes) → n ≤ length ws → take (length (us ++ ws) - n) (us ++ ws) ≡ us ++ take (length ws - n) ws
take_less n [] ws l = refl
take_less n (u ∷ us) ws l =
    let k : length (u ∷ (us ++ ws)) - n ≡ suc (length (us ++ ws) - n) = omega (arith, length-append us ws) in
    rw k (ap (λ l. u ∷ l) (take_less n us ws l))

length_left : (n : ℕ) (ws : Scopes) → n ≤ length ws → length (take (length ws - n) ws) ≡ length ws - n
length_left n ws l = grind (arith, common_steps)

at_pop_each : (mem : List (List (List ℕ))) (r : Replay) (i : ℕ) (b : List Scopes) (cs : List Capture) (us ws : Scopes) → length ws ≡ length (scopes_of cs) → At mem r i b (us ++ ws) → At mem (replay (popped_each i cs) r) i b us
at_pop_each mem r i b [] us [] e h = rw (append-nil us) at h
at_pop_each mem r i b [] us (w ∷ ws) e h = absurd (omega (arith, e))
at_pop_each mem r i b (c ∷ cs) us ws e h =
    let l : length ws ≡ length c.scopes + length (scopes_of cs) = e ∙ length-append c.scopes (scopes_of cs) in
    let left = take (length ws - length c.scopes) ws in
    at_pop_each mem (replayed r (i, Pop (length c.scopes))) i b cs us left (length_left (length c.scopes) ws (omega (arith, l)) ∙ omega (arith, l))
    (at_op mem r i b (us ++ ws) (us ++ left) (Pop (length c.scopes)) (ap (λ (l : Scopes). record { clear_stack = mem; scopes = l }) (take_less (length c.scopes) us ws (omega (arith, l)))) h)

-- which captures began before a place and don't end before it, and which of them end or begin there
abbrev pub entered : ℕ → Capture → Bool
entered i c = nat_lt c.start i && nat_le i c.end

abbrev around : ℕ → Capture → Bool
around i c = nat_lt c.start i && nat_lt i c.end

abbrev ends_at : ℕ → Capture → Bool
ends_at i c = c.end == i

abbrev starts_at : ℕ → Capture → Bool
starts_at i c = c.start == i

entered_is : (i : ℕ) (c : Capture) → c.start < c.end → entered i c ≡ (around i c || ends_at i c)
entered_is i c l = grind (arith, nat_tests)

covers_is : (i : ℕ) (c : Capture) → c.start < c.end → covers i c ≡ (around i c || starts_at i c)
covers_is i c l = grind (arith, nat_tests)

around_not_end : (i : ℕ) (c : Capture) → around i c ≡ true → ends_at i c ≡ false
around_not_end i c e = grind (arith, nat_tests)

around_not_start : (i : ℕ) (c : Capture) → around i c ≡ true → starts_at i c ≡ false
around_not_start i c e = grind (arith, nat_tests)

around_parts : (i : ℕ) (c : Capture) → around i c ≡ true → (c.start < i) × (i < c.end)
around_parts i c e = (grind (arith, nat_tests), grind (arith, nat_tests))

longer_test : (c d : Capture) → d.end - d.start < c.end - c.start → is_longer c d ≡ true
longer_test c d l = grind (arith, nat_tests)

longer_than_ending : (i : ℕ) (c d : Capture) → AreNested (c.start, c.end) (d.start, d.end) → d.start < d.end → around i c ≡ true → ends_at i d ≡ true → is_longer c d ≡ true
longer_than_ending i c d n l e f =
    let p = around_parts i c e in let p0 = p.0 in let p1 = p.1 in let q = tested_true d.end i f in longer_test c d (by n p0 p1 q)
  where
    by : AreNested (c.start, c.end) (d.start, d.end) → c.start < i → i < c.end → d.end ≡ i → d.end - d.start < c.end - c.start
    by (is_before h) x y z = omega arith
    by (is_after h) x y z = omega arith
    by (is_around h k) x y z = omega arith
    by (is_inside h k) x y z = omega arith

longer_than_starting : (i : ℕ) (c d : Capture) → AreNested (c.start, c.end) (d.start, d.end) → d.start < d.end → around i c ≡ true → starts_at i d ≡ true → is_longer c d ≡ true
longer_than_starting i c d n l e f =
    let p = around_parts i c e in let p0 = p.0 in let p1 = p.1 in let q = tested_true d.start i f in longer_test c d (by n p0 p1 q)
  where
    by : AreNested (c.start, c.end) (d.start, d.end) → c.start < i → i < c.end → d.start ≡ i → d.end - d.start < c.end - c.start
    by (is_before h) x y z = omega arith
    by (is_after h) x y z = omega arith
    by (is_around h k) x y z = omega arith
    by (is_inside h k) x y z = omega arith

module _ (s e : ℕ) (cs : List Capture) (laid : AreLaidOut s e cs) where
  entered_splits : (i : ℕ) → over (entered i) cs ≡ over (around i) cs ++ over (ends_at i) cs
  entered_splits i =
      ap scopes_of (split_order (entered i) (around i) (ends_at i) cs (record {
        both = λ c m. entered_is i c (laid.rise c m);
        apart = λ c m. around_not_end i c;
        longer = λ c d m k. longer_than_ending i c d (laid.nested c d m k) (laid.rise d k);
      }))
      ∙ scopes_append (longer_first (filter (around i) cs)) (longer_first (filter (ends_at i) cs))

  covers_splits : (i : ℕ) → over (covers i) cs ≡ over (around i) cs ++ over (starts_at i) cs
  covers_splits i =
      ap scopes_of (split_order (covers i) (around i) (starts_at i) cs (record {
        both = λ c m. covers_is i c (laid.rise c m);
        apart = λ c m. around_not_start i c;
        longer = λ c d m k. longer_than_starting i c d (laid.nested c d m k) (laid.rise d k);
      }))
      ∙ scopes_append (longer_first (filter (around i) cs)) (longer_first (filter (starts_at i) cs))

  -- at a place the captures that end there give way to those that begin there
  at_place : (mem : List (List (List ℕ))) (r : Replay) (i : ℕ) (b : List Scopes) (below : Scopes) → At mem r i b (below ++ over (entered i) cs) → At mem (replay (captures_at cs i) r) i b (below ++ over (covers i) cs)
  at_place mem r i b below h =
      let h1 : At mem r i b ((below ++ over (around i) cs) ++ over (ends_at i) cs) =
      rw (append_assoc below (over (around i) cs) (over (ends_at i) cs)) (rw (entered_splits i) at h)
      in
      let h2 = at_pop_each mem r i b (filter (ends_at i) cs) (below ++ over (around i) cs) (over (ends_at i) cs) (order_length (filter (ends_at i) cs)) h1 in
      let h3 = at_pushes mem (replay (popped_each i (filter (ends_at i) cs)) r) i b (below ++ over (around i) cs) (over (starts_at i) cs) h2 in
      rw (replay-append (popped_each i (filter (ends_at i) cs)) (pushes i (over (starts_at i) cs)) r, covers_splits i, ← append_assoc below (over (around i) cs) (over (starts_at i) cs)) h3

  covers_next : (i : ℕ) → over (covers i) cs ≡ over (entered (i + 1)) cs
  covers_next i = ap (λ l. scopes_of (longer_first l)) (filter_alike (covers i) (entered (i + 1)) cs (λ c m. same c))
    where
      same : (c : Capture) → covers i c ≡ entered (i + 1) c
      same c = grind (arith, nat_tests)

  -- from a place on over n bytes
  walk : (mem : List (List (List ℕ))) (n : ℕ) (r : Replay) (i : ℕ) (b : List Scopes) (below : Scopes) → At mem r i b (below ++ over (entered i) cs)
      → At mem (replay (flat_map (captures_at cs) (range_with_len i (suc n))) r) (i + n) (b ++ map (λ k. below ++ over (covers k) cs) (range_with_len i n)) (below ++ over (covers (i + n)) cs)
  walk mem zero r i b below h =
      let z : i + 0 ≡ i = omega arith in
      rw (z, append-nil (captures_at cs i), append-nil b) (at_place mem r i b below h)
  walk mem (suc n) r i b below h =
      let z : i + suc n ≡ (i + 1) + n = omega arith in
      let one : (i + 1) - i ≡ 1 = omega arith in
      let h1 = at_place mem r i b below h in
      let h2 : At mem (replay (captures_at cs i) r) (i + 1) (b ++ (below ++ over (covers i) cs) ∷ []) (below ++ over (covers i) cs) =
      rw one at (at_move mem (replay (captures_at cs i) r) i (i + 1) b (below ++ over (covers i) cs) (omega arith) h1)
      in
      let h3 : At mem (replay (captures_at cs i) r) (i + 1) (b ++ (below ++ over (covers i) cs) ∷ []) (below ++ over (entered (i + 1)) cs) =
      subst (λ (x : Scopes). At mem (replay (captures_at cs i) r) (i + 1) (b ++ (below ++ over (covers i) cs) ∷ []) (below ++ x)) (covers_next i) h2
      in
      let h4 = walk mem n (replay (captures_at cs i) r) (i + 1) (b ++ (below ++ over (covers i) cs) ∷ []) below h3 in
      rw (
        z,
        replay-append (captures_at cs i) (flat_map (captures_at cs) (range_with_len (i + 1) (suc n))) r,
        ← append_assoc b ((below ++ over (covers i) cs) ∷ []) (map (λ k. below ++ over (covers k) cs) (range_with_len (i + 1) n)),
      ) h4

  none_before : over (entered s) cs ≡ []
  none_before = ap (λ l. scopes_of (longer_first l)) (filter_none (entered s) cs (λ c m. no c (laid.from c m)))
    where
      no : (c : Capture) → s ≤ c.start → entered s c ≡ false
      no c l = grind (arith, nat_tests)

  none_after : over (covers e) cs ≡ []
  none_after = ap (λ l. scopes_of (longer_first l)) (filter_none (covers e) cs (λ c m. no c (laid.to c m)))
    where
      no : (c : Capture) → c.end ≤ e → covers e c ≡ false
      no c l = grind (arith, nat_tests)

  -- from the start of the match to its end
  pub captures_shown : (mem : List (List (List ℕ))) (r : Replay) (b : List Scopes) (below : Scopes) → s ≤ e → At mem r s b below
      → At mem (replay (capture_operations s e cs) r) e (b ++ map (λ k. below ++ over (covers k) cs) (range_with_len s (e - s))) below
  captures_shown mem r b below l h =
      let n : e - s + 1 ≡ suc (e - s) = omega arith in
      let z : s + (e - s) ≡ e = omega arith in
      let h1 : At mem r s b (below ++ over (entered s) cs) = rw (none_before, append-nil below) h in
      let h2 = walk mem (e - s) r s b below h1 in
      rw n (rw (z, none_after, append-nil below) at h2)

-- ---- the order of the operations ----

-- the captures begin and end on character boundaries
pub record EndOnBoundaries (text : List ℕ) (cs : List Capture) : Type 0 where
  pub starts : (c : Capture) → In c cs → IsCharBoundary text c.start
  pub ends : (c : Capture) → In c cs → IsCharBoundary text c.end

boundaries_of_rest : (text : List ℕ) (c : Capture) (cs : List Capture) → EndOnBoundaries text (c ∷ cs) → EndOnBoundaries text cs
boundaries_of_rest text c cs on = record { starts = λ d m. on.starts d (inr m); ends = λ d m. on.ends d (inr m) }

pops_in_order : (text : List ℕ) (i : ℕ) (cs : List Capture) → EndOnBoundaries text cs → InOrder text i (popped_each i (filter (ends_at i) cs)) i
pops_in_order text i [] on = omega arith
pops_in_order text i (c ∷ cs) on = by (ends_at i c) refl (pops_in_order text i cs (boundaries_of_rest text c cs on))
  where
    by : (b : Bool) → ends_at i c ≡ b → InOrder text i (popped_each i (filter (ends_at i) cs)) i → InOrder text i (popped_each i (if b then c ∷ filter (ends_at i) cs else filter (ends_at i) cs)) i
    by true e rest = (omega arith, subst (λ k. IsCharBoundary text k) (tested_true c.end i e) (on.ends c (inl refl)), rest)
    by false e rest = rest

none_or_boundary : (text : List ℕ) (i : ℕ) (cs : List Capture) → EndOnBoundaries text cs → (filter (starts_at i) cs ≡ []) ⊎ IsCharBoundary text i
none_or_boundary text i [] on = inl refl
none_or_boundary text i (c ∷ cs) on = by (starts_at i c) refl (none_or_boundary text i cs (boundaries_of_rest text c cs on))
  where
    by : (b : Bool) → starts_at i c ≡ b → (filter (starts_at i) cs ≡ []) ⊎ IsCharBoundary text i → ((if b then c ∷ filter (starts_at i) cs else filter (starts_at i) cs) ≡ []) ⊎ IsCharBoundary text i
    by true e rest = inr (subst (λ k. IsCharBoundary text k) (tested_true c.start i e) (on.starts c (inl refl)))
    by false e rest = rest

pushes_in_order : (text : List ℕ) (i : ℕ) (cs : List Capture) → (cs ≡ []) ⊎ IsCharBoundary text i → InOrder text i (pushes i (scopes_of (longer_first cs))) i
pushes_in_order text i cs (inl e) = rw e (omega arith)
pushes_in_order text i cs (inr b) = order-pushes text i (scopes_of (longer_first cs)) b

place_in_order : (text : List ℕ) (i : ℕ) (cs : List Capture) → EndOnBoundaries text cs → InOrder text i (captures_at cs i) i
place_in_order text i cs on =
    order-append text i i i (popped_each i (filter (ends_at i) cs)) (pushes i (over (starts_at i) cs)) (pops_in_order text i cs on)
    (pushes_in_order text i (filter (starts_at i) cs) (none_or_boundary text i cs on))

places_in_order : (text : List ℕ) (n i : ℕ) (cs : List Capture) → EndOnBoundaries text cs → InOrder text i (flat_map (captures_at cs) (range_with_len i (suc n))) (i + n)
places_in_order text zero i cs on =
    let z : i + 0 ≡ i = omega arith in
    rw (z, append-nil (captures_at cs i)) (place_in_order text i cs on)
places_in_order text (suc n) i cs on =
    let z : i + suc n ≡ (i + 1) + n = omega arith in
    rw z (
    order-append text i i ((i + 1) + n) (captures_at cs i) (flat_map (captures_at cs) (range_with_len (i + 1) (suc n))) (place_in_order text i cs on)
    (order-append text i (i + 1) ((i + 1) + n) [] (flat_map (captures_at cs) (range_with_len (i + 1) (suc n))) (omega arith) (places_in_order text n (i + 1) cs on)))

pub captures_in_order : (text : List ℕ) (s e : ℕ) (cs : List Capture) → EndOnBoundaries text cs → s ≤ e → InOrder text s (capture_operations s e cs) e
captures_in_order text s e cs on l =
    let n : e - s + 1 ≡ suc (e - s) = omega arith in
    let z : s + (e - s) ≡ e = omega arith in
    rw n (rw z at (places_in_order text (e - s) s cs on))

counts_popped : (a i : ℕ) (cs : List Capture) → Counts a a (popped_each i cs)
counts_popped a i [] = counts_nothing a
counts_popped a i (c ∷ cs) = λ r k e. let x = counts_popped a i cs (replayed r (i, Pop (length c.scopes))) k e in ((refl, x.0), x.1)

places_count : (a : ℕ) (places : List ℕ) (cs : List Capture) → Counts a a (flat_map (captures_at cs) places)
places_count a [] cs = counts_nothing a
places_count a (i ∷ places) cs =
    counts_then a a a (captures_at cs i) (flat_map (captures_at cs) places)
    (counts_then a a a (popped_each i (filter (ends_at i) cs)) (pushes i (over (starts_at i) cs)) (counts_popped a i (filter (ends_at i) cs)) (counts_pushes a i (over (starts_at i) cs)))
    (places_count a places cs)

-- captures clear nothing and put nothing back
pub captures_count : (a s e : ℕ) (cs : List Capture) → Counts a a (capture_operations s e cs)
captures_count a s e cs = places_count a (range_with_len s (e - s + 1)) cs
