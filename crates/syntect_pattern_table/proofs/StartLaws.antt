-- Where a match can begin.
use Rattle.std.proofs.Common.{◌≡◌, ◌<◌, ◌≤◌, ◌==◌, ◌-◌, ◌+◌, ◌&&◌, ◌||◌, ◌⊎◌, inl, inr, ℕ, zero, suc, Bool, true, false, not, List, [], ◌∷◌, length, drop, map, get_or, refl, sym, ◌∙◌, ap, subst, arith, Option, Some, None, ne_eqb, eq-eqb, cond, nat_lt, leb-true}
use Rattle.std.specs.Char.{len_utf8}
use Rattle.std.specs.Prelude.{slice_get, option_map, if◌then◌else◌, IsUtf8, IsCharBoundary, nat_le}
use Rattle.std.specs.Str.{chars, chars_after}
use Rattle.std.specs.List.{flat_map}
use Rattle.std.proofs.Math.Seq.{drop-cons}
use Rattle.std.proofs.lemmas.List.{drop_all, get_or-drop}
use Rattle.std.proofs.lemmas.Bool.{lt-ltb, cases_lt, le-ltb, le-leb, and_parts}
use Rattle.std.proofs.lemmas.Bool.Decides.{nat_tests}
use Rattle.std.proofs.lemmas.Str.{IsUtf8-drop, chars-encodes, byte_from_char}
use Rattle.std.proofs.Math.Utf8.{encodes}
use Rattle.syntect_pattern.specs.Text.{char_at, is_boundary}
use Rattle.syntect_pattern.specs.Sets.{Set, none, range, alike, category, categories, word, space, either, both, negated, holds}
use Rattle.syntect_pattern.specs.Trees.{Tree, nothing, one_of, anchor, same, seq, alt, repeat, group, atomic, ahead, behind}
use Rattle.syntect_pattern.specs.declared.anchor.Anchor.{Anchor}
use Rattle.syntect_pattern.specs.Matches.{Groups, Member, Way, matches, turns, prefer, while_left, after_turn, only_if, past, close, anchor_holds, is_newline, look, stay, ending_here, unset, found_at}
use Rattle.syntect_pattern_table.specs.SetTable.{is_wide}
use Rattle.syntect_pattern_table.proofs.AlikeLaws.{alike_wide}
use Rattle.syntect_pattern_table.proofs.AlikeLaws.{or_cases}
use Rattle.syntect_pattern_table.specs.Needs.{Needs, IsAbsent}
use Rattle.syntect_pattern_table.specs.Starts.{start_at, can_hold, can_stand, reads, stays}
use Rattle.syntect_pattern.proofs.Each.{Each, each_of, each-append, each-flat_map, each-map, each-take}

-- -- Places of a text

-- nothing stands past the end
pub char_at-past : (s : List ℕ) (i : ℕ) → length s ≤ i → char_at s i ≡ None
unfolding char_at chars
char_at-past s i h = ap (λ (t : List ℕ). slice_get (chars t) 0) (drop_all i s h)

after-first : (c : ℕ) (rest : List ℕ) → slice_get (chars_after 0 c rest) 0 ≡ Some c
after-first c [] = refl
after-first c (b ∷ rest) = refl

-- an ASCII byte is a character
pub char_at-ascii : (s : List ℕ) (i : ℕ) → i < length s → get_or s i 0 < 128 → char_at s i ≡ Some (get_or s i 0)
unfolding char_at chars
char_at-ascii s i h l =
    ap (λ (t : List ℕ). slice_get (chars t) 0) (drop-cons s i 0 h)
    ∙ ap (λ (b : Bool). slice_get (chars_after (cond b 0 (cond (nat_lt (get_or s i 0) 224) 1 (cond (nat_lt (get_or s i 0) 240) 2 3))) (cond b (get_or s i 0) (cond (nat_lt (get_or s i 0) 224) (get_or s i 0 - 192) (cond (nat_lt (get_or s i 0) 240) (get_or s i 0 - 224) (get_or s i 0 - 240)))) (drop (suc i) s)) 0) (lt-ltb (get_or s i 0) 128 l)
    ∙ after-first (get_or s i 0) (drop (suc i) s)

-- a character that begins with a byte beyond ASCII is beyond ASCII
lead-wide : (cs bs : List ℕ) (c : ℕ) → encodes cs ≡ bs → slice_get cs 0 ≡ Some c → 128 ≤ get_or bs 0 0 → 128 ≤ c
lead-wide [] bs c e h l = cc
lead-wide (d ∷ ds) bs c e h l = elim (cases_lt d 128) [
  | inl p ↦ absurd (omega (arith, byte_from_char bs (encodes ds) d (sym e) p, p, l))
  | inr p ↦ (let k : Some d ≡ Some c = h in let same : d ≡ c = cc in omega (arith, p, same))
]

pub char_at-wide : (s : List ℕ) → IsUtf8 s → (i : ℕ) → IsCharBoundary s i → 128 ≤ get_or s i 0 → (c : ℕ) → char_at s i ≡ Some c → 128 ≤ c
unfolding char_at
char_at-wide s u i b l c e =
    let rest = IsUtf8-drop s i u b in
    let same : chars (drop i s) ≡ rest.0 = ap chars (sym rest.1.1) ∙ chars-encodes rest.0 rest.1.0 in
    lead-wide rest.0 (drop i s) c rest.1.1 (ap (λ (cs : List ℕ). slice_get cs 0) (sym same) ∙ e)
    (let k : get_or (drop i s) 0 0 ≡ get_or s i 0 = get_or-drop i s 0 0 ∙ ap (λ n. get_or s n 0) (omega arith) in omega (arith, k, l))

-- what stands at the place
pub data Start (s : List ℕ) (i x : ℕ) : Type 0 where
  ascii : x < 128 → char_at s i ≡ Some x → i < length s → Start s i x
  wide : x ≡ 128 → i < length s → ((c : ℕ) → char_at s i ≡ Some c → 128 ≤ c) → Start s i x
  over : x ≡ 129 → length s ≤ i → Start s i x

pub start-is : (s : List ℕ) → IsUtf8 s → (i : ℕ) → IsCharBoundary s i → Start s i (start_at s i)
unfolding start_at
start-is s u i b = elim (cases_lt i (length s)) [
  | inl h ↦
      (let outer : start_at s i ≡ (if nat_lt (get_or s i 0) 128 then get_or s i 0 else 128) = ap (λ b. if b then (if nat_lt (get_or s i 0) 128 then get_or s i 0 else 128) else 129) (lt-ltb i (length s) h) in
      elim (cases_lt (get_or s i 0) 128) [
        | inl l ↦
            (let is : start_at s i ≡ get_or s i 0 = outer ∙ ap (λ b. if b then get_or s i 0 else 128) (lt-ltb (get_or s i 0) 128 l) in
            subst (Start s i) (sym is) (ascii l (char_at-ascii s i h l) h))
        | inr g ↦
            (let is : start_at s i ≡ 128 = outer ∙ ap (λ b. if b then get_or s i 0 else 128) (le-ltb (get_or s i 0) 128 g) in
            wide is h (char_at-wide s u i b g))
      ])
  | inr h ↦ over (ap (λ b. if b then (if nat_lt (get_or s i 0) 128 then get_or s i 0 else 128) else 129) (le-ltb i (length s) h)) h
]

pub boundary-true : (s : List ℕ) (i : ℕ) → is_boundary s i ≡ true → IsCharBoundary s i
unfolding is_boundary
boundary-true s i h = (grind (arith, nat_tests), λ a b. grind (arith, nat_tests))

-- -- What a match needs

or-in_left : (a b : Bool) → a ≡ true → (a || b) ≡ true
or-in_left true b e = refl
or-in_left false b e = cc

or-in_right : (a b : Bool) → b ≡ true → (a || b) ≡ true
or-in_right true b e = refl
or-in_right false b e = e

and-both : (a b : Bool) → a ≡ true → b ≡ true → (a && b) ≡ true
and-both true b e h = h
and-both false b e h = cc

-- a set that holds a character beyond ASCII can do so
pub wide-holds : (a : Set) (c : ℕ) → 128 ≤ c → holds a c ≡ true → is_wide a ≡ true
wide-holds none c l e = cc
wide-holds (range low high) c l e =
    let p = and_parts (nat_le low c) (nat_le c high) e in
    let q : c ≤ high = leb-true c high p.1 in
    le-leb 128 high (omega arith)
wide-holds (alike low high) c l e = alike_wide low high c l e
wide-holds (category k) c l e = refl
wide-holds (categories k) c l e = refl
wide-holds word c l e = refl
wide-holds space c l e = refl
wide-holds (either a b) c l e = elim (or_cases (holds a c) (holds b c) e) [
  | inl p ↦ or-in_left (is_wide a) (is_wide b) (wide-holds a c l p)
  | inr p ↦ or-in_right (is_wide a) (is_wide b) (wide-holds b c l p)
]
wide-holds (both a b) c l e =
    let p = and_parts (holds a c) (holds b c) e in
    and-both (is_wide a) (is_wide b) (wide-holds a c l p.0) (wide-holds b c l p.1)
wide-holds (negated a) c l e = refl

module _ (s : List ℕ) where
  -- a member reads something where its tree can, or reads nothing where it can do that
  abbrev pub Begins : (r t : Bool) → ℕ → ℕ → Type 0
  Begins r t i j = (r ≡ true) ⊎ ((j ≡ i) × (t ≡ true))

  abbrev AllBegin : (r t : Bool) → ℕ → List Member → Type 0
  AllBegin r t i = Each (λ m. Begins r t i m.0)

  if-begins : (b : Bool) (j : ℕ) (g : Groups) (r t : Bool) (i : ℕ) → (b ≡ true → Begins r t i j) → AllBegin r t i (only_if b j g)
  if-begins true j g r t i h = (h refl, tt)
  if-begins false j g r t i h = tt

  hold-true : (a : Set) (c x : ℕ) → x < 128 → c ≡ x → holds a c ≡ true → can_hold a x ≡ true
  hold-true a c x l e h = ap (λ b. if b then holds a x else (x == 128 && is_wide a)) (lt-ltb x 128 l) ∙ ap (holds a) (sym e) ∙ h

  one-begins : (a : Set) (i x : ℕ) (g : Groups) → Start s i x → AllBegin (can_hold a x) false i (past (holds a) (char_at s i) i g)
  one-begins a i x g (ascii l e h) =
      subst (λ (o : Option ℕ). AllBegin (can_hold a x) false i (past (holds a) o i g)) (sym e)
      (if-begins (holds a x) (i + len_utf8 x) g (can_hold a x) false i (λ y. inl (hold-true a x x l refl y)))
  one-begins a i x g (wide e h f) = go (char_at s i) refl
    where
      go : (o : Option ℕ) → char_at s i ≡ o → AllBegin (can_hold a x) false i (past (holds a) o i g)
      go None k = tt
      go (Some c) k = if-begins (holds a c) (i + len_utf8 c) g (can_hold a x) false i (λ y. inl (ap (can_hold a) e ∙ wide-holds a c (f c k) y))
  one-begins a i x g (over e h) = subst (λ (o : Option ℕ). AllBegin (can_hold a x) false i (past (holds a) o i g)) (sym (char_at-past s i h)) tt

  not-end : (i : ℕ) → i < length s → (i == length s) ≡ false
  not-end i h = ne_eqb i (length s) (λ e. omega arith)

  -- where an anchor before a newline or the end holds
  line-stands : (i x : ℕ) (rest : Bool) → Start s i x → (i == length s || (is_newline (char_at s i) && rest)) ≡ true → (not (nat_lt x 128) || x == 0x0A) ≡ true
  line-stands i x rest (ascii l e h) y =
      let newline : ((x == 0x0A) && rest) ≡ true =
      sym (ap (λ b. b || (is_newline (char_at s i) && rest)) (not-end i h) ∙ ap (λ (o : Option ℕ). is_newline o && rest) e) ∙ y in
      or-in_right (not (nat_lt x 128)) (x == 0x0A) (first (x == 0x0A) rest newline)
    where
      first : (a b : Bool) → (a && b) ≡ true → a ≡ true
      first true b e = refl
      first false b e = cc
  line-stands i x rest (wide e h f) y = ap (λ n. not (nat_lt n 128) || n == 0x0A) e
  line-stands i x rest (over e h) y = ap (λ n. not (nat_lt n 128) || n == 0x0A) e

  and-true : (b : Bool) → (b && true) ≡ b
  and-true true = refl
  and-true false = refl

  end-stands : (i x : ℕ) → Start s i x → (i == length s) ≡ true → (x == 129) ≡ true
  end-stands i x (ascii l e h) y = let no : true ≡ false = sym y ∙ not-end i h in cc
  end-stands i x (wide e h f) y = let no : true ≡ false = sym y ∙ not-end i h in cc
  end-stands i x (over e h) y = ap (λ n. n == 129) e

  anchor-stands : (a : Anchor) (i x : ℕ) → Start s i x → anchor_holds s a i ≡ true → can_stand a x ≡ true
  anchor-stands Anchor.LineStart i x st y = refl
  anchor-stands Anchor.LineEnd i x st y = line-stands i x true st (ap (λ b. i == length s || b) (and-true (is_newline (char_at s i))) ∙ y)
  anchor-stands Anchor.TextStart i x st y = refl
  anchor-stands Anchor.TextEnd i x st y = end-stands i x st y
  anchor-stands Anchor.LastLineEnd i x st y = line-stands i x (i + 1 == length s) st y
  anchor-stands Anchor.WordEdge i x st y = refl
  anchor-stands Anchor.NoWordEdge i x st y = refl

  all-read : (r t : Bool) (i : ℕ) (ms : List Member) → r ≡ true → AllBegin r t i ms
  all-read r t i [] e = tt
  all-read r t i (m ∷ ms) e = (inl e, all-read r t i ms e)

  weaken : (r t r' t' : Bool) (i : ℕ) (ms : List Member) → (r ≡ true → r' ≡ true) → (t ≡ true → t' ≡ true) → AllBegin r t i ms → AllBegin r' t' i ms
  weaken r t r' t' i ms f g e = each_of (λ m. Begins r t i m.0) (λ m. Begins r' t' i m.0) ms (λ m h. elim h [
    | inl y ↦ inl (f y)
    | inr z ↦ inr (z.0, g z.1)
  ]) e

  -- the first list's members, and then those of a way from each
  after-begins : (r t : Bool) (r' t' : Bool) (i : ℕ) (ms : List Member) (f : Member → List Member)
      → AllBegin r t i ms → (r ≡ true → r' ≡ true) → ((m : Member) → m.0 ≡ i → t ≡ true → AllBegin r' t' i (f m)) → AllBegin r' t' i (flat_map f ms)
  after-begins r t r' t' i ms f e h k =
      each-flat_map (λ m. Begins r' t' i m.0) f ms
      (each_of (λ m. Begins r t i m.0) (λ m. AllBegin r' t' i (f m)) ms (λ m b. elim b [
        | inl y ↦ all-read r' t' i (f m) (h y)
        | inr z ↦ k m z.0 z.1
      ]) e)

  prefer-begins : (greedy : Bool) (r t : Bool) (i : ℕ) (more leave : List Member) → AllBegin r t i more → AllBegin r t i leave → AllBegin r t i (prefer greedy more leave)
  prefer-begins true r t i more leave e f = each-append (λ m. Begins r t i m.0) more leave e f
  prefer-begins false r t i more leave e f = each-append (λ m. Begins r t i m.0) leave more f e

  while-begins : (most : Option ℕ) (turn : Way) (r t : Bool) (i : ℕ) (g : Groups) → AllBegin r t i (turn i g) → AllBegin r t i (while_left most turn i g)
  while-begins None turn r t i g e = e
  while-begins (Some zero) turn r t i g e = tt
  while-begins (Some (suc n)) turn r t i g e = e

  -- a turn that reads nothing leaves the loop
  turn-begins : (more : Way) (r t : Bool) (i : ℕ) (m : Member) → m.0 ≡ i → t ≡ true → AllBegin r t i (after_turn (m.0 == i) more m.0 m.1)
  turn-begins more r t i m e y = subst (λ (b : Bool). AllBegin r t i (after_turn b more m.0 m.1)) (sym (eq-eqb m.0 i e)) (inr (e, y), tt)

  loop-begins : (body : Way) (greedy : Bool) (n least : ℕ) (most : Option ℕ) (i : ℕ) (g : Groups) (r t t' : Bool) → AllBegin r t i (body i g) → (t ≡ true → t' ≡ true) → ((least == 0) ≡ true → t' ≡ true)
      → AllBegin r t' i (turns body greedy n least most i g)
  loop-begins body greedy zero least most i g r t t' e f h = tt
  loop-begins body greedy (suc n) least most i g r t t' e f h =
      let more : Way = turns body greedy n (least - 1) (option_map (λ k. k - 1) most) in
      prefer-begins greedy r t' i _ (only_if (least == 0) i g)
      (while-begins most (λ i' g'. flat_map (λ (j, q). after_turn (j == i') more j q) (body i' g')) r t' i g
      (after-begins r t r t' i (body i g) (λ (j, q). after_turn (j == i) more j q) e (λ y. y) (λ m z y. turn-begins more r t' i m z (f y))))
      (if-begins (least == 0) i g r t' i (λ y. inr (refl, h y)))

  -- what a lookahead finds
  stay-begins : (r t : Bool) (i : ℕ) (ms : List Member) → AllBegin r t i ms → AllBegin false (r || t) i (stay i ms)
  stay-begins r t i [] e = tt
  stay-begins r t i (m ∷ ms) e = elim e.0 [
    | inl y ↦ (inr (refl, or-in_left r t y), tt)
    | inr z ↦ (inr (refl, or-in_right r t z.1), tt)
  ]

  look-begins : (n : Bool) (i : ℕ) (g : Groups) (ms : List Member) → AllBegin false true i (look n i g ms)
  look-begins false i g [] = tt
  look-begins false i g (m ∷ ms) = (inr (refl, refl), tt)
  look-begins true i g [] = (inr (refl, refl), tt)
  look-begins true i g (m ∷ ms) = tt

  pub matches-begin : (t : Tree) (i x : ℕ) (g : Groups) → Start s i x → AllBegin (reads t x) (stays t x) i (matches s t i g)
  matches-begin nothing i x g st = (inr (refl, refl), tt)
  matches-begin (one_of a) i x g st = one-begins a i x g st
  matches-begin (anchor a) i x g st = if-begins (anchor_holds s a i) i g false (can_stand a x) i (λ y. inr (refl, anchor-stands a i x st y))
  matches-begin (same fold n) i x g st = all-read true true i (matches s (same fold n) i g) refl
  matches-begin (seq a b) i x g st =
      after-begins (reads a x) (stays a x) (reads (seq a b) x) (stays (seq a b) x) i (matches s a i g) (λ (j, h). matches s b j h) (matches-begin a i x g st)
      (or-in_left (reads a x) (stays a x && reads b x))
      (λ m e y.
      weaken (reads b x) (stays b x) (reads (seq a b) x) (stays (seq a b) x) i (matches s b m.0 m.1)
      (λ z. or-in_right (reads a x) (stays a x && reads b x) (and-both (stays a x) (reads b x) y z))
      (λ z. and-both (stays a x) (stays b x) y z)
      (subst (λ (j : ℕ). AllBegin (reads b x) (stays b x) j (matches s b m.0 m.1)) e (matches-begin b m.0 x m.1 (subst (λ (j : ℕ). Start s j x) (sym e) st))))
  matches-begin (alt a b) i x g st =
      each-append (λ m. Begins (reads (alt a b) x) (stays (alt a b) x) i m.0) (matches s a i g) (matches s b i g)
      (weaken (reads a x) (stays a x) (reads (alt a b) x) (stays (alt a b) x) i (matches s a i g) (or-in_left (reads a x) (reads b x)) (or-in_left (stays a x) (stays b x)) (matches-begin a i x g st))
      (weaken (reads b x) (stays b x) (reads (alt a b) x) (stays (alt a b) x) i (matches s b i g) (or-in_right (reads a x) (reads b x)) (or-in_right (stays a x) (stays b x)) (matches-begin b i x g st))
  matches-begin (repeat greedy least most a) i x g st =
      loop-begins (matches s a) greedy (suc (length s - i)) least most i g (reads a x) (stays a x) (least == 0 || stays a x) (matches-begin a i x g st)
      (or-in_right (least == 0) (stays a x)) (or-in_left (least == 0) (stays a x))
  matches-begin (group n a) i x g st =
      each-map (λ m. Begins (reads a x) (stays a x) i m.0) (close n i) (matches s a i g) (matches-begin a i x g st)
  matches-begin (atomic a) i x g st = each-take (λ m. Begins (reads a x) (stays a x) i m.0) 1 (matches s a i g) (matches-begin a i x g st)
  matches-begin (ahead false a) i x g st = stay-begins (reads a x) (stays a x) i (matches s a i g) (matches-begin a i x g st)
  matches-begin (ahead true a) i x g st = look-begins true i g (matches s a i g)
  matches-begin (behind n a) i x g st = look-begins n i g (ending_here s (matches s a) i i g)

  none-begins : (r t : Bool) (i : ℕ) (ms : List Member) → (r || t) ≡ false → AllBegin r t i ms → ms ≡ []
  none-begins r t i [] h e = refl
  none-begins r t i (m ∷ ms) h e =
      let any : (r || t) ≡ true = elim e.0 [
        | inl y ↦ or-in_left r t y
        | inr z ↦ or-in_right r t z.1
      ] in
      let no : true ≡ false = sym any ∙ h in cc

  module _ (u : IsUtf8 s) (t : Tree) (i : ℕ) (e : (reads t (start_at s i) || stays t (start_at s i)) ≡ false) where
    -- no match begins where none can
    pub dead-at : IsCharBoundary s i → (g : Groups) → matches s t i g ≡ []
    dead-at b g = none-begins (reads t (start_at s i)) (stays t (start_at s i)) i (matches s t i g) e (matches-begin t i (start_at s i) g (start-is s u i b))

    pub found_at-nothing : found_at s t i ≡ None
    unfolding found_at
    found_at-nothing = go (is_boundary s i) refl
      where
        go : (b : Bool) → is_boundary s i ≡ b → (if b then option_map (λ (m : Member). m.1) (slice_get (matches s (group 0 t) i (unset s t)) 0) else None) ≡ None
        go true h = ap (λ (ms : List Member). option_map (λ (m : Member). m.1) (slice_get (map (close 0 i) ms) 0)) (dead-at (boundary-true s i h) (unset s t))
        go false h = refl

  -- no match begins where what it needs is absent
  pub found_at-absent : (u : IsUtf8 s) (t : Tree) (here next : ℕ → Bool) (i : ℕ) → Needs here next t → IsAbsent here next s i → found_at s t i ≡ None
  unfolding found_at
  found_at-absent u t here next i needs absent = go (is_boundary s i) refl
    where
      go : (c : Bool) → is_boundary s i ≡ c → (if c then option_map (λ (m : Member). m.1) (slice_get (matches s (group 0 t) i (unset s t)) 0) else None) ≡ None
      go true h = ap (λ (ms : List Member). option_map (λ (m : Member). m.1) (slice_get (map (close 0 i) ms) 0)) (needs s i (unset s t) u (boundary-true s i h) absent)
      go false h = refl
