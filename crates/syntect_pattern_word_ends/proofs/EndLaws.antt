-- Matches that begin in a run.
use Rattle.std.proofs.Common.{◌≡◌, ◌<◌, ◌≤◌, ◌==◌, ◌-◌, ◌+◌, ◌&&◌, ◌||◌, ◌⊎◌, inl, inr, ℕ, zero, suc, Bool, true, false, List, [], ◌∷◌, length, map, get_or, refl, sym, ◌∙◌, ap, subst, arith, Option, Some, None}
use Rattle.std.specs.Char.{len_utf8}
use Rattle.std.specs.Prelude.{slice_get, option_map, if◌then◌else◌, IsUtf8, IsCharBoundary}
use Rattle.std.specs.List.{flat_map}
use Rattle.std.proofs.lemmas.Bool.{cases_lt}
use Rattle.std.proofs.lemmas.Str.{IsCharBoundary-after_ascii, len_utf8_ascii}
use Rattle.syntect_pattern_word_ends.specs.syntect_pattern.Text.{char_at, is_boundary}
use Rattle.syntect_pattern_word_ends.specs.syntect_pattern.Sets.{Set, holds}
use Rattle.syntect_pattern_word_ends.specs.syntect_pattern.Trees.{Tree, nothing, one_of, anchor, same, seq, alt, repeat, group, atomic, ahead, behind}
use Rattle.syntect_pattern_word_ends.specs.syntect_pattern.Matches.{Groups, Member, Way, matches, turns, prefer, while_left, after_turn, only_if, past, close, anchor_holds, look, stay, ending_here, unset, found_at}
use Rattle.syntect_pattern_word_ends.proofs.syntect_pattern_proofs.Each.{Each, each_of, each-append, each-flat_map, each-map, each-take}
use Rattle.syntect_pattern_table.specs.Starts.{can_hold, start_at}
use Rattle.syntect_pattern_table.proofs.StartLaws.{Start, boundary-true, char_at-ascii, matches-begin, start-is}
use Rattle.syntect_pattern_word_ends.specs.Ends.{IsRunUpTo, ends, has_one, is_of, passes}
use Rattle.syntect_pattern_word_ends.proofs.WordLaws.{or-left, or-right, run-held, run-near}

and-both : (a b : Bool) → a ≡ true → b ≡ true → (a && b) ≡ true
and-both true b e h = h
and-both false b e h = cc

-- The places from i to e are those of a run, after which x stands.
module _ (blank : Bool) (s : List ℕ) (i e x : ℕ) (st : Start s e x) (word : IsRunUpTo blank s i e) where
  abbrev Inside : ℕ → Type 0
  Inside j = (i ≤ j) × (j ≤ e)

  -- a member goes on past the run where its tree can, or ends in it where it can do that
  abbrev Keeps : (r t : Bool) → Member → Type 0
  Keeps r t m = (r ≡ true) ⊎ (Inside m.0 × (t ≡ true))

  abbrev AllKeep : (r t : Bool) → List Member → Type 0
  AllKeep r t = Each (Keeps r t)

  if-keeps : (b : Bool) (j : ℕ) (g : Groups) (r t : Bool) → (b ≡ true → Keeps r t (j, g)) → AllKeep r t (only_if b j g)
  if-keeps true j g r t h = (h refl, tt)
  if-keeps false j g r t h = tt

  all-pass : (r t : Bool) (ms : List Member) → r ≡ true → AllKeep r t ms
  all-pass r t [] h = tt
  all-pass r t (m ∷ ms) h = (inl h, all-pass r t ms h)

  weaken : (r t r' t' : Bool) (ms : List Member) → (r ≡ true → r' ≡ true) → (t ≡ true → t' ≡ true) → AllKeep r t ms → AllKeep r' t' ms
  weaken r t r' t' ms f g h = each_of (Keeps r t) (Keeps r' t') ms (λ m k. elim k [
    | inl y ↦ inl (f y)
    | inr z ↦ inr (z.0, g z.1)
  ]) h

  -- one character of the run, or the one after it
  char-keeps : (a : Set) (j : ℕ) (g : Groups) (c : ℕ) → char_at s j ≡ Some c → is_of blank c ≡ true → i ≤ j → j < e → AllKeep (can_hold a x) (has_one blank a) (past (holds a) (char_at s j) j g)
  char-keeps a j g c at is l h =
      subst (λ (o : Option ℕ). AllKeep (can_hold a x) (has_one blank a) (past (holds a) o j g)) (sym at)
      (if-keeps (holds a c) (j + len_utf8 c) g (can_hold a x) (has_one blank a)
      (λ y. let one : len_utf8 c ≡ 1 = len_utf8_ascii c (run-near blank c is) in
      inr ((omega (arith, l), omega (arith, h, one)), run-held blank a c is y)))

  behind-keeps : (a : Set) (j : ℕ) (g : Groups) → j ≡ e → AllKeep (can_hold a x) (has_one blank a) (past (holds a) (char_at s j) j g)
  behind-keeps a j g is =
      subst (λ (k : ℕ). AllKeep (can_hold a x) (has_one blank a) (past (holds a) (char_at s k) k g)) (sym is)
      (each_of (λ (m : Member). (can_hold a x ≡ true) ⊎ ((m.0 ≡ e) × (false ≡ true))) (Keeps (can_hold a x) (has_one blank a)) (past (holds a) (char_at s e) e g)
      (λ m k. elim k [
        | inl y ↦ inl y
        | inr z ↦ (let no : false ≡ true = z.1 in cc)
      ]) (matches-begin s (one_of a) e x g st))

  one-keeps : (a : Set) (j : ℕ) (g : Groups) → Inside j → AllKeep (can_hold a x) (has_one blank a) (past (holds a) (char_at s j) j g)
  one-keeps a j g l = elim (cases_lt j e) [
    | inl h ↦
        (let is : is_of blank (get_or s j 0) ≡ true = word.chars j l.0 h in
        let short : j < length s = omega (arith, h, word.within) in
        char-keeps a j g (get_or s j 0) (char_at-ascii s j short (run-near blank (get_or s j 0) is)) is l.0 h)
    | inr h ↦ behind-keeps a j g (omega (arith, h, l.1))
  ]

  -- the first list's members, and then those of a way from each
  after-keeps : (r t r' t' : Bool) (ms : List Member) (f : Member → List Member)
      → AllKeep r t ms → (r ≡ true → r' ≡ true) → ((m : Member) → Inside m.0 → t ≡ true → AllKeep r' t' (f m)) → AllKeep r' t' (flat_map f ms)
  after-keeps r t r' t' ms f h p k =
      each-flat_map (Keeps r' t') f ms
      (each_of (Keeps r t) (λ m. AllKeep r' t' (f m)) ms (λ m b. elim b [
        | inl y ↦ all-pass r' t' (f m) (p y)
        | inr z ↦ k m z.0 z.1
      ]) h)

  prefer-keeps : (greedy : Bool) (r t : Bool) (more leave : List Member) → AllKeep r t more → AllKeep r t leave → AllKeep r t (prefer greedy more leave)
  prefer-keeps true r t more leave h k = each-append (Keeps r t) more leave h k
  prefer-keeps false r t more leave h k = each-append (Keeps r t) leave more k h

  while-keeps : (most : Option ℕ) (turn : Way) (r t : Bool) (j : ℕ) (g : Groups) → AllKeep r t (turn j g) → AllKeep r t (while_left most turn j g)
  while-keeps None turn r t j g h = h
  while-keeps (Some zero) turn r t j g h = tt
  while-keeps (Some (suc n)) turn r t j g h = h

  -- a turn that reads nothing leaves the loop, and after another one the loop goes on
  turn-keeps : (b : Bool) (more : Way) (r t : Bool) (m : Member) → Inside m.0 → t ≡ true → AllKeep r t (more m.0 m.1) → AllKeep r t (after_turn b more m.0 m.1)
  turn-keeps true more r t m l y h = (inr (l, y), tt)
  turn-keeps false more r t m l y h = h

  loop-keeps : (body : Way) (r t t' : Bool) → ((j : ℕ) (g : Groups) → Inside j → AllKeep r t (body j g)) → (t ≡ true → t' ≡ true)
      → (greedy : Bool) (n least : ℕ) (most : Option ℕ) (j : ℕ) (g : Groups) → Inside j → ((least == 0) ≡ true → t' ≡ true) → AllKeep r t' (turns body greedy n least most j g)
  loop-keeps body r t t' h f greedy zero least most j g l none = tt
  loop-keeps body r t t' h f greedy (suc n) least most j g l none =
      let less : Option ℕ = option_map (λ k. k - 1) most in
      let more : Way = turns body greedy n (least - 1) less in
      prefer-keeps greedy r t' _ (only_if (least == 0) j g)
      (while-keeps most (λ j' g'. flat_map (λ (k, q). after_turn (k == j') more k q) (body j' g')) r t' j g
      (after-keeps r t r t' (body j g) (λ (k, q). after_turn (k == j) more k q) (h j g l) (λ y. y)
      (λ m p y. turn-keeps (m.0 == j) more r t' m p (f y) (loop-keeps body r t t' h f greedy n (least - 1) less m.0 m.1 p (λ z. f y)))))
      (if-keeps (least == 0) j g r t' (λ y. inr (l, none y)))

  -- what a lookahead finds
  stay-keeps : (r t : Bool) (j : ℕ) (ms : List Member) → Inside j → AllKeep r t ms → AllKeep false (r || t) (stay j ms)
  stay-keeps r t j [] l h = tt
  stay-keeps r t j (m ∷ ms) l h = elim h.0 [
    | inl y ↦ (inr (l, or-left r t y), tt)
    | inr z ↦ (inr (l, or-right r t z.1), tt)
  ]

  look-keeps : (n : Bool) (j : ℕ) (g : Groups) (ms : List Member) → Inside j → AllKeep false true (look n j g ms)
  look-keeps false j g [] l = tt
  look-keeps false j g (m ∷ ms) l = (inr (l, refl), tt)
  look-keeps true j g [] l = (inr (l, refl), tt)
  look-keeps true j g (m ∷ ms) l = tt

  matches-keep : (t : Tree) (j : ℕ) (g : Groups) → Inside j → AllKeep (passes blank t x) (ends blank t x) (matches s t j g)
  matches-keep nothing j g l = (inr (l, refl), tt)
  matches-keep (one_of a) j g l = one-keeps a j g l
  matches-keep (anchor a) j g l = if-keeps (anchor_holds s a j) j g false true (λ y. inr (l, refl))
  matches-keep (same fold n) j g l = all-pass true true (matches s (same fold n) j g) refl
  matches-keep (seq a b) j g l =
      after-keeps (passes blank a x) (ends blank a x) (passes blank (seq a b) x) (ends blank (seq a b) x) (matches s a j g) (λ (k, h). matches s b k h) (matches-keep a j g l)
      (or-left (passes blank a x) (ends blank a x && passes blank b x))
      (λ m p y. weaken (passes blank b x) (ends blank b x) (passes blank (seq a b) x) (ends blank (seq a b) x) (matches s b m.0 m.1)
      (λ z. or-right (passes blank a x) (ends blank a x && passes blank b x) (and-both (ends blank a x) (passes blank b x) y z))
      (λ z. and-both (ends blank a x) (ends blank b x) y z)
      (matches-keep b m.0 m.1 p))
  matches-keep (alt a b) j g l =
      each-append (Keeps (passes blank (alt a b) x) (ends blank (alt a b) x)) (matches s a j g) (matches s b j g)
      (weaken (passes blank a x) (ends blank a x) (passes blank (alt a b) x) (ends blank (alt a b) x) (matches s a j g) (or-left (passes blank a x) (passes blank b x)) (or-left (ends blank a x) (ends blank b x)) (matches-keep a j g l))
      (weaken (passes blank b x) (ends blank b x) (passes blank (alt a b) x) (ends blank (alt a b) x) (matches s b j g) (or-right (passes blank a x) (passes blank b x)) (or-right (ends blank a x) (ends blank b x)) (matches-keep b j g l))
  matches-keep (repeat greedy least most a) j g l =
      loop-keeps (matches s a) (passes blank a x) (ends blank a x) (least == 0 || ends blank a x) (λ k h p. matches-keep a k h p)
      (or-right (least == 0) (ends blank a x)) greedy (suc (length s - j)) least most j g l (or-left (least == 0) (ends blank a x))
  matches-keep (group n a) j g l = each-map (Keeps (passes blank a x) (ends blank a x)) (close n j) (matches s a j g) (matches-keep a j g l)
  matches-keep (atomic a) j g l = each-take (Keeps (passes blank a x) (ends blank a x)) 1 (matches s a j g) (matches-keep a j g l)
  matches-keep (ahead false a) j g l = stay-keeps (passes blank a x) (ends blank a x) j (matches s a j g) l (matches-keep a j g l)
  matches-keep (ahead true a) j g l = look-keeps true j g (matches s a j g) l
  matches-keep (behind n a) j g l = look-keeps n j g (ending_here s (matches s a) j j g) l

  none-keeps : (r t : Bool) (ms : List Member) → (r || t) ≡ false → AllKeep r t ms → ms ≡ []
  none-keeps r t [] h k = refl
  none-keeps r t (m ∷ ms) h k =
      let any : (r || t) ≡ true = elim k.0 [
        | inl y ↦ or-left r t y
        | inr z ↦ or-right r t z.1
      ] in
      let no : true ≡ false = sym any ∙ h in cc

  no-match : (t : Tree) (g : Groups) → (passes blank t x || ends blank t x) ≡ false → matches s t i g ≡ []
  no-match t g h = none-keeps (passes blank t x) (ends blank t x) (matches s t i g) h (matches-keep t i g (omega arith, word.order))

-- a run's end is a boundary of characters where its begin is
run-boundary : (blank : Bool) (s : List ℕ) → IsUtf8 s → (i e : ℕ) → IsCharBoundary s i → IsRunUpTo blank s i e → IsCharBoundary s e
run-boundary blank s u i e b word = elim (cases_lt i e) [
  | inl h ↦
      (let last : is_of blank (get_or s (e - 1) 0) ≡ true = word.chars (e - 1) (omega (arith, h)) (omega (arith, h)) in
      subst (IsCharBoundary s) (let is : e - 1 + 1 ≡ e = omega (arith, h) in is)
      (IsCharBoundary-after_ascii s (e - 1) u (omega (arith, h, word.within)) (run-near blank (get_or s (e - 1) 0) last)))
  | inr h ↦ subst (IsCharBoundary s) (let is : i ≡ e = omega (arith, h, word.order) in is) b
]

-- no match begins in a run after which something stands that it can't have there
pub none-in_run : (blank : Bool) (s : List ℕ) → IsUtf8 s → (t : Tree) (i e : ℕ) → IsRunUpTo blank s i e → (passes blank t (start_at s e) || ends blank t (start_at s e)) ≡ false → found_at s t i ≡ None
unfolding found_at
none-in_run blank s u t i e word h = go (is_boundary s i) refl
  where
    go : (c : Bool) → is_boundary s i ≡ c → (if c then option_map (λ (m : Member). m.1) (slice_get (matches s (group 0 t) i (unset s t)) 0) else None) ≡ None
    go true b = ap (λ (ms : List Member). option_map (λ (m : Member). m.1) (slice_get (map (close 0 i) ms) 0))
        (no-match blank s i e (start_at s e) (start-is s u e (run-boundary blank s u i e (boundary-true s i b) word)) word t (unset s t) h)
    go false b = refl
