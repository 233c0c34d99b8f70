-- Where the parts of a tree go on.
use Rattle.std.proofs.Common.{◌≡◌, ◌⊎◌, inl, inr, ℕ, zero, suc, ◌+◌, ◌-◌, ◌≤◌, ◌<◌, List, [], ◌∷◌, length, map, take, Bool, true, false, Option, Some, None, refl, sym, ap, subst, ◌∙◌, arith}
use Rattle.std.specs.Prelude.{not, if◌then◌else◌, ◌==◌, is_some, option_map, option_and_then, IsUtf8, IsCharBoundary}
use Rattle.std.specs.List.{flat_map}
use Rattle.std.specs.Option.{option_or}
use Rattle.std.specs.Char.{len_utf8}
use Rattle.syntect_pattern_plan.specs.syntect_pattern.Text.{char_at}
use Rattle.syntect_pattern_plan.specs.syntect_pattern.Sets.{Set, holds}
use Rattle.syntect_pattern_plan.specs.syntect_pattern.Trees.{Tree, nothing, one_of, anchor, seq, alt, repeat, group, atomic, ahead}
use Rattle.syntect_pattern_plan.specs.syntect_pattern.declared.anchor.Anchor.{Anchor}
use Rattle.syntect_pattern_plan.specs.syntect_pattern.Matches.{Groups, Member, Way, only_if, past, prefer, while_left, after_turn, turns, look, close, anchor_holds, matches}
use Rattle.syntect_pattern_plan.proofs.syntect_pattern_proofs.Each.{Each}
use Rattle.syntect_pattern_plan.proofs.syntect_pattern_proofs.TurnLaws.{matches-forward, turns_enough}
use Rattle.syntect_pattern_steps.specs.Steps.{after_char}
use Rattle.syntect_pattern_plan.specs.Onward.{Onward, reaches, moved, is_free, reads, onward, prefer_end, turn_end, end_if}
use Rattle.syntect_pattern_plan.proofs.ReachLaws.{EachReaches, reaches-append, reaches-ends, reaches-flat_map, reaches-alike}
use Rattle.syntect_pattern_plan.proofs.TreeLaws.{free-turn, ends-matches, behind-matches}

or-none : {A : Type 0} (o : Option A) → option_or o None ≡ o
or-none None = refl
or-none (Some x) = refl

pub same-place : (i : ℕ) → (i == i) ≡ true
same-place i = grind arith

pub other-place : (i j : ℕ) → i < j → (j == i) ≡ false
other-place i j l = grind arith

pub moved-at : (i : ℕ) (f g : Onward) → moved i f g i ≡ f i
moved-at i f g = ap (λ (b : Bool). if b then f i else g i) (same-place i)

pub moved-past : (i j : ℕ) (f g : Onward) → i < j → moved i f g j ≡ g j
moved-past i j f g l = ap (λ (b : Bool). if b then f j else g j) (other-place i j l)

if-same : (b : Bool) (o : Option ℕ) → (if b then o else o) ≡ o
if-same true o = refl
if-same false o = refl

pub moved-same : (i j : ℕ) (f : Onward) → moved i f f j ≡ f j
moved-same i j f = if-same (j == i) (f j)

-- at the place or after it
pub at-or-past : (i j : ℕ) → i ≤ j → ((j ≡ i) ⊎ (i < j))
at-or-past i j l = grind arith

only-end : (b : Bool) (F : Onward) (j : ℕ) (g : Groups) → reaches F (only_if b j g) ≡ end_if b (F j)
only-end true F j g = or-none (F j)
only-end false F j g = refl

past-end : (test : ℕ → Bool) (o : Option ℕ) (F : Onward) (i : ℕ) (g : Groups) → reaches F (past test o i g) ≡ option_and_then F (after_char test o i)
past-end test None F i g = refl
past-end test (Some c) F i g = by (test c)
  where
    by : (b : Bool) → reaches F (only_if b (i + len_utf8 c) g) ≡ option_and_then F (if b then Some (i + len_utf8 c) else None)
    by true = or-none (F (i + len_utf8 c))
    by false = refl

take-end : (F : Onward) (ms : List Member) → reaches F (take 1 ms) ≡ option_and_then F (reaches (λ j. Some j) ms)
take-end F [] = refl
take-end F (m ∷ ms) = or-none (F m.0)

close-end : (F : Onward) (n i : ℕ) (ms : List Member) → reaches F (map (close n i) ms) ≡ reaches F ms
close-end F n i [] = refl
close-end F n i (m ∷ ms) = ap (option_or (F m.0)) (close-end F n i ms)

pub look-end : (negated : Bool) (F : Onward) (i : ℕ) (g : Groups) (ms : List Member)
    → reaches F (look negated i g ms) ≡ end_if (if negated then not (is_some (reaches (λ j. Some j) ms)) else is_some (reaches (λ j. Some j) ms)) (F i)
look-end false F i g [] = refl
look-end false F i g (m ∷ ms) = or-none (F i)
look-end true F i g [] = or-none (F i)
look-end true F i g (m ∷ ms) = refl

prefer-end : (greedy : Bool) (F : Onward) (xs ys : List Member) → reaches F (prefer greedy xs ys) ≡ prefer_end greedy (reaches F xs) (reaches F ys)
prefer-end true F xs ys = reaches-append F xs ys
prefer-end false F xs ys = reaches-append F ys xs

while-end : (most : Option ℕ) (F : Onward) (turn : Way) (i : ℕ) (g : Groups) → reaches F (while_left most turn i g) ≡ turn_end most (reaches F (turn i g))
while-end None F turn i g = refl
while-end (Some zero) F turn i g = refl
while-end (Some (suc n)) F turn i g = refl

turn-end : (b : Bool) (F : Onward) (more : Way) (j : ℕ) (g : Groups) → reaches F (after_turn b more j g) ≡ (if b then F j else reaches F (more j g))
turn-end true F more j g = or-none (F j)
turn-end false F more j g = refl

module _ (s : List ℕ) where
  pub onward-nothing : (F : Onward) (i : ℕ) → onward s nothing F i ≡ F i
  unfolding onward
  onward-nothing F i = or-none (F i)

  pub onward-one_of : (a : Set) (F : Onward) (i : ℕ) → onward s (one_of a) F i ≡ option_and_then F (after_char (holds a) (char_at s i) i)
  unfolding onward
  onward-one_of a F i = past-end (holds a) (char_at s i) F i []

  pub onward-anchor : (a : Anchor) (F : Onward) (i : ℕ) → onward s (anchor a) F i ≡ end_if (anchor_holds s a i) (F i)
  unfolding onward
  onward-anchor a F i = only-end (anchor_holds s a i) F i []

  pub onward-alt : (a b : Tree) (F : Onward) (i : ℕ) → onward s (alt a b) F i ≡ option_or (onward s a F i) (onward s b F i)
  unfolding onward
  onward-alt a b F i = reaches-append F (matches s a i []) (matches s b i [])

  pub onward-group : (n : ℕ) (a : Tree) (F : Onward) (i : ℕ) → onward s (group n a) F i ≡ onward s a F i
  unfolding onward
  onward-group n a F i = close-end F n i (matches s a i [])

  pub onward-atomic : (a : Tree) (F : Onward) (i : ℕ) → onward s (atomic a) F i ≡ option_and_then F (onward s a (λ j. Some j) i)
  unfolding onward
  onward-atomic a F i = take-end F (matches s a i [])

  pub onward-ahead : (negated : Bool) (a : Tree) (F : Onward) (i : ℕ)
      → onward s (ahead negated a) F i ≡ end_if (if negated then not (is_some (onward s a (λ j. Some j) i)) else is_some (onward s a (λ j. Some j) i)) (F i)
  unfolding onward
  onward-ahead negated a F i = look-end negated F i [] (matches s a i [])

  module _ (u : IsUtf8 s) where
    abbrev pub Ahead : ℕ → Member → Type 0
    Ahead i m = (i ≤ m.0) × IsCharBoundary s m.0

    -- what goes on counts from the place on alone
    pub onward-alike : (t : Tree) (F G : Onward) (i : ℕ) → IsCharBoundary s i → ((j : ℕ) → i ≤ j → IsCharBoundary s j → F j ≡ G j) → onward s t F i ≡ onward s t G i
    unfolding onward
    onward-alike t F G i c h = reaches-alike (Ahead i) F G (matches s t i []) (matches-forward s u t i [] c) (λ m p. h m.0 p.0 p.1)

    -- where a tree always reads, only what goes on after the place counts
    pub onward-reads : (t : Tree) (f f' g : Onward) (i : ℕ) → reads t ≡ true → IsCharBoundary s i → onward s t (moved i f g) i ≡ onward s t (moved i f' g) i
    unfolding onward
    onward-reads t f f' g i r c =
        reaches-alike (λ m. i < m.0) (moved i f g) (moved i f' g) (matches s t i []) (behind-matches s u t r i [] c)
        (λ m l. moved-past i m.0 f g l ∙ sym (moved-past i m.0 f' g l))

    -- the groups don't count
    pub leads : (t : Tree) → is_free t ≡ true → (F : Onward) (P : Member → Type 0) → EachReaches P F (λ m. matches s t m.0 m.1) (onward s t F)
    unfolding onward
    leads t e F P m p = reaches-ends F _ _ (ends-matches s t e m.0 m.1 [])

    pub onward-then : (a b : Tree) → is_free b ≡ true → (F : Onward) (i : ℕ) → IsCharBoundary s i → onward s (seq a b) F i ≡ onward s a (onward s b F) i
    unfolding onward
    onward-then a b e F i c =
        reaches-flat_map (Ahead i) F (onward s b F) (λ m. matches s b m.0 m.1) (matches s a i []) (matches-forward s u a i [] c) (leads b e F (Ahead i))

    -- what follows the first part, at the place and after it
    abbrev pub following : Tree → Onward → Onward → Onward
    following b f g j = onward s b (moved j f g) j

    pub then-moved : (b : Tree) (f g : Onward) (i j : ℕ) → i ≤ j → IsCharBoundary s j → onward s b (moved i f g) j ≡ moved i (following b f g) (following b g g) j
    then-moved b f g i j l c =
        elim (at-or-past i j l) [
          | inl e ↦
              let P : ℕ → Type 0 = λ k. onward s b (moved i f g) k ≡ moved i (following b f g) (following b g g) k in
              subst P (sym e) (sym (moved-at i (following b f g) (following b g g)))
          | inr m ↦
              onward-alike b (moved i f g) (moved j g g) j c
              (λ k p d. moved-past i k f g (omega (arith, m, p)) ∙ sym (moved-same j k g))
              ∙ sym (moved-past i j (following b f g) (following b g g) m)
        ]

    pub onward-seq : (a b : Tree) → is_free b ≡ true → (f g : Onward) (i : ℕ) → IsCharBoundary s i
        → onward s (seq a b) (moved i f g) i ≡ onward s a (moved i (following b f g) (following b g g)) i
    onward-seq a b e f g i c =
        onward-then a b e (moved i f g) i c
        ∙ onward-alike a (onward s b (moved i f g)) (moved i (following b f g) (following b g g)) i c (λ j l d. then-moved b f g i j l d)

    -- a turn more, from just after the place
    pub turn-room : (greedy : Bool) (least : ℕ) (most : Option ℕ) (a : Tree) (i j : ℕ) (h : Groups) → IsCharBoundary s j → i < j
        → turns (matches s a) greedy (length s - i) least most j h ≡ matches s (repeat greedy least most a) j h
    turn-room greedy least most a i j h c l =
        let inside = c.0 in
        turns_enough s a greedy (length s - i) (suc (length s - j)) least most j h u c (omega (arith, l, inside)) (omega arith)

    pub turn-leads : (greedy : Bool) (least : ℕ) (most : Option ℕ) (a : Tree) → is_free (repeat greedy least most a) ≡ true → (F : Onward) (i : ℕ)
        → EachReaches (Ahead i) F (λ m. after_turn (m.0 == i) (turns (matches s a) greedy (length s - i) least most) m.0 m.1) (moved i F (onward s (repeat greedy least most a) F))
    unfolding onward
    turn-leads greedy least most a e F i m p =
        turn-end (m.0 == i) F _ m.0 m.1
        ∙ elim (at-or-past i m.0 p.0) [
          | inl q ↦ by-true q
          | inr l ↦ by-false l
        ]
      where
        by-true : m.0 ≡ i → (if m.0 == i then F m.0 else reaches F (turns (matches s a) greedy (length s - i) least most m.0 m.1)) ≡ moved i F (onward s (repeat greedy least most a) F) m.0
        by-true q = rw (q, same-place i) refl

        by-false : i < m.0 → (if m.0 == i then F m.0 else reaches F (turns (matches s a) greedy (length s - i) least most m.0 m.1)) ≡ moved i F (onward s (repeat greedy least most a) F) m.0
        by-false l =
            ap (λ (b : Bool). if b then F m.0 else reaches F (turns (matches s a) greedy (length s - i) least most m.0 m.1)) (other-place i m.0 l)
            ∙ ap (reaches F) (turn-room greedy least most a i m.0 m.1 p.1 l)
            ∙ leads (repeat greedy least most a) e F (Ahead i) m p
            ∙ sym (moved-past i m.0 F (onward s (repeat greedy least most a) F) l)

    turn-part : (greedy : Bool) (least : ℕ) (most : Option ℕ) (a : Tree) → is_free (repeat greedy least most a) ≡ true → (F : Onward) (i : ℕ) → IsCharBoundary s i
        → onward s (repeat greedy least most a) F i
        ≡ prefer_end greedy (turn_end most (onward s a (moved i F (onward s (repeat greedy (least - 1) (option_map (λ k. k - 1) most) a) F)) i)) (end_if (least == 0) (F i))
    unfolding onward
    turn-part greedy least most a e F i c =
        let less : Option ℕ = option_map (λ k. k - 1) most in
        let body : Way = λ j h. flat_map (λ (k, l). after_turn (k == j) (turns (matches s a) greedy (length s - i) (least - 1) less) k l) (matches s a j h) in
        prefer-end greedy F (while_left most body i []) (only_if (least == 0) i [])
        ∙ ap (λ (o : Option ℕ). prefer_end greedy o (reaches F (only_if (least == 0) i [])))
        (while-end most F body i []
        ∙ ap (turn_end most)
        (reaches-flat_map (Ahead i) F (moved i F (onward s (repeat greedy (least - 1) less a) F)) _ (matches s a i []) (matches-forward s u a i [] c)
        (turn-leads greedy (least - 1) less a (free-turn greedy least (least - 1) most a e) F i)))
        ∙ ap (prefer_end greedy _) (only-end (least == 0) F i [])

    pub turn-moved : (t : Tree) (f g : Onward) (i j : ℕ) → i ≤ j → IsCharBoundary s j → moved i (moved i f g) (onward s t (moved i f g)) j ≡ moved i f (following t g g) j
    turn-moved t f g i j l d =
        elim (at-or-past i j l) [
          | inl q ↦
              let P : ℕ → Type 0 = λ k. moved i (moved i f g) (onward s t (moved i f g)) k ≡ moved i f (following t g g) k in
              subst P (sym q) (moved-at i (moved i f g) (onward s t (moved i f g)) ∙ moved-at i f g ∙ sym (moved-at i f (following t g g)))
          | inr m ↦
              moved-past i j (moved i f g) (onward s t (moved i f g)) m
              ∙ then-moved t f g i j l d
              ∙ moved-past i j (following t f g) (following t g g) m
              ∙ sym (moved-past i j f (following t g g) m)
        ]

    -- a loop: a turn that reads nothing leaves it
    pub onward-repeat : (greedy : Bool) (least : ℕ) (most : Option ℕ) (a : Tree) → is_free (repeat greedy least most a) ≡ true → (f g : Onward) (i : ℕ) → IsCharBoundary s i
        → onward s (repeat greedy least most a) (moved i f g) i
        ≡ prefer_end greedy (turn_end most (onward s a (moved i f (following (repeat greedy (least - 1) (option_map (λ k. k - 1) most) a) g g)) i)) (end_if (least == 0) (f i))
    onward-repeat greedy least most a e f g i c =
        let t : Tree = repeat greedy (least - 1) (option_map (λ k. k - 1) most) a in
        turn-part greedy least most a e (moved i f g) i c
        ∙ ap (λ (o : Option ℕ). prefer_end greedy (turn_end most o) (end_if (least == 0) (moved i f g i)))
        (onward-alike a (moved i (moved i f g) (onward s t (moved i f g))) (moved i f (following t g g)) i c (λ j l d. turn-moved t f g i j l d))
        ∙ ap (λ (o : Option ℕ). prefer_end greedy (turn_end most (onward s a (moved i f (following t g g)) i)) (end_if (least == 0) o)) (moved-at i f g)

    each-first : (P : Member → Type 0) (ms : List Member) (e : ℕ) → Each P ms → reaches (λ j. Some j) ms ≡ Some e → (g : Groups) × P (e, g)
    each-first P [] e h q = absurd cc
    each-first P (m ∷ ms) e h q =
        let same : m.0 ≡ e = let z : Some m.0 ≡ Some e = q in cc in
        let Q : ℕ → Type 0 = λ j. P (j, m.1) in
        (m.1, subst Q same h.0)

    -- where the first match of a part ends
    pub first-ends : (t : Tree) (i e : ℕ) → IsCharBoundary s i → onward s t (λ j. Some j) i ≡ Some e → (i ≤ e) × IsCharBoundary s e
    unfolding onward
    first-ends t i e c q = (each-first (Ahead i) (matches s t i []) e (matches-forward s u t i [] c) q).1

    pub first-behind : (t : Tree) (i e : ℕ) → IsCharBoundary s i → reads t ≡ true → onward s t (λ j. Some j) i ≡ Some e → i < e
    unfolding onward
    first-behind t i e c r q = (each-first (λ m. i < m.0) (matches s t i []) e (behind-matches s u t r i [] c) q).1
