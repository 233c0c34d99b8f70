-- The member that is chosen of a tree's matches.
use Rattle.std.proofs.Common.{◌≡◌, ◌⊎◌, inl, inr, ℕ, zero, suc, ◌+◌, ◌-◌, ◌≤◌, ◌<◌, List, [], ◌∷◌, ◌++◌, length, map, take, Bool, true, false, Option, Some, None, refl, sym, ap, ◌∙◌, arith}
use Rattle.std.specs.Prelude.{if◌then◌else◌, ◌==◌, is_some, option_map, IsUtf8, IsCharBoundary}
use Rattle.std.specs.List.{flat_map}
use Rattle.std.specs.Option.{option_or}
use Rattle.std.specs.Char.{len_utf8}
use Rattle.syntect_pattern_linear.specs.syntect_pattern.Trees.{Tree, seq, repeat}
use Rattle.syntect_pattern_linear.specs.syntect_pattern.Matches.{Groups, Member, Way, only_if, past, prefer, while_left, after_turn, turns, look, close, matches}
use Rattle.syntect_pattern_linear.proofs.syntect_pattern_proofs.Each.{Each}
use Rattle.syntect_pattern_linear.proofs.syntect_pattern_proofs.TurnLaws.{matches-forward}
use Rattle.syntect_pattern_linear.specs.syntect_pattern_steps.Steps.{after_char}
use Rattle.syntect_pattern_plan.specs.Onward.{Onward, reaches, chosen, moved, is_free, reads, onward, turn_end, end_if}
use Rattle.syntect_pattern_plan.proofs.ReachLaws.{chosen-append, some-chosen, reaches-ends, reaches-flat_map, chosen-flat_map, chosen-alike}
use Rattle.syntect_pattern_plan.proofs.TreeLaws.{and_left, free-turn, ends-matches, behind-matches}
use Rattle.syntect_pattern_plan.proofs.OnwardLaws.{moved-at, moved-past, moved-same, Ahead, following, then-moved, turn-moved, leads, same-place, other-place, onward-alike, turn-leads, turn-room}
use Rattle.syntect_pattern_plan.proofs.ChosenLaws.{chosen-leads}

-- the match is the one that is chosen of these
abbrev pub Chooses : Onward → List Member → Member → Type 0
Chooses F ms m = chosen F ms ≡ Some m

some-is : (o : Option ℕ) → is_some o ≡ true → (v : ℕ) × (o ≡ Some v)
some-is None e = absurd cc
some-is (Some v) e = (v, refl)

-- one member
pub chosen-one : (F : Onward) (i : ℕ) (g : Groups) → is_some (F i) ≡ true → chosen F ((i, g) ∷ []) ≡ Some (i, g)
chosen-one F i g e = rw e refl

pub chosen-past : (test : ℕ → Bool) (o : Option ℕ) (F : Onward) (i j : ℕ) (g : Groups) → after_char test o i ≡ Some j → is_some (F j) ≡ true → chosen F (past test o i g) ≡ Some (j, g)
chosen-past test None F i j g e h = absurd cc
chosen-past test (Some c) F i j g e h = by (test c) e
  where
    by : (b : Bool) → (if b then Some (i + len_utf8 c) else None) ≡ Some j → chosen F (only_if b (i + len_utf8 c) g) ≡ Some (j, g)
    by true e = let same : i + len_utf8 c ≡ j = cc in rw same (chosen-one F j g h)
    by false e = absurd cc

pub chosen-close : (F : Onward) (n i : ℕ) (ms : List Member) → chosen F (map (close n i) ms) ≡ option_map (close n i) (chosen F ms)
chosen-close F n i [] = refl
chosen-close F n i (m ∷ ms) = ap (λ (o : Option Member). if is_some (F m.0) then Some (close n i m) else o) (chosen-close F n i ms) ∙ by (is_some (F m.0))
  where
    by : (b : Bool) → (if b then Some (close n i m) else option_map (close n i) (chosen F ms)) ≡ option_map (close n i) (if b then Some m else chosen F ms)
    by true = refl
    by false = refl

-- the first member leads on
pub chosen-first : (F : Onward) (ms : List Member) (m : Member) → chosen (λ j. Some j) ms ≡ Some m → is_some (F m.0) ≡ true → chosen F (take 1 ms) ≡ Some m
chosen-first F [] m e h = cc
chosen-first F (x ∷ ms) m e h = let same : x ≡ m = cc in rw same (chosen-one F m.0 m.1 h)

pub chosen-stay : (F : Onward) (i : ℕ) (g : Groups) (ms : List Member) (m : Member) → chosen (λ j. Some j) ms ≡ Some m → is_some (F i) ≡ true → chosen F (look false i g ms) ≡ Some (i, m.1)
chosen-stay F i g [] m e h = cc
chosen-stay F i g (x ∷ ms) m e h = let same : x ≡ m = cc in rw same (chosen-one F i m.1 h)

-- -- Ways that keep the groups and the place

pub stays-look : (negated : Bool) (i : ℕ) (g : Groups) (ms : List Member) → Each (λ m. m.0 ≡ i) (look negated i g ms)
stays-look false i g [] = tt
stays-look false i g (m ∷ ms) = (refl, tt)
stays-look true i g [] = (refl, tt)
stays-look true i g (m ∷ ms) = tt

pub chosen-stays : (F : Onward) (i : ℕ) (g : Groups) (ms : List Member) → Each (λ m. m.0 ≡ i) ms → Each (λ m. m.1 ≡ g) ms
    → is_some (reaches F ms) ≡ true → chosen F ms ≡ Some (i, g)
chosen-stays F i g [] a b e = absurd cc
chosen-stays F i g (m ∷ ms) a b e = by (chosen-stays F i g ms a.1 b.1) (F m.0) refl e
  where
    by : (is_some (reaches F ms) ≡ true → chosen F ms ≡ Some (i, g)) → (o : Option ℕ) → F m.0 ≡ o → is_some (option_or o (reaches F ms)) ≡ true → (if is_some o then Some m else chosen F ms) ≡ Some (i, g)
    by more None f e = more e
    by more (Some v) f e = ap (λ (j : ℕ). Some (j, m.1)) a.0 ∙ ap (λ (h : Groups). Some (i, h)) b.0

-- -- Preferences

or-some : {A : Type 0} (o p : Option A) → is_some o ≡ true → option_or o p ≡ o
or-some None p e = cc
or-some (Some x) p e = refl

is-none : {A : Type 0} (o : Option A) → is_some o ≡ false → o ≡ None
is-none None e = refl
is-none (Some x) e = cc

pub first-chosen : (F : Onward) (xs ys : List Member) → is_some (reaches F xs) ≡ true → chosen F (xs ++ ys) ≡ chosen F xs
first-chosen F xs ys e = chosen-append F xs ys ∙ or-some (chosen F xs) (chosen F ys) (sym (some-chosen F xs) ∙ e)

pub second-chosen : (F : Onward) (xs ys : List Member) → is_some (reaches F xs) ≡ false → chosen F (xs ++ ys) ≡ chosen F ys
second-chosen F xs ys e =
    chosen-append F xs ys ∙ ap (λ (o : Option Member). option_or o (chosen F ys)) (is-none (chosen F xs) (sym (some-chosen F xs) ∙ e))

-- the one list is preferred, or the other one leads nowhere
prefers-more : (F : Onward) (greedy : Bool) (xs ys : List Member) → is_some (reaches F xs) ≡ true → (greedy ≡ true) ⊎ (is_some (reaches F ys) ≡ false)
    → chosen F (prefer greedy xs ys) ≡ chosen F xs
prefers-more F true xs ys e h = first-chosen F xs ys e
prefers-more F false xs ys e (inl h) = cc
prefers-more F false xs ys e (inr h) = second-chosen F ys xs h

prefers-leave : (F : Onward) (greedy : Bool) (xs ys : List Member) → is_some (reaches F ys) ≡ true → (greedy ≡ false) ⊎ (is_some (reaches F xs) ≡ false)
    → chosen F (prefer greedy xs ys) ≡ chosen F ys
prefers-leave F false xs ys e h = first-chosen F ys xs e
prefers-leave F true xs ys e (inl h) = cc
prefers-leave F true xs ys e (inr h) = second-chosen F xs ys h

module _ (s : List ℕ) (u : IsUtf8 s) where
  -- where the tree leads on with no groups, it does with any
  pub reaches-any : (t : Tree) → is_free t ≡ true → (F : Onward) (i : ℕ) (h : Groups) → reaches F (matches s t i h) ≡ onward s t F i
  unfolding onward
  reaches-any t e F i h = reaches-ends F _ _ (ends-matches s t e i h [])

  pub chosen-forward : (t : Tree) (F G : Onward) (i : ℕ) (h : Groups) → IsCharBoundary s i → ((j : ℕ) → i ≤ j → IsCharBoundary s j → F j ≡ G j)
      → chosen F (matches s t i h) ≡ chosen G (matches s t i h)
  chosen-forward t F G i h c k = chosen-alike (Ahead s u i) F G (matches s t i h) (matches-forward s u t i h c) (λ m p. k m.0 p.0 p.1)

  -- of a tree that reads, what goes on at the place doesn't count
  pub chosen-reads : (t : Tree) (f f' g : Onward) (i : ℕ) (h : Groups) → reads t ≡ true → IsCharBoundary s i
      → chosen (moved i f g) (matches s t i h) ≡ chosen (moved i f' g) (matches s t i h)
  chosen-reads t f f' g i h r c =
      chosen-alike (λ m. i < m.0) (moved i f g) (moved i f' g) (matches s t i h) (behind-matches s u t r i h c)
      (λ m l. moved-past i m.0 f g l ∙ sym (moved-past i m.0 f' g l))

  -- after the place nothing was read from
  pub chosen-past_place : (t : Tree) (f g : Onward) (i j : ℕ) (h : Groups) → i < j → IsCharBoundary s j
      → chosen (moved i f g) (matches s t j h) ≡ chosen (moved j g g) (matches s t j h)
  chosen-past_place t f g i j h l c = chosen-forward t (moved i f g) (moved j g g) j h c (λ k p d. moved-past i k f g (omega (arith, l, p)) ∙ sym (moved-same j k g))

  pub chosen-seq : (a b : Tree) → is_free b ≡ true → (f g : Onward) (i : ℕ) (h : Groups) (m : Member) → IsCharBoundary s i
      → chosen (moved i (following s u b f g) (following s u b g g)) (matches s a i h) ≡ Some m
      → chosen (moved i f g) (matches s (seq a b) i h) ≡ chosen (moved i f g) (matches s b m.0 m.1)
  chosen-seq a b e f g i h m c q =
      chosen-flat_map (Ahead s u i) (moved i f g) (onward s b (moved i f g)) (λ x. matches s b x.0 x.1) (matches s a i h) m
      (matches-forward s u a i h c) (leads s u b e (moved i f g) (Ahead s u i))
      (chosen-forward a (onward s b (moved i f g)) (moved i (following s u b f g) (following s u b g g)) i h c (λ j l d. then-moved s u b f g i j l d) ∙ q)

  some-only : (b : Bool) (F : Onward) (i : ℕ) (g : Groups) → is_some (reaches F (only_if b i g)) ≡ is_some (end_if b (F i))
  some-only true F i g = by (F i)
    where
      by : (o : Option ℕ) → is_some (option_or o None) ≡ is_some o
      by None = refl
      by (Some v) = refl
  some-only false F i g = refl

  only-chosen : (b : Bool) (F : Onward) (i : ℕ) (g : Groups) → is_some (end_if b (F i)) ≡ true → chosen F (only_if b i g) ≡ Some (i, g)
  only-chosen true F i g e = chosen-one F i g e
  only-chosen false F i g e = cc

  while-turn : (most : Option ℕ) (turn : Way) (F : Onward) (o : Option ℕ) (i : ℕ) (g : Groups) → is_some (turn_end most o) ≡ true → while_left most turn i g ≡ turn i g
  while-turn None turn F o i g e = refl
  while-turn (Some zero) turn F o i g e = cc
  while-turn (Some (suc n)) turn F o i g e = refl

  while-some : (most : Option ℕ) (turn : Way) (F : Onward) (o : Option ℕ) (i : ℕ) (g : Groups) → reaches F (turn i g) ≡ o → is_some (reaches F (while_left most turn i g)) ≡ is_some (turn_end most o)
  while-some None turn F o i g e = ap is_some e
  while-some (Some zero) turn F o i g e = refl
  while-some (Some (suc n)) turn F o i g e = ap is_some e

  module _ (greedy : Bool) (least : ℕ) (most : Option ℕ) (a : Tree) (free : is_free (repeat greedy least most a) ≡ true) (f g : Onward) (i : ℕ) (h : Groups) (c : IsCharBoundary s i) where
    -- the loop after a turn
    abbrev rest : Tree
    rest = repeat greedy (least - 1) (option_map (λ k. k - 1) most) a

    -- what goes on after a turn
    abbrev pub turned : Onward
    turned = moved i f (following s u (repeat greedy (least - 1) (option_map (λ k. k - 1) most) a) g g)

    abbrev more : Way
    more = turns (matches s a) greedy (length s - i) (least - 1) (option_map (λ k. k - 1) most)

    abbrev turn : Way
    turn = λ j l. flat_map (λ (k, d). after_turn (k == j) (turns (matches s a) greedy (length s - i) (least - 1) (option_map (λ k. k - 1) most)) k d) (matches s a j l)

    turn-reaches : reaches (moved i f g) (turn i h) ≡ onward s a turned i
    turn-reaches =
        reaches-flat_map (Ahead s u i) (moved i f g) (moved i (moved i f g) (onward s rest (moved i f g)))
        (λ m. after_turn (m.0 == i) more m.0 m.1) (matches s a i h) (matches-forward s u a i h c)
        (turn-leads s u greedy (least - 1) (option_map (λ k. k - 1) most) a (free-turn greedy least (least - 1) most a free) (moved i f g) i)
        ∙ reaches-any a (and_left _ _ free) (moved i (moved i f g) (onward s rest (moved i f g))) i h
        ∙ onward-alike s u a (moved i (moved i f g) (onward s rest (moved i f g))) turned i c (λ j l d. turn-moved s u rest f g i j l d)

    turn-chosen : (m : Member) → chosen turned (matches s a i h) ≡ Some m → chosen (moved i f g) (turn i h) ≡ chosen (moved i f g) (after_turn (m.0 == i) more m.0 m.1)
    turn-chosen m q =
        chosen-flat_map (Ahead s u i) (moved i f g) (moved i (moved i f g) (onward s rest (moved i f g)))
        (λ x. after_turn (x.0 == i) more x.0 x.1) (matches s a i h) m (matches-forward s u a i h c)
        (turn-leads s u greedy (least - 1) (option_map (λ k. k - 1) most) a (free-turn greedy least (least - 1) most a free) (moved i f g) i)
        (chosen-forward a (moved i (moved i f g) (onward s rest (moved i f g))) turned i h c (λ j l d. turn-moved s u rest f g i j l d) ∙ q)

    pub chosen-turn : (m : Member) → is_some (turn_end most (onward s a turned i)) ≡ true → (greedy ≡ true) ⊎ (is_some (end_if (least == 0) (f i)) ≡ false)
        → chosen turned (matches s a i h) ≡ Some m
        → chosen (moved i f g) (matches s (repeat greedy least most a) i h) ≡ chosen (moved i f g) (after_turn (m.0 == i) more m.0 m.1)
    chosen-turn m e p q =
        prefers-more (moved i f g) greedy (while_left most turn i h) (only_if (least == 0) i h)
        (while-some most turn (moved i f g) (onward s a turned i) i h turn-reaches ∙ e)
        (elim p [ inl x ↦ inl x | inr x ↦ inr (some-only (least == 0) (moved i f g) i h ∙ ap (λ (o : Option ℕ). is_some (end_if (least == 0) o)) (moved-at i f g) ∙ x) ])
        ∙ ap (chosen (moved i f g)) (while-turn most turn (moved i f g) (onward s a turned i) i h e)
        ∙ turn-chosen m q

    -- a turn that reads nothing leaves the loop
    pub chosen-empty : (m : Member) → m.0 ≡ i → chosen turned (matches s a i h) ≡ Some m → chosen (moved i f g) (after_turn (m.0 == i) more m.0 m.1) ≡ Some m
    chosen-empty m z q =
        let leads_on : is_some (turned m.0) ≡ true = chosen-leads turned (matches s a i h) m q in
        let here : is_some (moved i f g m.0) ≡ true = rw (z, moved-at i f g) (rw (z, moved-at i f (following s u rest g g)) at leads_on) in
        let t : (m.0 == i) ≡ true = rw (z, same-place i) refl in
        ap (λ (b : Bool). chosen (moved i f g) (after_turn b more m.0 m.1)) t ∙ chosen-one (moved i f g) m.0 m.1 here

    -- after another one the loop goes on
    pub chosen-more : (m : Member) → i < m.0 → IsCharBoundary s m.0 → chosen (moved i f g) (after_turn (m.0 == i) more m.0 m.1) ≡ chosen (moved m.0 g g) (matches s rest m.0 m.1)
    chosen-more m l d =
        ap (λ (b : Bool). chosen (moved i f g) (after_turn b more m.0 m.1)) (other-place i m.0 l)
        ∙ ap (chosen (moved i f g)) (turn-room s u greedy (least - 1) (option_map (λ k. k - 1) most) a i m.0 m.1 d l)
        ∙ chosen-past_place rest f g i m.0 m.1 l d

    pub chosen-leave : is_some (end_if (least == 0) (f i)) ≡ true → (greedy ≡ false) ⊎ (is_some (turn_end most (onward s a turned i)) ≡ false)
        → chosen (moved i f g) (matches s (repeat greedy least most a) i h) ≡ Some (i, h)
    chosen-leave e p =
        let here : is_some (end_if (least == 0) (moved i f g i)) ≡ true = ap (λ (o : Option ℕ). is_some (end_if (least == 0) o)) (moved-at i f g) ∙ e in
        prefers-leave (moved i f g) greedy (while_left most turn i h) (only_if (least == 0) i h)
        (some-only (least == 0) (moved i f g) i h ∙ here)
        (elim p [ inl x ↦ inl x | inr x ↦ inr (while-some most turn (moved i f g) (onward s a turned i) i h turn-reaches ∙ x) ])
        ∙ only-chosen (least == 0) (moved i f g) i h here
