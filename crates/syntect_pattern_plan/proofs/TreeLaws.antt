-- What the matches of a tree have in common.
use Rattle.std.proofs.Common.{◌≡◌, ◌⊎◌, inl, inr, ℕ, zero, suc, ◌+◌, ◌-◌, ◌≤◌, ◌<◌, List, [], ◌∷◌, length, Bool, true, false, Option, Some, None, refl, ap, ◌∙◌, arith}
use Rattle.std.specs.Prelude.{not, ◌&&◌, ◌||◌, nat_lt, if◌then◌else◌, ◌==◌, slice_set, option_map, IsUtf8, IsCharBoundary}
use Rattle.std.proofs.lemmas.Bool.Decides.{nat_tests}
use Rattle.std.specs.List.{flat_map}
use Rattle.std.specs.Char.{len_utf8}
use Rattle.syntect_pattern_plan.specs.syntect_pattern.Text.{char_at, is_boundary}
use Rattle.syntect_pattern_plan.specs.syntect_pattern.Sets.{holds}
use Rattle.syntect_pattern_plan.specs.syntect_pattern.Trees.{Tree, nothing, one_of, anchor, same, seq, alt, repeat, group, atomic, ahead, behind}
use Rattle.syntect_pattern_plan.specs.syntect_pattern.Matches.{Groups, Member, Way, only_if, past, prefer, while_left, after_turn, turns, ending_at, or_else, look, close, anchor_holds, ending_here, matches}
use Rattle.syntect_pattern_plan.proofs.syntect_pattern_proofs.Each.{Each, each_of, each-append, each-flat_map, each-map, each-take}
use Rattle.syntect_pattern_plan.proofs.syntect_pattern_proofs.MatchLaws.{Step, IsClosed, steps-matches}
use Rattle.syntect_pattern_plan.proofs.syntect_pattern_proofs.TurnLaws.{matches-forward}
use Rattle.syntect_pattern_plan.specs.Onward.{reads, plain, is_free, is_bare, is_calm}
use Rattle.syntect_pattern_plan.proofs.ReachLaws.{SameEnds, ends-append, ends-flat_map, ends-map, ends-take}

pub and_left : (a b : Bool) → (a && b) ≡ true → a ≡ true
and_left true b e = refl
and_left false b e = cc

pub and_right : (a b : Bool) → (a && b) ≡ true → b ≡ true
and_right true b e = e
and_right false b e = cc

-- -- The turns of a loop that is free

or-more : (b c d : Bool) → (b ≡ true → c ≡ true) → (b || d) ≡ true → (c || d) ≡ true
or-more true c d h e = ap (λ (x : Bool). x || d) (h refl)
or-more false true d h e = refl
or-more false false d h e = e

once-less : (m : ℕ) → nat_lt m 2 ≡ true → nat_lt (m - 1) 2 ≡ true
once-less m e = grind (arith, nat_tests)

-- after a turn the loop is free too
pub free-turn : (greedy : Bool) (least less : ℕ) (most : Option ℕ) (a : Tree) → is_free (repeat greedy least most a) ≡ true
    → is_free (repeat greedy less (option_map (λ k. k - 1) most) a) ≡ true
free-turn greedy least less None a e = e
free-turn greedy least less (Some m) a e =
    let more : (nat_lt (m - 1) 2 || is_calm a) ≡ true = or-more (nat_lt m 2) (nat_lt (m - 1) 2) (is_calm a) (once-less m) (and_right (is_free a) (nat_lt m 2 || is_calm a) e) in
    ap (λ (b : Bool). b && (nat_lt (m - 1) 2 || is_calm a)) (and_left (is_free a) (nat_lt m 2 || is_calm a) e) ∙ more

-- -- The ends don't depend on the groups

ends-only : (b : Bool) (j : ℕ) (g h : Groups) → SameEnds (only_if b j g) (only_if b j h)
ends-only true j g h = (refl, tt)
ends-only false j g h = tt

ends-past : (test : ℕ → Bool) (o : Option ℕ) (i : ℕ) (g h : Groups) → SameEnds (past test o i g) (past test o i h)
ends-past test None i g h = tt
ends-past test (Some c) i g h = ends-only (test c) (i + len_utf8 c) g h

ends-look : (negated : Bool) (i : ℕ) (g h : Groups) (ms ns : List Member) → SameEnds ms ns → SameEnds (look negated i g ms) (look negated i h ns)
ends-look false i g h [] [] e = tt
ends-look false i g h [] (n ∷ ns) e = absurd e
ends-look false i g h (m ∷ ms) [] e = absurd e
ends-look false i g h (m ∷ ms) (n ∷ ns) e = (refl, tt)
ends-look true i g h [] [] e = (refl, tt)
ends-look true i g h [] (n ∷ ns) e = absurd e
ends-look true i g h (m ∷ ms) [] e = absurd e
ends-look true i g h (m ∷ ms) (n ∷ ns) e = tt

ends-prefer : (greedy : Bool) (xs ys xs' ys' : List Member) → SameEnds xs xs' → SameEnds ys ys' → SameEnds (prefer greedy xs ys) (prefer greedy xs' ys')
ends-prefer true xs ys xs' ys' e f = ends-append xs xs' ys ys' e f
ends-prefer false xs ys xs' ys' e f = ends-append ys ys' xs xs' f e

-- a way whose ends don't depend on the groups
abbrev pub IsSteady : Way → Type 0
IsSteady way = (i : ℕ) (g h : Groups) → SameEnds (way i g) (way i h)

ends-if : (b : Bool) (i : ℕ) (ms ns : List Member) → SameEnds ms ns → SameEnds (if b then ms else []) (if b then ns else [])
ends-if true i ms ns e = e
ends-if false i ms ns e = tt

ends-ending_at : (i : ℕ) (ms ns : List Member) → SameEnds ms ns → SameEnds (ending_at i ms) (ending_at i ns)
ends-ending_at i [] [] e = tt
ends-ending_at i [] (n ∷ ns) e = absurd e
ends-ending_at i (m ∷ ms) [] e = absurd e
ends-ending_at i (m ∷ ms) (n ∷ ns) e = by (ends-ending_at i ms ns e.1) (m.0 == i) (n.0 == i) (ap (λ (j : ℕ). j == i) e.0)
  where
    by : SameEnds (ending_at i ms) (ending_at i ns) → (a b : Bool) → a ≡ b
        → SameEnds (if a then m ∷ ending_at i ms else ending_at i ms) (if b then n ∷ ending_at i ns else ending_at i ns)
    by more true true f = (e.0, more)
    by more false false f = more
    by more true false f = absurd cc
    by more false true f = absurd cc

ends-or_else : (ms ns xs ys : List Member) → SameEnds ms ns → SameEnds xs ys → SameEnds (or_else ms xs) (or_else ns ys)
ends-or_else [] [] xs ys e f = f
ends-or_else [] (n ∷ ns) xs ys e f = absurd e
ends-or_else (m ∷ ms) [] xs ys e f = absurd e
ends-or_else (m ∷ ms) (n ∷ ns) xs ys e f = e

module _ (s : List ℕ) where
  ends-while_left : (most : Option ℕ) (turn : Way) → IsSteady turn → IsSteady (while_left most turn)
  ends-while_left None turn e i g h = e i g h
  ends-while_left (Some zero) turn e i g h = tt
  ends-while_left (Some (suc n)) turn e i g h = e i g h

  ends-after_turn : (b : Bool) (more : Way) → IsSteady more → IsSteady (after_turn b more)
  ends-after_turn true more e i g h = (refl, tt)
  ends-after_turn false more e i g h = e i g h

  ends-after : (body next : Way) (i : ℕ) → IsSteady next → (m n : Member) → m.0 ≡ n.0
      → SameEnds (after_turn (m.0 == i) next m.0 m.1) (after_turn (n.0 == i) next n.0 n.1)
  ends-after body next i e m n f = rw f (ends-after_turn (n.0 == i) next e n.0 m.1 n.1)

  ends-turns : (body : Way) (greedy : Bool) → IsSteady body → (n least : ℕ) (most : Option ℕ) → IsSteady (turns body greedy n least most)
  ends-turns body greedy e zero least most i g h = tt
  ends-turns body greedy e (suc n) least most i g h =
      let next : Way = turns body greedy n (least - 1) (option_map (λ k. k - 1) most) in
      let steady : IsSteady next = ends-turns body greedy e n (least - 1) (option_map (λ k. k - 1) most) in
      ends-prefer greedy _ _ _ _
      (ends-while_left most (λ i g. flat_map (λ (j, h). after_turn (j == i) next j h) (body i g))
      (λ i g h. ends-flat_map _ _ (body i g) (body i h) (e i g h) (λ m k f. ends-after body next i steady m k f))
      i g h)
      (ends-only (least == 0) i g h)

  ends-ending_here : (body : Way) → IsSteady body → (k : ℕ) → IsSteady (ending_here s body k)
  ends-ending_here body e zero i g h = ends-ending_at i (body 0 g) (body 0 h) (e 0 g h)
  ends-ending_here body e (suc k) i g h =
      ends-or_else _ _ _ _
      (ends-if (is_boundary s (suc k)) i _ _ (ends-ending_at i (body (suc k) g) (body (suc k) h) (e (suc k) g h)))
      (ends-ending_here body e k i g h)

  pub plain-free : (t : Tree) → plain t ≡ true → is_free t ≡ true
  plain-free nothing e = refl
  plain-free (one_of a) e = refl
  plain-free (anchor a) e = refl
  plain-free (same fold n) e = cc
  plain-free (seq a b) e = let l = plain-free a (and_left _ _ e) in let r = plain-free b (and_right (plain a) _ e) in ap (λ x. x && is_free b) l ∙ r
  plain-free (alt a b) e = let l = plain-free a (and_left _ _ e) in let r = plain-free b (and_right (plain a) _ e) in ap (λ x. x && is_free b) l ∙ r
  plain-free (repeat greedy least most a) e = cc
  plain-free (group n a) e = plain-free a e
  plain-free (atomic a) e = cc
  plain-free (ahead negated a) e = cc
  plain-free (behind negated a) e = cc

  pub ends-matches : (t : Tree) → is_free t ≡ true → IsSteady (matches s t)
  ends-matches nothing e i g h = (refl, tt)
  ends-matches (one_of a) e i g h = ends-past (holds a) (char_at s i) i g h
  ends-matches (anchor a) e i g h = ends-only (anchor_holds s a i) i g h
  ends-matches (same fold n) e i g h = absurd cc
  ends-matches (seq a b) e i g h =
      ends-flat_map _ _ (matches s a i g) (matches s a i h) (ends-matches a (and_left _ _ e) i g h)
      (λ m n f. rw f (ends-matches b (and_right (is_free a) _ e) n.0 m.1 n.1))
  ends-matches (alt a b) e i g h =
      ends-append _ _ _ _ (ends-matches a (and_left _ _ e) i g h) (ends-matches b (and_right (is_free a) _ e) i g h)
  ends-matches (repeat greedy least most a) e i g h = ends-turns (matches s a) greedy (ends-matches a (and_left _ _ e)) (suc (length s - i)) least most i g h
  ends-matches (group n a) e i g h = ends-map (close n i) (close n i) _ _ (ends-matches a e i g h) (λ m n f. f)
  ends-matches (atomic a) e i g h = ends-take _ _ (ends-matches a e i g h)
  ends-matches (ahead negated a) e i g h = ends-look negated i g h _ _ (ends-matches a e i g h)
  ends-matches (behind negated a) e i g h =
      ends-look negated i g h _ _ (ends-ending_here (matches s a) (ends-matches a (plain-free a (and_left (plain a) _ e))) i i g h)

-- -- A tree without groups changes none

abbrev keeps : Bool → Groups → Groups → Type 0
keeps true g h = h ≡ g
keeps false g h = Unit {0}

abbrev KeepsGroups : Bool → Step
KeepsGroups b i g j h = keeps b g h

keeps_groups : (s : List ℕ) → IsClosed s (λ _. true) KeepsGroups
keeps_groups s = record {
  here = λ b i g. here b g;
  reads = λ b i c g e. here b g;
  joins = λ b i j k g h l p q. joins b g h l p q;
  closes = λ b n i j g h t p. closes b g (slice_set h n (Some (i, j))) t;
  looks = λ b k i j g h at p. looks b g h p;
}
  where
    here : (b : Bool) (g : Groups) → keeps b g g
    here true g = refl
    here false g = tt

    joins : (b : Bool) (g h l : Groups) → keeps b g h → keeps b h l → keeps b g l
    joins true g h l p q = q ∙ p
    joins false g h l p q = tt

    closes : (b : Bool) (g h : Groups) → not (b && true) ≡ true → keeps b g h
    closes true g h t = absurd (let f : false ≡ true = t in cc)
    closes false g h t = tt

    looks : (b : Bool) (g h : Groups) → h ≡ g → keeps b g h
    looks true g h p = p
    looks false g h p = tt

pub bare-groups : (s : List ℕ) → IsUtf8 s → (t : Tree) → is_bare t ≡ true → (i : ℕ) (g : Groups) → Each (λ m. m.1 ≡ g) (matches s t i g)
bare-groups s u t e i g = steps-matches s u (λ _. true) KeepsGroups (keeps_groups s) true t e i g

-- -- A tree that reads goes on

module _ (s : List ℕ) (u : IsUtf8 s) where
  -- each member ends after the place
  abbrev pub Behind : ℕ → List Member → Type 0
  Behind i = Each (λ m. i < m.0)

  behind-past : (test : ℕ → Bool) (o : Option ℕ) (i : ℕ) (g : Groups) → Behind i (past test o i g)
  behind-past test None i g = tt
  behind-past test (Some c) i g = by (test c)
    where
      by : (b : Bool) → Behind i (only_if b (i + len_utf8 c) g)
      by true = (grind arith, tt)
      by false = tt

  behind-prefer : (greedy : Bool) (i : ℕ) (xs ys : List Member) → Behind i xs → Behind i ys → Behind i (prefer greedy xs ys)
  behind-prefer true i xs ys e f = each-append (λ m. i < m.0) xs ys e f
  behind-prefer false i xs ys e f = each-append (λ m. i < m.0) ys xs f e

  behind-while_left : (most : Option ℕ) (turn : Way) (i : ℕ) (g : Groups) → Behind i (turn i g) → Behind i (while_left most turn i g)
  behind-while_left None turn i g e = e
  behind-while_left (Some zero) turn i g e = tt
  behind-while_left (Some (suc n)) turn i g e = e

  -- each member ends on a boundary, not before the place
  abbrev pub Onto : ℕ → List Member → Type 0
  Onto i = Each (λ m. (i ≤ m.0) × IsCharBoundary s m.0)

  abbrev pub GoesOn : Way → Type 0
  GoesOn way = (i : ℕ) (g : Groups) → IsCharBoundary s i → Onto i (way i g)

  onto-prefer : (greedy : Bool) (i : ℕ) (xs ys : List Member) → Onto i xs → Onto i ys → Onto i (prefer greedy xs ys)
  onto-prefer true i xs ys e f = each-append (λ m. (i ≤ m.0) × IsCharBoundary s m.0) xs ys e f
  onto-prefer false i xs ys e f = each-append (λ m. (i ≤ m.0) × IsCharBoundary s m.0) ys xs f e

  onto-while_left : (most : Option ℕ) (turn : Way) (i : ℕ) (g : Groups) → Onto i (turn i g) → Onto i (while_left most turn i g)
  onto-while_left None turn i g e = e
  onto-while_left (Some zero) turn i g e = tt
  onto-while_left (Some (suc n)) turn i g e = e

  onto-only : (b : Bool) (i : ℕ) (g : Groups) → IsCharBoundary s i → Onto i (only_if b i g)
  onto-only true i g c = ((omega arith, c), tt)
  onto-only false i g c = tt

  onto-after_turn : (b : Bool) (more : Way) → GoesOn more → GoesOn (after_turn b more)
  onto-after_turn true more e i g c = ((omega arith, c), tt)
  onto-after_turn false more e i g c = e i g c

  pub onto-turns : (body : Way) → GoesOn body → (greedy : Bool) (n least : ℕ) (most : Option ℕ) → GoesOn (turns body greedy n least most)
  onto-turns body e greedy zero least most i g c = tt
  onto-turns body e greedy (suc n) least most i g c =
      let next : Way = turns body greedy n (least - 1) (option_map (λ k. k - 1) most) in
      let on : GoesOn next = onto-turns body e greedy n (least - 1) (option_map (λ k. k - 1) most) in
      onto-prefer greedy i _ _
      (onto-while_left most _ i g
      (each-flat_map (λ m. (i ≤ m.0) × IsCharBoundary s m.0) (λ m. after_turn (m.0 == i) next m.0 m.1) (body i g)
      (each_of (λ m. (i ≤ m.0) × IsCharBoundary s m.0) (λ m. Onto i (after_turn (m.0 == i) next m.0 m.1)) (body i g)
      (λ m p. each_of (λ x. (m.0 ≤ x.0) × IsCharBoundary s x.0) (λ x. (i ≤ x.0) × IsCharBoundary s x.0) _
      (λ x q. (omega (arith, p.0, q.0), q.1)) (onto-after_turn (m.0 == i) next on m.0 m.1 p.1))
      (e i g c))))
      (onto-only (least == 0) i g c)

  -- after a part that goes on
  abbrev Far : ℕ → Member → Type 0
  Far i m = (i < m.0) × IsCharBoundary s m.0

  behind-flat_map : (f : Member → List Member) (i : ℕ) (ms : List Member) → Each (Far i) ms → ((m : Member) → Far i m → Onto m.0 (f m)) → Behind i (flat_map f ms)
  behind-flat_map f i ms e h =
      each-flat_map (λ m. i < m.0) f ms
      (each_of (Far i) (λ m. Behind i (f m)) ms
      (λ m p. each_of (λ x. (m.0 ≤ x.0) × IsCharBoundary s x.0) (λ x. i < x.0) (f m) (λ x q. omega (arith, p.0, q.0)) (h m p)) e)

  both-each : (P Q : Member → Type 0) (ms : List Member) → Each P ms → Each Q ms → Each (λ m. P m × Q m) ms
  both-each P Q [] e f = tt
  both-each P Q (m ∷ ms) e f = ((e.0, f.0), both-each P Q ms e.1 f.1)

  far : (t : Tree) (i : ℕ) (g : Groups) → IsCharBoundary s i → Behind i (matches s t i g) → Each (Far i) (matches s t i g)
  far t i g c e =
      each_of (λ m. (i < m.0) × ((i ≤ m.0) × IsCharBoundary s m.0)) (Far i) (matches s t i g) (λ m p. (p.0, p.1.1))
      (both-each (λ m. i < m.0) (λ m. (i ≤ m.0) × IsCharBoundary s m.0) _ e (matches-forward s u t i g c))

  or-cases : (a b : Bool) → (a || b) ≡ true → (a ≡ true) ⊎ (b ≡ true)
  or-cases true b e = inl refl
  or-cases false b e = inr e

  none-if : (least : ℕ) → nat_lt 0 least ≡ true → (least == 0) ≡ false
  none-if zero e = cc
  none-if (suc n) e = grind arith

  -- what goes on from a boundary before a place after it
  pub behind-matches : (t : Tree) → reads t ≡ true → (i : ℕ) (g : Groups) → IsCharBoundary s i → Behind i (matches s t i g)
  behind-matches nothing e i g c = absurd cc
  behind-matches (one_of a) e i g c = behind-past (holds a) (char_at s i) i g
  behind-matches (anchor a) e i g c = absurd cc
  behind-matches (same fold n) e i g c = absurd cc
  behind-matches (seq a b) e i g c =
      elim (or-cases (reads a) (reads b) e) [
        | inl l ↦ behind-flat_map _ i (matches s a i g) (far a i g c (behind-matches a l i g c)) (λ m p. matches-forward s u b m.0 m.1 p.1)
        | inr r ↦
            each-flat_map (λ m. i < m.0) (λ m. matches s b m.0 m.1) (matches s a i g)
            (each_of (λ m. (i ≤ m.0) × IsCharBoundary s m.0) (λ m. Behind i (matches s b m.0 m.1)) (matches s a i g)
            (λ m p. each_of (λ x. m.0 < x.0) (λ x. i < x.0) (matches s b m.0 m.1) (λ x q. omega (arith, p.0, q)) (behind-matches b r m.0 m.1 p.1))
            (matches-forward s u a i g c))
      ]
  behind-matches (alt a b) e i g c =
      each-append (λ m. i < m.0) _ _ (behind-matches a (and_left _ _ e) i g c) (behind-matches b (and_right (reads a) _ e) i g c)
  behind-matches (repeat greedy least most a) e i g c =
      let body = behind-matches a (and_right (nat_lt 0 least) _ e) in
      behind-prefer greedy i _ _
      (behind-while_left most _ i g
      (behind-flat_map _ i (matches s a i g) (far a i g c (body i g c))
      (λ m p. onto-after_turn (m.0 == i) _ (onto-turns (matches s a) (λ j h d. matches-forward s u a j h d) greedy (length s - i) (least - 1) (option_map (λ k. k - 1) most)) m.0 m.1 p.1)))
      (rw (none-if least (and_left _ _ e)) tt)
  behind-matches (group n a) e i g c = each-map (λ m. i < m.0) (close n i) (matches s a i g) (behind-matches a e i g c)
  behind-matches (atomic a) e i g c = each-take (λ m. i < m.0) 1 (matches s a i g) (behind-matches a e i g c)
  behind-matches (ahead negated a) e i g c = absurd cc
  behind-matches (behind negated a) e i g c = absurd cc
