-- What the search of a tree and then k finds is what k finds first over the members
-- of the tree's matches.
use Rattle.std.proofs.Common.{◌≡◌, ℕ, zero, suc, ◌+◌, ◌-◌, ◌==◌, if◌then◌else◌, Bool, true, false, List, [], ◌∷◌, ◌++◌, length, map, set, take, refl, sym, ◌∙◌, ap, arith, Option, Some, None}
use Rattle.std.specs.List.{flat_map}
use Rattle.std.specs.Option.{option_or}
use Rattle.std.specs.Prelude.{slice_get, option_map}
use Rattle.std.specs.Char.{len_utf8}
use Rattle.syntect_pattern_backtrack.specs.syntect_pattern.Text.{char_at, is_boundary}
use Rattle.syntect_pattern_backtrack.specs.syntect_pattern.Sets.{holds}
use Rattle.syntect_pattern_backtrack.specs.syntect_pattern.Trees.{Tree, nothing, one_of, anchor, same, seq, alt, repeat, group, atomic, ahead, behind}
use Rattle.syntect_pattern_backtrack.specs.syntect_pattern.Matches.{Groups, Member, Way, matches, turns, only_if, past, close, anchor_holds, look, ending_at, ending_here, or_else}
use Rattle.syntect_pattern_backtrack.specs.syntect_pattern.Matches as pattern
use Rattle.syntect_pattern_backtrack.specs.Machine.{Work, On, none, one, done, tick, both, work_if, ends_at, at_places, at_start, bounded, outcome, look_bound, search, search_turns, at_each, go_on, one_less, end}
use Rattle.syntect_pattern_steps.specs.Steps.{after_char}
use Rattle.syntect_pattern_backtrack.specs.declared.state.Bound.{Bound}
use Rattle.syntect_pattern_backtrack.specs.Machine as machine

-- what is found at a place with these groups
abbrev pub Finds : Type 0
Finds = ℕ → Groups → Option Member

abbrev pub finds : On → Finds
finds k i g = (k i g).found

abbrev pub first_each : Finds → List Member → Option Member
first_each k [] = None
first_each k (m ∷ ms) = option_or (k m.0 m.1) (first_each k ms)

or_none : (a : Option Member) → option_or a None ≡ a
or_none None = refl
or_none (Some m) = refl

or_assoc : (a b c : Option Member) → option_or (option_or a b) c ≡ option_or a (option_or b c)
or_assoc None b c = refl
or_assoc (Some m) b c = refl

pub first_each-append : (k : Finds) (a b : List Member) → first_each k (a ++ b) ≡ option_or (first_each k a) (first_each k b)
first_each-append k [] b = refl
first_each-append k (m ∷ a) b =
    ap (λ r. option_or (k m.0 m.1) r) (first_each-append k a b) ∙ sym (or_assoc (k m.0 m.1) (first_each k a) (first_each k b))

pub first_each-flat_map : (k : Finds) (f : Member → List Member) (ms : List Member) → first_each k (flat_map f ms) ≡ first_each (λ j h. first_each k (f (j, h))) ms
first_each-flat_map k f [] = refl
first_each-flat_map k f (m ∷ ms) =
    first_each-append k (f m) (flat_map f ms) ∙ ap (λ r. option_or (first_each k (f m)) r) (first_each-flat_map k f ms)

pub first_each-map : (k : Finds) (f : Member → Member) (ms : List Member) → first_each k (map f ms) ≡ first_each (λ j h. k (f (j, h)).0 (f (j, h)).1) ms
first_each-map k f [] = refl
first_each-map k f (m ∷ ms) = ap (λ r. option_or (k (f m).0 (f m).1) r) (first_each-map k f ms)

at_each-first : (k : On) (ms : List Member) → (at_each k ms).found ≡ first_each (finds k) ms
unfolding both none
at_each-first k [] = refl
at_each-first k (m ∷ ms) = ap (λ r. option_or (k m.0 m.1).found r) (at_each-first k ms)

past-first : (test : ℕ → Bool) (c : Option ℕ) (k : On) (i : ℕ) (g : Groups) → (go_on (after_char test c i) k g).found ≡ first_each (finds k) (past test c i g)
unfolding none
past-first test None k i g = refl
past-first test (Some c) k i g = go (test c)
  where
    go : (b : Bool) → (go_on (if b then Some (i + len_utf8 c) else None) k g).found ≡ first_each (finds k) (only_if b (i + len_utf8 c) g)
    go true = sym (or_none (k (i + len_utf8 c) g).found)
    go false = refl

prefer-first : (k : On) (greedy : Bool) (more leave : Work) (a b : List Member) → more.found ≡ first_each (finds k) a → leave.found ≡ first_each (finds k) b
    → (machine.prefer greedy more leave).found ≡ first_each (finds k) (pattern.prefer greedy a b)
unfolding both
prefer-first k true more leave a b e h = ap (λ o. option_or o leave.found) e ∙ ap (λ o. option_or (first_each (finds k) a) o) h ∙ sym (first_each-append (finds k) a b)
prefer-first k false more leave a b e h = ap (λ o. option_or o more.found) h ∙ ap (λ o. option_or (first_each (finds k) b) o) e ∙ sym (first_each-append (finds k) b a)

while-first : (k : On) (most : Option ℕ) (more : Work) (way : Way) (i : ℕ) (g : Groups) → more.found ≡ first_each (finds k) (way i g)
    → (machine.while_left most more).found ≡ first_each (finds k) (pattern.while_left most way i g)
unfolding none
while-first k None more way i g e = e
while-first k (Some zero) more way i g e = refl
while-first k (Some (suc n)) more way i g e = e

leave-first : (k : On) (b : Bool) (i : ℕ) (g : Groups) → (machine.work_if b (tick (k i g))).found ≡ first_each (finds k) (only_if b i g)
unfolding none tick
leave-first k true i g = sym (or_none (k i g).found)
leave-first k false i g = refl

after-first : (k more : On) (way : Way) (b : Bool) (j : ℕ) (h : Groups) → (more j h).found ≡ first_each (finds k) (way j h)
    → (machine.after_turn b k more j h).found ≡ first_each (finds k) (pattern.after_turn b way j h)
after-first k more way true j h e = sym (or_none (k j h).found)
after-first k more way false j h e = e

-- the turns of a loop, from what its body does
pub turns-first : (b : On → On) (body : Way) → ((k : On) (i : ℕ) (g : Groups) → (b k i g).found ≡ first_each (finds k) (body i g))
    → (greedy : Bool) (n least : ℕ) (most : Option ℕ) (k : On) (i : ℕ) (g : Groups)
    → (search_turns b greedy n least most k i g).found ≡ first_each (finds k) (turns body greedy n least most i g)
unfolding none tick
turns-first b body h greedy zero least most k i g = refl
turns-first b body h greedy (suc n) least most k i g =
    let next : On = λ j g'. tick (machine.after_turn (j == i) k (search_turns b greedy n (least - 1) (one_less most) k) j g') in
    let step : Way = λ j g'. pattern.after_turn (j == i) (turns body greedy n (least - 1) (option_map (λ m. m - 1) most)) j g' in
    let same : (j : ℕ) (g' : Groups) → finds next j g' ≡ first_each (finds k) (step j g') =
    λ j g'. after-first k (search_turns b greedy n (least - 1) (one_less most) k) (turns body greedy n (least - 1) (option_map (λ m. m - 1) most)) (j == i) j g'
    (turns-first b body h greedy n (least - 1) (one_less most) k j g') in
    let more : (b next i g).found ≡ first_each (finds k) (flat_map (λ (j, g'). step j g') (body i g)) =
    h next i g
    ∙ ap (λ (f : Finds). first_each f (body i g)) (λ t j g'. same j g' t)
    ∙ sym (first_each-flat_map (finds k) (λ (j, g'). step j g') (body i g)) in
    prefer-first k greedy (machine.while_left most (tick (b next i g))) (machine.work_if (least == 0) (tick (k i g)))
    (pattern.while_left most (λ i' g''. flat_map (λ (j, g'). pattern.after_turn (j == i') (turns body greedy n (least - 1) (option_map (λ m. m - 1) most)) j g') (body i' g'')) i g) (only_if (least == 0) i g)
    (while-first k most (tick (b next i g)) (λ i' g''. flat_map (λ (j, g'). pattern.after_turn (j == i') (turns body greedy n (least - 1) (option_map (λ m. m - 1) most)) j g') (body i' g'')) i g more)
    (leave-first k (least == 0) i g)

-- what is done where the test holds
work-first : (k : On) (b : Bool) (i : ℕ) (g : Groups) → (work_if b (k i g)).found ≡ first_each (finds k) (only_if b i g)
unfolding none
work-first k true i g = sym (or_none (k i g).found)
work-first k false i g = refl

-- -- Parts of which the first match counts alone

first_done : (ms : List Member) → first_each (finds done) ms ≡ slice_get ms 0
unfolding tick one
first_done [] = refl
first_done (m ∷ ms) = refl

whole-first : (k : On) (w : Work) (ms : List Member) (i : ℕ) (g : Groups) → w.found ≡ slice_get ms 0 → (bounded Bound.Whole w k i g).found ≡ first_each (finds k) (take 1 ms)
unfolding bounded none
whole-first k w [] i g e = ap (λ (f : Option Member). (outcome Bound.Whole f k i g).found) e
whole-first k w (m ∷ ms) i g e = ap (λ (f : Option Member). (outcome Bound.Whole f k i g).found) e ∙ sym (or_none (k m.0 m.1).found)

look-first : (k : On) (negated : Bool) (w : Work) (ms : List Member) (i : ℕ) (g : Groups) → w.found ≡ slice_get ms 0
    → (bounded (look_bound negated) w k i g).found ≡ first_each (finds k) (look negated i g ms)
unfolding bounded none
look-first k false w [] i g e = ap (λ (f : Option Member). (outcome Bound.Holds f k i g).found) e
look-first k false w (m ∷ ms) i g e = ap (λ (f : Option Member). (outcome Bound.Holds f k i g).found) e ∙ sym (or_none (k i m.1).found)
look-first k true w [] i g e = ap (λ (f : Option Member). (outcome Bound.Fails f k i g).found) e ∙ sym (or_none (k i g).found)
look-first k true w (m ∷ ms) i g e = ap (λ (f : Option Member). (outcome Bound.Fails f k i g).found) e

-- -- Lookbehind

-- the first member that ends at the place
pub ends-first : (e : ℕ) (ms : List Member) → first_each (finds (ends_at e done)) ms ≡ slice_get (ending_at e ms) 0
unfolding tick none one
ends-first e [] = refl
ends-first e (m ∷ ms) = go (m.0 == e) (ends-first e ms)
  where
    go : (b : Bool) → first_each (finds (ends_at e done)) ms ≡ slice_get (ending_at e ms) 0
        → option_or (tick (work_if b (done m.0 m.1))).found (first_each (finds (ends_at e done)) ms) ≡ slice_get (if b then m ∷ ending_at e ms else ending_at e ms) 0
    go true h = refl
    go false h = h

or_else-first : (a b : List Member) → slice_get (or_else a b) 0 ≡ option_or (slice_get a 0) (slice_get b 0)
or_else-first [] b = refl
or_else-first (m ∷ a) b = refl

module _ (s : List ℕ) (body : On → On) (way : Way) (e : ℕ) (g : Groups) (h : (i : ℕ) → (body (ends_at e done) i g).found ≡ first_each (finds (ends_at e done)) (way i g)) where
  -- the first member of the last start
  starts-first : (i : ℕ) → (at_places (at_start s body (ends_at e done)) (suc i) i g).found ≡ slice_get (ending_here s way i e g) 0
  unfolding both tick none
  starts-first zero = or_none (body (ends_at e done) 0 g).found ∙ h 0 ∙ ends-first e (way 0 g)
  starts-first (suc i) =
      ap (λ (p : ℕ). option_or (work_if (is_boundary s (suc i)) (body (ends_at e done) (suc i) g)).found (at_places (at_start s body (ends_at e done)) (suc i) p g).found)
      (let before : suc i - 1 ≡ i = omega arith in before)
      ∙ go (is_boundary s (suc i)) (starts-first i)
      ∙ sym (or_else-first (if is_boundary s (suc i) then ending_at e (way (suc i) g) else []) (ending_here s way i e g))
    where
      go : (b : Bool) → (at_places (at_start s body (ends_at e done)) (suc i) i g).found ≡ slice_get (ending_here s way i e g) 0
          → option_or (work_if b (body (ends_at e done) (suc i) g)).found (at_places (at_start s body (ends_at e done)) (suc i) i g).found
          ≡ option_or (slice_get (if b then ending_at e (way (suc i) g) else []) 0) (slice_get (ending_here s way i e g) 0)
      go true l =
          ap (λ f. option_or f (at_places (at_start s body (ends_at e done)) (suc i) i g).found) (h (suc i) ∙ ends-first e (way (suc i) g))
          ∙ ap (λ f. option_or (slice_get (ending_at e (way (suc i) g)) 0) f) l
      go false l = l

module _ (s : List ℕ) where
  pub search-first : (t : Tree) (k : On) (i : ℕ) (g : Groups) → (search s t k i g).found ≡ first_each (finds k) (matches s t i g)
  unfolding tick both
  search-first nothing k i g = sym (or_none (k i g).found)
  search-first (one_of set) k i g = past-first (holds set) (char_at s i) k i g
  search-first (seq a b) k i g =
      search-first a (λ j h. tick (search s b k j h)) i g
      ∙ ap (λ (f : Finds). first_each f (matches s a i g)) (λ t j h. search-first b k j h t)
      ∙ sym (first_each-flat_map (finds k) (λ (j, h). matches s b j h) (matches s a i g))
  search-first (alt a b) k i g =
      ap (λ o. option_or o (search s b k i g).found) (search-first a k i g)
      ∙ ap (λ o. option_or (first_each (finds k) (matches s a i g)) o) (search-first b k i g)
      ∙ sym (first_each-append (finds k) (matches s a i g) (matches s b i g))
  search-first (repeat greedy least most a) k i g =
      turns-first (search s a) (matches s a) (λ l j h. search-first a l j h) greedy (suc (length s - i)) least most k i g
  search-first (group n a) k i g =
      search-first a (λ j h. tick (tick (k j (set h n (Some (i, j)))))) i g
      ∙ sym (first_each-map (finds k) (close n i) (matches s a i g))
  search-first (anchor a) k i g = work-first k (anchor_holds s a i) i g
  search-first (same fold n) k i g = at_each-first k (matches s (same fold n) i g)
  search-first (atomic a) k i g = whole-first k (search s a done i g) (matches s a i g) i g (search-first a done i g ∙ first_done (matches s a i g))
  search-first (ahead negated a) k i g = look-first k negated (search s a done i g) (matches s a i g) i g (search-first a done i g ∙ first_done (matches s a i g))
  search-first (behind negated a) k i g =
      look-first k negated (tick (at_places (at_start s (search s a) (ends_at i done)) (suc i) i g)) (ending_here s (matches s a) i i g) i g
      (starts-first s (search s a) (matches s a) i g (λ p. search-first a (ends_at i done) p g) i)

  -- a search that ends after the tree finds the first of its matches
  pub search-end : (ts : List Tree) (t : Tree) (i : ℕ) (g : Groups) → (search s t (end s ts) i g).found ≡ slice_get (matches s t i g) 0
  search-end ts t i g = search-first t (end s ts) i g ∙ first_done (matches s t i g)
