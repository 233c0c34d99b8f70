-- What holds of each member of a pattern, where it holds of each step.
use Rattle.std.proofs.Common.{◌≡◌, ℕ, zero, suc, ◌+◌, ◌-◌, ◌⊎◌, inl, inr, List, [], ◌∷◌, length, Bool, true, false, not, ◌&&◌, Option, Some, None, refl}
use Rattle.std.specs.Prelude.{if◌then◌else◌, ◌==◌, chars, slice_get, slice_set, slice_range, option_map, IsUtf8, IsCharBoundary}
use Rattle.std.proofs.lemmas.Str.{IsCharBoundary-start}
use Rattle.std.specs.List.{flat_map}
use Rattle.std.specs.Char.{len_utf8}
use Rattle.syntect_pattern.specs.Text.{char_at, is_boundary}
use Rattle.syntect_pattern.specs.Sets.{holds}
use Rattle.syntect_pattern.specs.Trees.{Tree, nothing, one_of, anchor, same, seq, alt, repeat, group, atomic, ahead, behind}
use Rattle.syntect_pattern.specs.Matches.{Groups, Member, Way, only_if, past, prefer, while_left, after_turn, turns, ending_at, or_else, stay, look, close, equals, anchor_holds, spelled, same_text, ending_here, matches}
use Rattle.syntect_pattern.specs.Nesting.{looks_fail}
use Rattle.syntect_pattern.proofs.Each.{Each, each_of, each-append, each-flat_map, each-map, each-take, each-filter}
use Rattle.syntect_pattern.proofs.TextLemmas.{boundary-true}

-- from a place with groups to a place with groups
abbrev pub Step : Type 1
Step = ℕ → Groups → ℕ → Groups → Type 0

-- What a family of steps is closed under; the flag says that the step is made in a lookaround.
-- Groups that stand there fail the test. A lookaround looks from its own place or from a boundary.
pub record IsClosed (s : List ℕ) (picks : ℕ → Bool) (R : Bool → Step) : Type 0 where
  pub here : (b : Bool) (i : ℕ) (g : Groups) → R b i g i g
  pub reads : (b : Bool) (i c : ℕ) (g : Groups) → char_at s i ≡ Some c → R b i g (i + len_utf8 c) g
  pub joins : (b : Bool) (i j k : ℕ) (g h l : Groups) → R b i g j h → R b j h k l → R b i g k l
  pub closes : (b : Bool) (n i j : ℕ) (g h : Groups) → not (b && picks n) ≡ true → R b i g j h → R b i g j (slice_set h n (Some (i, j)))
  pub looks : (b : Bool) (k i j : ℕ) (g h : Groups) → (k ≡ i) ⊎ IsCharBoundary s k → R true k g j h → R b i g i h

both_left : (a b : Bool) → (a && b) ≡ true → a ≡ true
both_left true b e = refl
both_left false b e = e

both_right : (a b : Bool) → (a && b) ≡ true → b ≡ true
both_right true b e = e
both_right false b e = cc

module _ (s : List ℕ) (text : IsUtf8 s) (picks : ℕ → Bool) (R : Bool → Step) (laws : IsClosed s picks R) where
  -- each member is a step from the place
  abbrev pub Steps : Bool → ℕ → Groups → List Member → Type 0
  Steps b i g = Each (λ m. R b i g m.0 m.1)

  abbrev pub IsStepping : Bool → Way → Type 0
  IsStepping b way = (i : ℕ) (g : Groups) → Steps b i g (way i g)

  steps-here : (b : Bool) (test : Bool) (i : ℕ) (g : Groups) → Steps b i g (only_if test i g)
  steps-here b true i g = (laws.here b i g, tt)
  steps-here b false i g = tt

  steps-read : (b : Bool) (test : Bool) (i c : ℕ) (g : Groups) → char_at s i ≡ Some c → Steps b i g (only_if test (i + len_utf8 c) g)
  steps-read b true i c g e = (laws.reads b i c g e, tt)
  steps-read b false i c g e = tt

  steps-past : (b : Bool) (test : ℕ → Bool) (i : ℕ) (g : Groups) (found : Option ℕ) → char_at s i ≡ found → Steps b i g (past test found i g)
  steps-past b test i g None e = tt
  steps-past b test i g (Some c) e = steps-read b (test c) i c g e

  -- one way after another
  steps-after : (b : Bool) (i : ℕ) (g : Groups) (ms : List Member) (f : Member → List Member)
      → Steps b i g ms → ((m : Member) → Steps b m.0 m.1 (f m)) → Steps b i g (flat_map f ms)
  steps-after b i g ms f e rest =
      each-flat_map (λ m. R b i g m.0 m.1) f ms
      (each_of (λ m. R b i g m.0 m.1) (λ m. Steps b i g (f m)) ms
      (λ m r. each_of (λ l. R b m.0 m.1 l.0 l.1) (λ l. R b i g l.0 l.1) (f m) (λ l q. laws.joins b i m.0 l.0 g m.1 l.1 r q) (rest m))
      e)

  steps-spelled : (b fold : Bool) (cs : List ℕ) → IsStepping b (spelled s fold cs)
  steps-spelled b fold [] i g = (laws.here b i g, tt)
  steps-spelled b fold (c ∷ cs) i g =
      steps-after b i g (past (equals fold c) (char_at s i) i g) (λ m. spelled s fold cs m.0 m.1)
      (steps-past b (equals fold c) i g (char_at s i) refl) (λ m. steps-spelled b fold cs m.0 m.1)

  steps-same_text : (b fold : Bool) (found : Option (Option (ℕ × ℕ))) → IsStepping b (same_text s fold found)
  steps-same_text b fold None i g = tt
  steps-same_text b fold (Some None) i g = tt
  steps-same_text b fold (Some (Some x)) i g = steps-spelled b fold (chars (slice_range s x.0 x.1)) i g

  steps-prefer : (b greedy : Bool) (i : ℕ) (g : Groups) (more leave : List Member) → Steps b i g more → Steps b i g leave → Steps b i g (prefer greedy more leave)
  steps-prefer b true i g more leave e f = each-append (λ m. R b i g m.0 m.1) more leave e f
  steps-prefer b false i g more leave e f = each-append (λ m. R b i g m.0 m.1) leave more f e

  steps-while_left : (b : Bool) (most : Option ℕ) (turn : Way) → IsStepping b turn → IsStepping b (while_left most turn)
  steps-while_left b None turn e i g = e i g
  steps-while_left b (Some zero) turn e i g = tt
  steps-while_left b (Some (suc n)) turn e i g = e i g

  steps-after_turn : (b test : Bool) (more : Way) → IsStepping b more → IsStepping b (after_turn test more)
  steps-after_turn b true more e i g = (laws.here b i g, tt)
  steps-after_turn b false more e i g = e i g

  steps-turns : (b : Bool) (body : Way) (greedy : Bool) → IsStepping b body → (n least : ℕ) (most : Option ℕ) → IsStepping b (turns body greedy n least most)
  steps-turns b body greedy e zero least most i g = tt
  steps-turns b body greedy e (suc n) least most i g =
      let more = turns body greedy n (least - 1) (option_map (λ k. k - 1) most) in
      steps-prefer b greedy i g _ _
      (steps-while_left b most (λ i g. flat_map (λ (j, h). after_turn (j == i) more j h) (body i g))
      (λ i g. steps-after b i g (body i g) (λ m. after_turn (m.0 == i) more m.0 m.1) (e i g)
      (λ m. steps-after_turn b (m.0 == i) more (steps-turns b body greedy e n (least - 1) (option_map (λ k. k - 1) most)) m.0 m.1))
      i g)
      (steps-here b (least == 0) i g)

  -- a way leads to the member from where a lookaround of this place looks
  pub record IsLed (i : ℕ) (g : Groups) (m : Member) : Type 0 where
    pub from : ℕ
    pub at : (from ≡ i) ⊎ IsCharBoundary s from
    pub step : R true from g m.0 m.1

  abbrev pub Comes : ℕ → Groups → List Member → Type 0
  Comes i g = Each (λ m. IsLed i g m)

  comes : (i k : ℕ) (g : Groups) (ms : List Member) → (k ≡ i) ⊎ IsCharBoundary s k → Steps true k g ms → Comes i g ms
  comes i k g ms at e = each_of (λ m. R true k g m.0 m.1) (λ m. IsLed i g m) ms (λ m r. record { from = k; at = at; step = r }) e

  comes-or_else : (i : ℕ) (g : Groups) (a b : List Member) → Comes i g a → Comes i g b → Comes i g (or_else a b)
  comes-or_else i g [] b e f = f
  comes-or_else i g (m ∷ a) b e f = e

  comes-ending_at : (i k : ℕ) (g : Groups) (ms : List Member) → IsCharBoundary s k → Steps true k g ms → Comes i g (ending_at i ms)
  comes-ending_at i k g ms at e =
      each-filter (λ m. IsLed i g m) (λ m. m.0 == i) ms (comes i k g ms (inr at) e)

  comes-if : (test : Bool) (i : ℕ) (g : Groups) (ms : List Member) → (test ≡ true → Comes i g ms) → Comes i g (if test then ms else [])
  comes-if true i g ms e = e refl
  comes-if false i g ms e = tt

  comes-ending_here : (body : Way) → IsStepping true body → (k i : ℕ) (g : Groups) → Comes i g (ending_here s body k i g)
  comes-ending_here body e zero i g = comes-ending_at i 0 g (body 0 g) (IsCharBoundary-start s text) (e 0 g)
  comes-ending_here body e (suc k) i g =
      comes-or_else i g _ _
      (comes-if (is_boundary s (suc k)) i g _ (λ t. comes-ending_at i (suc k) g (body (suc k) g) (boundary-true s (suc k) t) (e (suc k) g)))
      (comes-ending_here body e k i g)

  steps-stay : (b : Bool) (i : ℕ) (g : Groups) (ms : List Member) → Comes i g ms → Steps b i g (stay i ms)
  steps-stay b i g [] e = tt
  steps-stay b i g (m ∷ ms) e = (laws.looks b e.0.from i m.0 g m.1 e.0.at e.0.step, tt)

  steps-look : (b negated : Bool) (i : ℕ) (g : Groups) (ms : List Member) → Comes i g ms → Steps b i g (look negated i g ms)
  steps-look b false i g ms e = steps-stay b i g ms e
  steps-look b true i g [] e = (laws.here b i g, tt)
  steps-look b true i g (m ∷ ms) e = tt

  -- each member of a pattern is a step from its place
  pub steps-matches : (b : Bool) (t : Tree) → looks_fail picks b t ≡ true → IsStepping b (matches s t)
  steps-matches b nothing e i g = (laws.here b i g, tt)
  steps-matches b (one_of set) e i g = steps-past b (holds set) i g (char_at s i) refl
  steps-matches b (anchor a) e i g = steps-here b (anchor_holds s a i) i g
  steps-matches b (same fold n) e i g = steps-same_text b fold (slice_get g n) i g
  steps-matches b (seq a c) e i g =
      steps-after b i g (matches s a i g) (λ m. matches s c m.0 m.1)
      (steps-matches b a (both_left _ _ e) i g) (λ m. steps-matches b c (both_right _ _ e) m.0 m.1)
  steps-matches b (alt a c) e i g =
      each-append (λ m. R b i g m.0 m.1) (matches s a i g) (matches s c i g)
      (steps-matches b a (both_left _ _ e) i g) (steps-matches b c (both_right _ _ e) i g)
  steps-matches b (repeat greedy least most a) e i g = steps-turns b (matches s a) greedy (steps-matches b a e) (suc (length s - i)) least most i g
  steps-matches b (group n a) e i g =
      each-map (λ m. R b i g m.0 m.1) (close n i) (matches s a i g)
      (each_of (λ m. R b i g m.0 m.1) (λ m. R b i g m.0 (slice_set (m.1) n (Some (i, m.0)))) (matches s a i g)
      (λ m r. laws.closes b n i m.0 g m.1 (both_left _ _ e) r)
      (steps-matches b a (both_right _ _ e) i g))
  steps-matches b (atomic a) e i g = each-take (λ m. R b i g m.0 m.1) 1 (matches s a i g) (steps-matches b a e i g)
  steps-matches b (ahead negated a) e i g = steps-look b negated i g (matches s a i g) (comes i i g (matches s a i g) (inl refl) (steps-matches true a e i g))
  steps-matches b (behind negated a) e i g =
      steps-look b negated i g (ending_here s (matches s a) i i g) (comes-ending_here (matches s a) (steps-matches true a e) i i g)
