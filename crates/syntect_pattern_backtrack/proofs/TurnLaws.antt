-- The turns of a loop.
use Rattle.std.proofs.Common.{◌≡◌, ℕ, zero, suc, ◌+◌, ◌-◌, ◌<◌, ◌≤◌, ◌==◌, Bool, true, false, List, [], ◌∷◌, ◌++◌, length, refl, sym, ◌∙◌, ap, arith, length-append, Option, Some, None, add-one, reverse, ne_eqb, inl, inr}
use Rattle.std.specs.Prelude.{Result, Ok, Err, IfOk, OnOk, ◌⊎◌}
use Rattle.syntect_pattern_backtrack.specs.syntect_pattern_table.Table.{node_tree}
use Rattle.syntect_pattern_backtrack.specs.syntect_pattern_table.declared.node.Node.{Node}
use Rattle.std.proofs.Math.Seq.{take-append_seam, take-length}
use Rattle.std.proofs.lemmas.List.{reverse-append}
use Rattle.syntect_pattern_backtrack.specs.syntect_pattern.Trees.{Tree, nothing, repeat}
use Rattle.syntect_pattern_backtrack.specs.syntect_pattern.Matches.{Groups}
use Rattle.syntect_pattern_backtrack.specs.declared.state.Turns.{Turns}
use Rattle.syntect_pattern_backtrack.specs.declared.state.Continuation.TheVariants.{Again}
use Rattle.syntect_pattern_backtrack.specs.declared.state.Cell.{Cell}
use Rattle.syntect_pattern_backtrack.specs.declared.state.Next.{Next}
use Rattle.syntect_pattern_backtrack.specs.declared.state.Search.{Search}
use Rattle.syntect_pattern_backtrack.specs.declared.state.Frame.{Frame}
use Rattle.syntect_pattern_backtrack.specs.Machine.{Work, none, tick, both, On, on_item, list_at, search, tree_at, turns_of, prefer, after_turn, while_left, work_if, is_used_up, one_turn_less, pending, Fits, Goes}
use Rattle.syntect_pattern_backtrack.proofs.WorkLaws.{both-tick, both-none, both-none_right, ticks}
use Rattle.syntect_pattern_backtrack.proofs.MachineLaws.{list_at-append, list_at-seam, pending-append, CellsFit-push, FramesFit-more}
use Rattle.syntect_pattern_backtrack.proofs.StepLaws.{goes_by, goes_on, goes_cons, pending-ticks}

is_either : (b : Bool) → (b ≡ true) ⊎ (b ≡ false)
is_either true = inl refl
is_either false = inr refl

suc_is : (n : ℕ) → (suc n == 0) ≡ false
suc_is n = ne_eqb (suc n) 0 (λ e. omega arith)

prefer-none : (greedy : Bool) → prefer greedy none none ≡ none
prefer-none true = both-none none
prefer-none false = both-none none

prefer-more : (greedy : Bool) (w : Work) → prefer greedy w none ≡ w
prefer-more true w = both-none_right w
prefer-more false w = both-none w

prefer-leave : (greedy : Bool) (w : Work) → prefer greedy none w ≡ w
prefer-leave true w = both-none w
prefer-leave false w = both-none_right w

while-used : (most : Option ℕ) (w : Work) → is_used_up most ≡ true → while_left most w ≡ none
while-used None w e = cc
while-used (Some zero) w e = refl
while-used (Some (suc n)) w e = let h : true ≡ false = sym e ∙ suc_is n in cc

pub while-unused : (most : Option ℕ) (w : Work) → is_used_up most ≡ false → while_left most w ≡ w
while-unused None w e = refl
while-unused (Some zero) w e = cc
while-unused (Some (suc n)) w e = refl

module _ (s : List ℕ) (ts : List Tree) (t : Turns) (greedy : Bool) (least : ℕ) (most : Option ℕ) (a : ℕ) (is : tree_at s ts t.node ≡ repeat greedy least most (tree_at s ts a)) where
  abbrev A : Tree
  A = tree_at s ts a

  -- another turn from the place i, and then what follows the loop
  abbrev more : On → ℕ → Groups → Work
  more k i g = search s A (on_item s ts (Again (one_turn_less t) i) k) i g

  pub turn-now : (k : On) (i : ℕ) (g : Groups) → 0 < t.left
      → turns_of s ts (tree_at s ts t.node) t k i g ≡ tick (prefer greedy (while_left t.most (tick (more k i g))) (work_if (t.least == 0) (tick (k i g))))
  turn-now k i g h =
      let n : suc (t.left - 1) ≡ t.left = omega arith in
      ap (λ (T : Tree). turns_of s ts T t k i g) is
      ∙ ap (λ (l : ℕ). turns_of s ts (repeat greedy least most A) (record t { left = l }) k i g) (sym n)
      ∙ ap (λ (T : Tree). tick (prefer greedy (while_left t.most (tick (search s A (λ j h. tick (after_turn (j == i) k (turns_of s ts T (one_turn_less t) k) j h)) i g))) (work_if (t.least == 0) (tick (k i g))))) (sym is)

  -- no turn is left, and the loop is left where its least count is reached
  pub goes_turn-leave : (x : Search) (k : ℕ) → Fits s (Next.Turn t k) x → 0 < t.left → is_used_up t.most ≡ true → (t.least == 0) ≡ true → Goes s ts (Next.Turn t k) x (Next.Leave k) x
  goes_turn-leave x k hf hl hu h0 =
      let K : Work = list_at s ts x.cells.items k x.place x.groups.items in
      goes_on s ts (Next.Turn t k) (Next.Leave k) x 1 hf
      (turn-now (list_at s ts x.cells.items k) x.place x.groups.items hl
      ∙ ap (λ w. tick (prefer greedy w (work_if (t.least == 0) (tick K)))) (while-used t.most (tick (more (list_at s ts x.cells.items k) x.place x.groups.items)) hu)
      ∙ ap (λ b. tick (prefer greedy none (work_if b (tick K)))) h0
      ∙ ap tick (prefer-leave greedy (tick K)))
      hf.list

  pub goes_turn-fail : (x : Search) (k : ℕ) → Fits s (Next.Turn t k) x → 0 < t.left → is_used_up t.most ≡ true → (t.least == 0) ≡ false → Goes s ts (Next.Turn t k) x Next.Fail x
  goes_turn-fail x k hf hl hu h0 =
      let K : Work = list_at s ts x.cells.items k x.place x.groups.items in
      goes_on s ts (Next.Turn t k) Next.Fail x 0 hf
      (turn-now (list_at s ts x.cells.items k) x.place x.groups.items hl
      ∙ ap (λ w. tick (prefer greedy w (work_if (t.least == 0) (tick K)))) (while-used t.most (tick (more (list_at s ts x.cells.items k) x.place x.groups.items)) hu)
      ∙ ap (λ b. tick (prefer greedy none (work_if b (tick K)))) h0
      ∙ ap tick (prefer-none greedy))
      tt

  -- the least count is not reached: another turn and nothing else
  pub goes_turn-more : (old new : Search) (k : ℕ) → Fits s (Next.Turn t k) old → 0 < t.left → is_used_up t.most ≡ false → (t.least == 0) ≡ false
      → new.cells.items ≡ old.cells.items ++ record { item = Again (one_turn_less t) old.place; next = k } ∷ [] → new ≡ record old { cells = new.cells }
      → Goes s ts (Next.Turn t k) old (Next.Enter a (length old.cells.items + 1)) new
  goes_turn-more old new k hf hl hu h0 hc ho =
      let K : Work = list_at s ts old.cells.items k old.place old.groups.items in
      let M : Work = more (list_at s ts old.cells.items k) old.place old.groups.items in
      goes_cons s ts (Next.Turn t k) old new 1 a (record { item = Again (one_turn_less t) old.place; next = k }) hf hc ho
      (turn-now (list_at s ts old.cells.items k) old.place old.groups.items hl
      ∙ ap (λ w. tick (prefer greedy w (work_if (t.least == 0) (tick K)))) (while-unused t.most (tick M) hu)
      ∙ ap (λ b. tick (prefer greedy (tick M) (work_if b (tick K)))) h0
      ∙ ap tick (prefer-more greedy (tick M)))
      hf.list tt

  both-ticks : (w x : Work) → tick (both (tick w) (tick x)) ≡ tick (tick (both w (tick x)))
  both-ticks w x = ap tick (both-tick w (tick x))

  -- a greedy loop takes another turn and keeps leaving for later
  pub goes_turn-greedy : (old new : Search) (k : ℕ) → Fits s (Next.Turn t k) old → 0 < t.left → is_used_up t.most ≡ false → (t.least == 0) ≡ true → greedy ≡ true
      → new.cells.items ≡ old.cells.items ++ record { item = Again (one_turn_less t) old.place; next = k } ∷ []
      → new.frames.items ≡ old.frames.items ++ Frame.Leave k old.place (length old.cells.items) ∷ []
      → new.place ≡ old.place → new.groups.items ≡ old.groups.items
      → Goes s ts (Next.Turn t k) old (Next.Enter a (length old.cells.items + 1)) new
  goes_turn-greedy old new k hf hl hu h0 hg hc hr hi hs =
      let xs : List Cell = old.cells.items in
      let fs : List Frame = reverse old.frames.items in
      let g : Groups = old.groups.items in
      let c : Cell = record { item = Again (one_turn_less t) old.place; next = k } in
      let K : Work = list_at s ts xs k old.place g in
      let M : Work = more (list_at s ts xs k) old.place g in
      let long : length (xs ++ c ∷ []) ≡ suc (length xs) = omega (arith, length-append xs (c ∷ [])) in
      rw add-one (goes_by s ts (Next.Turn t k) (Next.Enter a (suc (length xs))) old new 1 (xs ++ c ∷ []) old.place g (Frame.Leave k old.place (length xs) ∷ fs)
      hc hi hs (ap reverse hr ∙ reverse-append old.frames.items (Frame.Leave k old.place (length xs) ∷ []))
      (ap (pending s ts xs g fs)
      (turn-now (list_at s ts xs k) old.place g hl
      ∙ ap (λ w. tick (prefer greedy w (work_if (t.least == 0) (tick K)))) (while-unused t.most (tick M) hu)
      ∙ ap (λ b. tick (prefer greedy (tick M) (work_if b (tick K)))) h0
      ∙ ap (λ b. tick (prefer b (tick M) (tick K))) hg
      ∙ both-ticks M K)
      ∙ pending-ticks s ts 2 xs g fs (both M (tick K))
      ∙ ap (λ zs. ticks 2 (pending s ts zs g fs (both M (tick (list_at s ts zs k old.place g))))) (sym (take-append_seam xs (c ∷ [])))
      ∙ ap (λ (l : On). ticks 2 (pending s ts (xs ++ c ∷ []) g (Frame.Leave k old.place (length xs) ∷ fs) (search s A l old.place g))) (sym (list_at-seam s ts xs c [])))
      (CellsFit-push s xs c hf.cells hf.list tt)
      (hf.list, omega arith, hf.place, hf.frames)
      (omega arith) hf.place hf.groups)

  -- a lazy loop is left and keeps another turn for later
  pub goes_turn-lazy : (old new : Search) (k : ℕ) → Fits s (Next.Turn t k) old → 0 < t.left → is_used_up t.most ≡ false → (t.least == 0) ≡ true → greedy ≡ false
      → new.cells.items ≡ old.cells.items ++ record { item = Again (one_turn_less t) old.place; next = k } ∷ []
      → new.frames.items ≡ old.frames.items ++ Frame.Enter a (suc (length old.cells.items)) old.place (length new.cells.items) ∷ []
      → new.place ≡ old.place → new.groups.items ≡ old.groups.items
      → Goes s ts (Next.Turn t k) old (Next.Leave k) new
  goes_turn-lazy old new k hf hl hu h0 hg hc hr hi hs =
      let xs : List Cell = old.cells.items in
      let fs : List Frame = reverse old.frames.items in
      let g : Groups = old.groups.items in
      let c : Cell = record { item = Again (one_turn_less t) old.place; next = k } in
      let K : Work = list_at s ts xs k old.place g in
      let M : Work = more (list_at s ts xs k) old.place g in
      let long : length (xs ++ c ∷ []) ≡ suc (length xs) = omega (arith, length-append xs (c ∷ [])) in
      goes_by s ts (Next.Turn t k) (Next.Leave k) old new 1 (xs ++ c ∷ []) old.place g (Frame.Enter a (suc (length xs)) old.place (length (xs ++ c ∷ [])) ∷ fs)
      hc hi hs
      (ap reverse hr ∙ reverse-append old.frames.items (Frame.Enter a (suc (length xs)) old.place (length new.cells.items) ∷ [])
      ∙ ap (λ zs. Frame.Enter a (suc (length xs)) old.place (length zs) ∷ fs) hc)
      (ap (pending s ts xs g fs)
      (turn-now (list_at s ts xs k) old.place g hl
      ∙ ap (λ w. tick (prefer greedy w (work_if (t.least == 0) (tick K)))) (while-unused t.most (tick M) hu)
      ∙ ap (λ b. tick (prefer greedy (tick M) (work_if b (tick K)))) h0
      ∙ ap (λ b. tick (prefer b (tick M) (tick K))) hg
      ∙ both-ticks K M)
      ∙ pending-ticks s ts 2 xs g fs (both K (tick M))
      ∙ ap (ticks 2) (sym (pending-append s ts xs (c ∷ []) g fs (both K (tick M)) hf.frames))
      ∙ ap (λ (l : On). ticks 2 (pending s ts (xs ++ c ∷ []) g fs (both K (tick (search s A l old.place g))))) (sym (list_at-seam s ts xs c []))
      ∙ ap (λ zs. ticks 2 (pending s ts zs g fs (both K (tick (search s A (list_at s ts zs (suc (length xs))) old.place g))))) (sym (take-length (xs ++ c ∷ [])))
      ∙ ap (λ (l : On). ticks 2 (pending s ts (xs ++ c ∷ []) g (Frame.Enter a (suc (length xs)) old.place (length (xs ++ c ∷ [])) ∷ fs) (l old.place g))) (sym (list_at-append s ts xs (c ∷ []) k hf.list)))
      (CellsFit-push s xs c hf.cells hf.list tt)
      (omega arith, omega arith, hf.place, FramesFit-more s (length xs) (length (xs ++ c ∷ [])) fs (omega arith) hf.frames)
      (let e : k ≤ length xs = hf.list in omega arith) hf.place hf.groups

  -- another turn is allowed, and so is leaving
  pub goes_choose : {E : Type 0} (old new : Search) (k : ℕ) (r : Result Next E) (less : Turns) → less ≡ one_turn_less t → Fits s (Next.Turn t k) old → 0 < t.left → is_used_up t.most ≡ false → (t.least == 0) ≡ true
      → OnOk r (new.cells.items ≡ old.cells.items ++ record { item = Again less old.place; next = k } ∷ [])
      → (greedy ≡ true → IfOk r (λ next. (next ≡ Next.Enter a (length old.cells.items + 1)) × (new.frames.items ≡ old.frames.items ++ Frame.Leave k old.place (length old.cells.items) ∷ [])))
      → (greedy ≡ false → IfOk r (λ next. (next ≡ Next.Leave k) × (new.frames.items ≡ old.frames.items ++ Frame.Enter a (suc (length old.cells.items)) old.place (length new.cells.items) ∷ [])))
      → new.place ≡ old.place → new.groups.items ≡ old.groups.items
      → IfOk r (λ next. Goes s ts (Next.Turn t k) old next new)
  goes_choose old new k (Ok next) less is_less hf hl hu h0 hc more leave hi hs =
      let cells = hc ∙ ap (λ (t' : Turns). old.cells.items ++ record { item = Again t' old.place; next = k } ∷ []) is_less in
      elim (is_either greedy) [
        | inl e ↦ (let m = more e in rw m.0 (goes_turn-greedy old new k hf hl hu h0 e cells m.1 hi hs))
        | inr e ↦ (let m = leave e in rw m.0 (goes_turn-lazy old new k hf hl hu h0 e cells m.1 hi hs))
      ]
  goes_choose old new k (Err e) less is_less hf hl hu h0 hc more leave hi hs = tt

  -- no turn is left of those that bound the loop
  pub goes_turn-over : (x : Search) (k : ℕ) → Fits s (Next.Turn t k) x → t.left ≡ 0 → Goes s ts (Next.Turn t k) x Next.Fail x
  goes_turn-over x k hf hl =
      let K : On = list_at s ts x.cells.items k in
      goes_on s ts (Next.Turn t k) Next.Fail x 0 hf
      (ap (λ (T : Tree). turns_of s ts T t K x.place x.groups.items) is
      ∙ ap (λ (l : ℕ). turns_of s ts (repeat greedy least most A) (record t { left = l }) K x.place x.groups.items) hl)
      tt

-- where there is no node there are no turns
pub goes_no_node : (s : List ℕ) (ts : List Tree) (t : Turns) (x : Search) (k : ℕ) → tree_at s ts t.node ≡ nothing → Fits s (Next.Turn t k) x → Goes s ts (Next.Turn t k) x Next.Fail x
goes_no_node s ts t x k is hf =
    goes_on s ts (Next.Turn t k) Next.Fail x 0 hf (ap (λ (T : Tree). turns_of s ts T t (list_at s ts x.cells.items k) x.place x.groups.items) is) tt

-- a node that is no loop has no turns
pub goes_no_loop : (s : List ℕ) (ts : List Tree) (t : Turns) (n : Node) (x : Search) (k : ℕ) → tree_at s ts t.node ≡ node_tree ts n
    → ((greedy : Bool) (least : ℕ) (most : Option ℕ) (a : ℕ) → n ≡ Node.Repeat greedy least most a → ⊥)
    → Fits s (Next.Turn t k) x → Goes s ts (Next.Turn t k) x Next.Fail x
goes_no_loop s ts t n x k is other hf =
    goes_on s ts (Next.Turn t k) Next.Fail x 0 hf
    (ap (λ (T : Tree). turns_of s ts T t (list_at s ts x.cells.items k) x.place x.groups.items) is ∙ go n other) tt
  where
    go : (n : Node) → ((greedy : Bool) (least : ℕ) (most : Option ℕ) (a : ℕ) → n ≡ Node.Repeat greedy least most a → ⊥)
        → turns_of s ts (node_tree ts n) t (list_at s ts x.cells.items k) x.place x.groups.items ≡ tick none
    go Node.Nothing not_loop = refl
    go (Node.Char c) not_loop = refl
    go (Node.Class c) not_loop = refl
    go (Node.Anchor a) not_loop = refl
    go (Node.Same fold m) not_loop = refl
    go (Node.Text l a) not_loop = refl
    go (Node.Sequence a b) not_loop = refl
    go (Node.Alternation a b) not_loop = refl
    go (Node.Repeat greedy least most a) not_loop = absurd (not_loop greedy least most a refl)
    go (Node.Group m a) not_loop = refl
    go (Node.Atomic a) not_loop = refl
    go (Node.Ahead negated a) not_loop = refl
    go (Node.Behind negated a) not_loop = refl
