-- What an iterator over pieces has come to.
use Rattle.std.proofs.Common.{◌≡◌, ℕ, ◌≤◌, ◌<◌, true, false, List, [], ◌∷◌, ◌++◌, length, refl, sym, ap, ◌∙◌, arith, append_assoc, Option, Some, None, Ok, Err, Bor}
use Rattle.std.specs.Prelude.{nat_lt, MatchOption}
use Rattle.std.specs.List.{IsFirstAndRest}
use Rattle.std.specs.declared.ops.Range.{Range}
use Rattle.std.specs.Str.{IsCharBoundary}
use Rattle.std.proofs.lemmas.Bool.{lt-ltb}
use Rattle.std.proofs.lemmas.Bool.Decides.{nat_tests}
use Rattle.syntect_style.specs.syntect_scope.Stack.{applied, is_refused}
use Rattle.syntect_style.specs.syntect_scope.Replay.{InOrder, AllApply}
use Rattle.syntect_style.specs.syntect_scope.declared.stack.ScopeStack.{ScopeStack}
use Rattle.syntect_style.specs.syntect_scope.declared.stack.ScopeStackOp.{ScopeStackOp}
use Rattle.syntect_style.specs.syntect_scope.declared.stack.ScopeError.{ScopeError}
use Rattle.syntect_style.specs.syntect_scope.declared.stack.ScopeError.TheVariants.{NoClearedScopesToRestore, Memory}
use Rattle.syntect_style.specs.Pieces.{Stretch, stretch, stretches, last_stack, KeepsTrueStyles}
use Rattle.syntect_style.specs.Items.{theme_of, stack_of, IsReady, left, final, Tells, Shows, Carries, Passes, Gives}
use Rattle.syntect_theme.specs.declared.style.Style.{Style}
use Rattle.syntect_style.specs.declared.pieces.RangedHighlightIterator.{RangedHighlightIterator}

-- ---- one operation more ----

no_stretch : (n : ℕ) (ss : List (List ℕ)) → stretch n n ss ≡ []
no_stretch n ss = let e : nat_lt n n ≡ false = grind (arith, nat_tests) in rw e refl

one_stretch : (at to : ℕ) (ss : List (List ℕ)) → at < to → stretch at to ss ≡ record { from = at; to = to; scopes = ss } ∷ []
one_stretch at to ss h = rw (lt-ltb at to h) refl

stretches_skip : (end at : ℕ) (s : ScopeStack) (o : ℕ × ScopeStackOp) (os : List (ℕ × ScopeStackOp)) → is_refused o.1 s ≡ false → at ≡ o.0
    → stretches end at s (o ∷ os) ≡ stretches end at (applied o.1 s) os
stretches_skip end at s o os r e = rw (r, e, no_stretch o.0 s.scopes) refl

stretches_cut : (end at : ℕ) (s : ScopeStack) (o : ℕ × ScopeStackOp) (os : List (ℕ × ScopeStackOp)) → is_refused o.1 s ≡ false → at < o.0
    → stretches end at s (o ∷ os) ≡ Ok (record { from = at; to = o.0; scopes = s.scopes }) ∷ stretches end o.0 (applied o.1 s) os
stretches_cut end at s o os r h = rw (r, one_stretch at o.0 s.scopes h) refl

last_more : (s : ScopeStack) (xs : List (ℕ × ScopeStackOp)) (o : ℕ × ScopeStackOp) → AllApply s xs → is_refused o.1 (last_stack s xs) ≡ false
    → AllApply s (xs ++ o ∷ []) × (last_stack s (xs ++ o ∷ []) ≡ applied o.1 (last_stack s xs))
last_more s [] o a r = ((r, tt), rw r refl)
last_more s (x ∷ xs) o a r =
    let i : AllApply (applied x.1 s) (xs ++ o ∷ []) × (last_stack (applied x.1 s) (xs ++ o ∷ []) ≡ applied o.1 (last_stack (applied x.1 s) xs))
    = last_more (applied x.1 s) xs o a.1 (rw a.0 at r) in
    ((a.0, i.0), rw a.0 i.1)

order_more : (text : List ℕ) (from : ℕ) (xs : List (ℕ × ScopeStackOp)) (to : ℕ) (o : ℕ × ScopeStackOp) → InOrder text from xs to → to ≤ o.0 → IsCharBoundary text o.0 → InOrder text from (xs ++ o ∷ []) o.0
order_more text from [] to o h l b = (omega arith, b, omega arith)
order_more text from (x ∷ xs) to o h l b = (h.0, h.1, order_more text x.0 xs to o h.2 l b)

order_longer : (text : List ℕ) (from : ℕ) (xs : List (ℕ × ScopeStackOp)) (to end : ℕ) → InOrder text from xs to → to ≤ end → InOrder text from xs end
order_longer text from [] to end h l = omega arith
order_longer text from (x ∷ xs) to end h l = (h.0, h.1, order_longer text x.0 xs to end h.2 l)

pub last_rest : (s : ScopeStack) (xs os : List (ℕ × ScopeStackOp)) → AllApply s xs → last_stack s (xs ++ os) ≡ last_stack (last_stack s xs) os
last_rest s [] os a = refl
last_rest s (x ∷ xs) os a = rw a.0 (last_rest (applied x.1 s) xs os a.1)

-- ---- operations that were passed ----

-- one operation more was applied, at a place not below the one that was reached
passes-more : {s m t : RangedHighlightIterator} {o : ℕ × ScopeStackOp} {os : List (ℕ × ScopeStackOp)} {at : ℕ} → Passes s m at (o ∷ os) → at ≤ o.0 → IsCharBoundary s.text.now o.0
    → is_refused o.1 (stack_of m) ≡ false → stack_of t ≡ applied o.1 (stack_of m) → Passes s t o.0 os
passes-more {s} {m} {t} {o} {os} {at} h l b r a =
    let k : AllApply (stack_of s) (h.done ++ o ∷ []) × (last_stack (stack_of s) (h.done ++ o ∷ []) ≡ applied o.1 (last_stack (stack_of s) h.done))
    = last_more (stack_of s) h.done o h.apply (rw (← h.stack) r) in
    record {
      done = h.done ++ o ∷ [];
      split = rw (append_assoc h.done (o ∷ []) os) h.split;
      order = order_more s.text.now s.pos h.done at o h.order l b;
      apply = k.0;
      stack = a ∙ ap (applied o.1) h.stack ∙ sym k.1;
    }

-- the same place, the same operations left, and the same stack
passes-same : {s m t : RangedHighlightIterator} {to end : ℕ} {os others : List (ℕ × ScopeStackOp)} → Passes s m to os → to ≤ end → others ≡ os → stack_of t ≡ stack_of m → Passes s t end others
passes-same {s} {to = to} {end = end} h l e a = record {
  done = h.done;
  split = rw e h.split;
  order = order_longer s.text.now s.pos h.done to end h.order l;
  apply = h.apply;
  stack = a ∙ h.stack;
}

pub passes-final : {s t : RangedHighlightIterator} {to : ℕ} → Passes s t to t.changes.now → final t ≡ final s
passes-final {s} {t} h = ap (λ (x : ScopeStack). last_stack x t.changes.now) h.stack ∙ sym (last_rest (stack_of s) h.done t.changes.now h.apply) ∙ sym (ap (λ (l : List (ℕ × ScopeStackOp)). last_stack (stack_of s) l) h.split)

-- ---- a call of next ----

-- Operations at the place were applied, and no piece was given.
pub record PassedOver (s t : RangedHighlightIterator) : Type 0 where
  pub ready : IsReady t
  pub carries : Carries s t
  pub pos : t.pos ≡ s.pos
  pub left : left s ≡ left t
  pub passes : Passes s t s.pos t.changes.now

-- t is m with these operations left at this place
pub record Moved (m t : RangedHighlightIterator) (rest : List (ℕ × ScopeStackOp)) (place : ℕ) : Type 0 where
  pub text : t.text ≡ m.text
  pub highlighter : t.highlighter ≡ m.highlighter
  pub state : t.state.ghost_name ≡ m.state.ghost_name
  pub keeps : KeepsTrueStyles (theme_of m) m.state.now → KeepsTrueStyles (theme_of m) t.state.now
  pub changes : t.changes.now ≡ rest
  pub pos : t.pos ≡ place

carries-on : {s m t : RangedHighlightIterator} {rest : List (ℕ × ScopeStackOp)} {place : ℕ} → Carries s m → Moved m t rest place → Carries s t
carries-on c v = record {
  text = v.text ∙ c.text;
  highlighter = v.highlighter ∙ c.highlighter;
  state = v.state ∙ c.state;
  keeps = λ k. rw c.highlighter at v.keeps (c.keeps k);
}

pub passed-more : {s m t : RangedHighlightIterator} {o : ℕ × ScopeStackOp} {os : List (ℕ × ScopeStackOp)} → PassedOver s m → m.changes.now ≡ o ∷ os → Moved m t os m.pos
    → m.pos ≡ o.0 → is_refused o.1 (stack_of m) ≡ false → stack_of t ≡ applied o.1 (stack_of m) → PassedOver s t
passed-more {s} {m} {t} {o} {os} h e v at r a =
    let g : IsReady m = h.ready in
    let q : (m.pos ≤ o.0) × IsCharBoundary m.text.now o.0 × InOrder m.text.now o.0 os (length m.text.now) = rw e at g.1 in
    let b : IsCharBoundary s.text.now o.0 = rw h.carries.text at q.1 in
    let n : s.pos ≤ o.0 = omega (arith, h.pos) in
    let p : Passes s t o.0 os = passes-more (rw e at h.passes) n b r a in
    record {
      ready = rw (v.text, v.changes, v.pos) (g.0, rw at q.2);
      carries = carries-on h.carries v;
      pos = v.pos ∙ h.pos;
      left = h.left ∙ rw (e, v.text, v.changes, v.pos, a) (stretches_skip (length m.text.now) m.pos (stack_of m) o os r at);
      passes = passes-same p (omega (arith, h.pos)) v.changes refl;
    }

pub shows-on : {s m : RangedHighlightIterator} {st : Stretch} {p : Style × Bor (List ℕ) × Range ℕ} → Carries s m → Shows (theme_of m) m.text.now (Tells m) st p → Shows (theme_of s) s.text.now (Tells s) st p
shows-on c w = record {
  style = λ k. rw c.highlighter at (w.style (rw c.highlighter (c.keeps k)));
  text_of = rw c.text at w.text_of;
  from = w.from;
  to = w.to;
}

-- a stretch that ends at an operation
pub gives-piece : {s m t : RangedHighlightIterator} {o : ℕ × ScopeStackOp} {os : List (ℕ × ScopeStackOp)} → PassedOver s m → m.changes.now ≡ o ∷ os → Moved m t os o.0
    → is_refused o.1 (stack_of m) ≡ false → stack_of t ≡ applied o.1 (stack_of m)
    → (p : Style × Bor (List ℕ) × Range ℕ) → m.pos < o.0 → Shows (theme_of m) m.text.now (Tells m) (record { from = m.pos; to = o.0; scopes = (stack_of m).scopes }) p
    → Gives s (Some (Ok p)) t
gives-piece {s} {m} {t} {o} {os} h e v r a p l w =
    let g : IsReady m = h.ready in
    let q : (m.pos ≤ o.0) × IsCharBoundary m.text.now o.0 × InOrder m.text.now o.0 os (length m.text.now) = rw e at g.1 in
    let b : IsCharBoundary s.text.now o.0 = rw h.carries.text at q.1 in
    let n : s.pos ≤ o.0 = omega (arith, h.pos) in
    let k : Passes s t o.0 os = passes-more (rw e at h.passes) n b r a in (
      carries-on h.carries v,
      record {
        piece = record { from = m.pos; to = o.0; scopes = (stack_of m).scopes };
        next = h.left ∙ rw (e, v.text, v.changes, v.pos, a) (stretches_cut (length m.text.now) m.pos (stack_of m) o os r l);
        to = sym v.pos;
        passes = passes-same k (omega (arith, v.pos)) v.changes refl;
        shows = shows-on h.carries w;
      },
    )

-- the last stretch
pub gives-last : {s m t : RangedHighlightIterator} → PassedOver s m → m.changes.now ≡ [] → (m.pos ≡ length m.text.now → ⊥) → Moved m t [] (length m.text.now) → stack_of t ≡ stack_of m
    → (p : Style × Bor (List ℕ) × Range ℕ) → Shows (theme_of m) m.text.now (Tells m) (record { from = m.pos; to = length m.text.now; scopes = (stack_of m).scopes }) p
    → Gives s (Some (Ok p)) t
gives-last {s} {m} {t} h e n v a p w =
    let b : m.pos ≤ length m.text.now = h.ready.0.0 in
    let l : m.pos < length m.text.now = omega arith in
    let f : length m.text.now ≡ length s.text.now = ap (λ (x : Bor (List ℕ)). length x.now) h.carries.text in (
      carries-on h.carries v,
      record {
        piece = record { from = m.pos; to = length m.text.now; scopes = (stack_of m).scopes };
        next = h.left ∙ rw (e, v.changes, v.text, v.pos, one_stretch m.pos (length m.text.now) (stack_of m).scopes l, no_stretch (length m.text.now) (stack_of t).scopes) refl;
        to = sym v.pos;
        passes = passes-same h.passes (omega (arith, h.pos, v.pos)) (v.changes ∙ sym e) a;
        shows = shows-on h.carries w;
      },
    )

-- a refused operation, or lack of memory at it
pub gives-error : {s m t : RangedHighlightIterator} {o : ℕ × ScopeStackOp} {os : List (ℕ × ScopeStackOp)} (e : ScopeError) → PassedOver s m → m.changes.now ≡ o ∷ os → Moved m t [] (length m.text.now)
    → stack_of t ≡ stack_of m → (e ≡ NoClearedScopesToRestore → is_refused o.1 (stack_of m) ≡ true) → Gives s (Some (Err e)) t
gives-error {s} {m} {t} {o} {os} NoClearedScopesToRestore h c v a r =
    let b : is_refused o.1 (stack_of m) ≡ true = r refl in (
      carries-on h.carries v,
      (
        h.left ∙ rw (c, b) refl,
        (v.changes, v.pos ∙ ap (λ (x : Bor (List ℕ)). length x.now) (sym v.text)),
        a ∙ rw (c, b) at (passes-final h.passes),
      ),
    )
gives-error {s} {m} {t} {o} {os} Memory h c v a r = (
  carries-on h.carries v,
  record { others = m.changes.now; passes = passes-same h.passes (omega arith) refl a; over = (v.changes, v.pos ∙ ap (λ (x : Bor (List ℕ)). length x.now) (sym v.text)) },
)

pub none_first : {X : Type 0} {xs : List X} {r : Option (Bor X × Bor (List X))} → MatchOption r (length xs ≡ 0) (λ p. IsFirstAndRest xs p.0.now p.1.now) → ((p : Bor X × Bor (List X)) → r ≡ Some p → ⊥) → xs ≡ []
none_first {xs = []} m n = refl
none_first {xs = x ∷ xs} {r = None} m n = absurd (omega arith)
none_first {xs = x ∷ xs} {r = Some p} m n = absurd (n p refl)
