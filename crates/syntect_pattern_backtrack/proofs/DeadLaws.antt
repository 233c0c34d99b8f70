-- Nodes that have no match, as is seen at once.
use Rattle.std.proofs.Common.{◌≡◌, ◌<◌, ◌≤◌, ◌+◌, ℕ, zero, suc, Bool, true, false, not, List, [], length, refl, sym, ◌∙◌, ap, arith, Option, Some, None, reverse}
use Rattle.std.specs.Prelude.{is_some, if◌then◌else◌}
use Rattle.std.specs.Char.{len_utf8}
use Rattle.std.specs.List.{All}
use Rattle.std.specs.Option.{option_or}
use Rattle.syntect_pattern_backtrack.specs.syntect_pattern.Text.{char_at}
use Rattle.syntect_pattern_backtrack.specs.syntect_pattern.Sets.{Set, holds}
use Rattle.syntect_pattern_backtrack.specs.syntect_pattern.Trees.{Tree, one_of, anchor, alt}
use Rattle.syntect_pattern_backtrack.specs.syntect_pattern.declared.anchor.Anchor.{Anchor}
use Rattle.syntect_pattern_backtrack.specs.syntect_pattern.Matches.{Groups, Member, past, only_if, anchor_holds}
use Rattle.std.proofs.Math.Logic.{∥∥₁_elim}
use Rattle.std.proofs.Props.{props}
use Rattle.syntect_pattern_backtrack.specs.syntect_pattern_table.Jumps.{branches, tree_behind, HasBranches, LeadsPast}
use Rattle.syntect_pattern_backtrack.specs.declared.state.Next.{Next}
use Rattle.syntect_pattern_backtrack.specs.declared.state.Search.{Search}
use Rattle.syntect_pattern_backtrack.specs.Machine.{Work, On, tick, both, search, list_at, tree_at, now, ListFits, Fits, FindsAlike, Goes}
use Rattle.syntect_pattern_steps.specs.First.{IsDead}
use Rattle.syntect_pattern_steps.specs.Steps.{after_char}
use Rattle.syntect_pattern_backtrack.proofs.FirstLaws.{search-first, first_each, finds}
use Rattle.syntect_pattern_backtrack.proofs.MachineLaws.{pending-less}

pub none_is : (o : Option ℕ) (b : Bool) → is_some o ≡ not b → b ≡ true → o ≡ None
none_is None b e h = refl
none_is (Some c) true e h = cc
none_is (Some c) false e h = cc

pub false_is : (b : Bool) → not b ≡ true → b ≡ false
false_is true h = cc
false_is false h = refl

module _ (s : List ℕ) (i : ℕ) where
  no_past : (test : ℕ → Bool) (o : Option ℕ) (g : Groups) → after_char test o i ≡ None → past test o i g ≡ []
  no_past test None g e = refl
  no_past test (Some c) g e = go (test c) e
    where
      go : (b : Bool) → (if b then Some (i + len_utf8 c) else None) ≡ None → only_if b (i + len_utf8 c) g ≡ []
      go true h = cc
      go false h = refl

  pub dead-one : (a : Set) → after_char (holds a) (char_at s i) i ≡ None → IsDead s i (one_of a)
  dead-one a e g = no_past (holds a) (char_at s i) g e

  pub dead-anchor : (a : Anchor) → anchor_holds s a i ≡ false → IsDead s i (anchor a)
  dead-anchor a e g = ap (λ (b : Bool). only_if b i g) e

module _ (s : List ℕ) (ts : List Tree) where
  -- what comes next finds the same in fewer steps
  pub goes_less : (next next' : Next) (x : Search) → Fits s next x
      → (now s ts next' x.cells.items x.place x.groups.items).found ≡ (now s ts next x.cells.items x.place x.groups.items).found
      → (now s ts next' x.cells.items x.place x.groups.items).count < (now s ts next x.cells.items x.place x.groups.items).count
      → ListFits next' (length x.cells.items)
      → Goes s ts next x next' x
  goes_less next next' x hf f c hl =
      let less = pending-less s ts x.cells.items x.groups.items (reverse x.frames.items) (now s ts next' x.cells.items x.place x.groups.items) (now s ts next x.cells.items x.place x.groups.items) f c in
      record {
        found = less.0;
        fewer = less.1;
        fits = record { cells = hf.cells; frames = hf.frames; list = hl; place = hf.place; groups = hf.groups };
      }

  pub dead-found : (a : Tree) (K : On) (i : ℕ) (g : Groups) → IsDead s i a → (search s a K i g).found ≡ None
  dead-found a K i g h = search-first s a K i g ∙ ap (first_each (finds K)) (h g)

  -- after branches without a match the same is found, in fewer steps
  past-found : (K : On) (i : ℕ) (g : Groups) (n : ℕ) (t : Tree) → HasBranches n t → All (IsDead s i) (branches n t)
      → ((search s (tree_behind n t) K i g).found ≡ (search s t K i g).found) × ((search s (tree_behind n t) K i g).count + n ≤ (search s t K i g).count)
  unfolding both tick
  past-found K i g zero t h d = (refl, omega arith)
  past-found K i g (suc n) (alt a b) h d =
      let rest = past-found K i g n b (omega (arith, h)) (λ m c l. d (suc m) c (omega (arith, l))) in
      (rest.0 ∙ ap (λ o. option_or o (search s b K i g).found) (sym (dead-found a K i g (d 0 a (omega arith)))), omega (arith, rest.1))
  past-found K i g (suc n) t h d = absurd (omega (arith, h))

module _ (s : List ℕ) (ts : List Tree) (node k : ℕ) where
  -- what is entered, for an alternation
  entered : (x : Search) (a b : Tree) → tree_at s ts node ≡ alt a b → now s ts (Next.Enter node k) x.cells.items x.place x.groups.items
      ≡ tick (both (search s a (list_at s ts x.cells.items k) x.place x.groups.items) (tick (search s b (list_at s ts x.cells.items k) x.place x.groups.items)))
  entered x a b is = ap (λ (t : Tree). search s t (list_at s ts x.cells.items k) x.place x.groups.items) is

  or_none : (o : Option Member) → option_or o None ≡ o
  or_none None = refl
  or_none (Some m) = refl

  -- a branch alone is entered
  goes_branch : (x : Search) (a : ℕ) (w : Work) → Fits s (Next.Enter node k) x → now s ts (Next.Enter node k) x.cells.items x.place x.groups.items ≡ w
      → (now s ts (Next.Enter a k) x.cells.items x.place x.groups.items).found ≡ w.found → (now s ts (Next.Enter a k) x.cells.items x.place x.groups.items).count < w.count
      → Goes s ts (Next.Enter node k) x (Next.Enter a k) x
  goes_branch x a w hf e f c =
      goes_less s ts (Next.Enter node k) (Next.Enter a k) x hf (f ∙ sym (ap (λ (v : Work). v.found) e)) (omega (arith, ap (λ (v : Work). v.count) e, c)) hf.list

  -- the first branch has no match
  pub goes_second : (x : Search) (a b : ℕ) → tree_at s ts node ≡ alt (tree_at s ts a) (tree_at s ts b) → Fits s (Next.Enter node k) x → IsDead s x.place (tree_at s ts a)
      → Goes s ts (Next.Enter node k) x (Next.Enter b k) x
  unfolding both tick
  goes_second x a b is hf h =
      let K : On = list_at s ts x.cells.items k in
      let A : Work = search s (tree_at s ts a) K x.place x.groups.items in
      let B : Work = search s (tree_at s ts b) K x.place x.groups.items in
      goes_branch x b (tick (both A (tick B))) hf (entered x (tree_at s ts a) (tree_at s ts b) is)
      (ap (λ o. option_or o B.found) (sym (dead-found s ts (tree_at s ts a) K x.place x.groups.items h))) (omega arith)

  -- the second branch has no match
  pub goes_first : (x : Search) (a b : ℕ) → tree_at s ts node ≡ alt (tree_at s ts a) (tree_at s ts b) → Fits s (Next.Enter node k) x → IsDead s x.place (tree_at s ts b)
      → Goes s ts (Next.Enter node k) x (Next.Enter a k) x
  unfolding both tick
  goes_first x a b is hf h =
      let K : On = list_at s ts x.cells.items k in
      let A : Work = search s (tree_at s ts a) K x.place x.groups.items in
      let B : Work = search s (tree_at s ts b) K x.place x.groups.items in
      goes_branch x a (tick (both A (tick B))) hf (entered x (tree_at s ts a) (tree_at s ts b) is)
      (sym (ap (option_or A.found) (dead-found s ts (tree_at s ts b) K x.place x.groups.items h) ∙ or_none A.found)) (omega arith)

  -- branches have no match
  pub goes_past : (x : Search) (a : ℕ) → ∥ LeadsPast s x.place (tree_at s ts node) (tree_at s ts a) ∥₁ → Fits s (Next.Enter node k) x → Goes s ts (Next.Enter node k) x (Next.Enter a k) x
  goes_past x a led hf =
      let K : On = list_at s ts x.cells.items k in
      let at : Tree → Work = λ t. search s t K x.place x.groups.items in
      goes_less s ts (Next.Enter node k) (Next.Enter a k) x hf
      (∥∥₁_elim led (hlevel props) (λ (p : LeadsPast s x.place (tree_at s ts node) (tree_at s ts a)).
      ap (λ t. (at t).found) p.leads ∙ (past-found s ts K x.place x.groups.items p.count (tree_at s ts node) p.there p.dead).0))
      (∥∥₁_elim led (hlevel props) (λ (p : LeadsPast s x.place (tree_at s ts node) (tree_at s ts a)).
      omega (arith, ap (λ t. (at t).count) p.leads, (past-found s ts K x.place x.groups.items p.count (tree_at s ts node) p.there p.dead).1, p.some)))
      hf.list

-- ---- branch after branch ----

module _ (s : List ℕ) (ts : List Tree) where
  pub alike-self : (next : Next) (x : Search) → Fits s next x → FindsAlike s ts next next x
  alike-self next x hf = record { found = refl; steps = omega arith; fits = hf }

  pub alike-more : (next next' next2 : Next) (x : Search) → FindsAlike s ts next next' x → Goes s ts next' x next2 x → FindsAlike s ts next next2 x
  alike-more next next' next2 x a g = record { found = g.found ∙ a.found; steps = omega (arith, g.fewer, a.steps); fits = g.fits }

  pub goes-alike : (next next' next2 : Next) (x : Search) → Goes s ts next x next' x → FindsAlike s ts next' next2 x → Goes s ts next x next2 x
  goes-alike next next' next2 x g a = record { found = a.found ∙ g.found; fewer = omega (arith, g.fewer, a.steps); fits = a.fits }
