-- Letters in a row.
use Rattle.std.proofs.Common.{◌≡◌, ℕ, zero, suc, ◌+◌, Bool, true, false, List, [], ◌∷◌, append-nil, refl, sym, ◌∙◌, ap, Option, Some, None}
use Rattle.std.specs.Prelude.{IsCharBoundary, IfSome, IfNone, if◌then◌else◌}
use Rattle.std.specs.Char.{len_utf8}
use Rattle.std.specs.List.{flat_map}
use Rattle.syntect_pattern_backtrack.specs.syntect_pattern.Letters.{letters_of, letters_tree}
use Rattle.syntect_pattern_backtrack.specs.syntect_pattern.declared.letters.Letters.{Letters}
use Rattle.syntect_pattern_backtrack.specs.syntect_pattern.Matches.{Groups, Member, matches, past, only_if}
use Rattle.syntect_pattern_backtrack.specs.syntect_pattern.Sets.{from_to, holds}
use Rattle.syntect_pattern_backtrack.specs.syntect_pattern.Text.{char_at}
use Rattle.syntect_pattern_backtrack.specs.syntect_pattern.Trees.{Tree}
use Rattle.syntect_pattern_backtrack.specs.declared.state.Next.{Next}
use Rattle.syntect_pattern_backtrack.specs.declared.state.Search.{Search}
use Rattle.syntect_pattern_backtrack.specs.Machine.{Work, On, tick, go_on, list_at, search, tree_at, now, Fits, Goes}
use Rattle.syntect_pattern_steps.specs.Steps.{after_char, after_letters, at_end, on_from}
use Rattle.syntect_pattern_steps.specs.First.{IsDead}
use Rattle.syntect_pattern_backtrack.proofs.StepLaws.{goes_to}
use Rattle.syntect_pattern_backtrack.proofs.WorkLaws.{ticks}

-- the steps after a letter's first one: one, and where it stands, another one and those of the
-- letters after it
abbrev steps_on : Option ℕ → (ℕ → ℕ) → ℕ
steps_on None more = suc zero
steps_on (Some j) more = suc (suc (more j))

-- a match of one character ends after it
past-after : (test : ℕ → Bool) (o : Option ℕ) (i : ℕ) (g : Groups) → past test o i g ≡ at_end (after_char test o i) g
past-after test None i g = refl
past-after test (Some c) i g = go (test c)
  where
    go : (b : Bool) → only_if b (i + len_utf8 c) g ≡ at_end (if b then Some (i + len_utf8 c) else None) g
    go true = refl
    go false = refl

module _ (s : List ℕ) (fold : Bool) where
  -- the place after the letter, if it stands at the place
  abbrev behind : ℕ → ℕ → Option ℕ
  behind c i = after_char (holds (from_to fold c c)) (char_at s i) i

  -- how many steps the letters take from the place
  abbrev letter_steps : List ℕ → ℕ → ℕ
  letter_steps [] i = zero
  letter_steps (c ∷ cs) i = suc (steps_on (behind c i) (letter_steps cs))

  -- letters in a row take some steps, and then the tree goes on after them, if they stand there
  letters-search : (t : Tree) (cs : List ℕ) (K : On) (i : ℕ) (g : Groups)
      → search s (letters_tree fold cs t) K i g ≡ ticks (letter_steps cs i) (go_on (after_letters s fold cs i) (search s t K) g)
  letters-search t [] K i g = refl
  letters-search t (c ∷ cs) K i g = go (λ j. letters-search t cs K j g) (behind c i)
    where
      go : ((j : ℕ) → search s (letters_tree fold cs t) K j g ≡ ticks (letter_steps cs j) (go_on (after_letters s fold cs j) (search s t K) g))
          → (o : Option ℕ) → tick (tick (go_on o (λ j h. tick (search s (letters_tree fold cs t) K j h)) g))
          ≡ ticks (suc (steps_on o (letter_steps cs))) (go_on (on_from o (after_letters s fold cs)) (search s t K) g)
      go others None = refl
      go others (Some j) = ap (λ (w : Work). tick (tick (tick w))) (others j)

  -- where the letters don't stand, there is no match
  pub dead-letters : (t : Tree) (cs : List ℕ) (i : ℕ) → after_letters s fold cs i ≡ None → IsDead s i (letters_tree fold cs t)
  dead-letters t [] i h g = cc
  dead-letters t (c ∷ cs) i h g =
      ap (flat_map on) (past-after (holds (from_to fold c c)) (char_at s i) i g) ∙ go (λ j e. dead-letters t cs j e g) (behind c i) h
    where
      -- the matches of the others after the letter
      on : Member → List Member
      on m = matches s (letters_tree fold cs t) m.0 m.1

      go : ((j : ℕ) → after_letters s fold cs j ≡ None → on (j, g) ≡ []) → (o : Option ℕ) → on_from o (after_letters s fold cs) ≡ None → flat_map on (at_end o g) ≡ []
      go others None e = refl
      go others (Some j) e = append-nil (on (j, g)) ∙ others j e

module _ (s : List ℕ) (ts : List Tree) (node k : ℕ) where
  -- what is entered, for letters in a row
  letters_read : (old : Search) (l : Letters) (a : ℕ) → tree_at s ts node ≡ letters_tree l.fold (letters_of l) (tree_at s ts a)
      → now s ts (Next.Enter node k) old.cells.items old.place old.groups.items
      ≡ ticks (letter_steps s l.fold (letters_of l) old.place) (go_on (after_letters s l.fold (letters_of l) old.place) (search s (tree_at s ts a) (list_at s ts old.cells.items k)) old.groups.items)
  letters_read old l a is =
      ap (λ (t : Tree). search s t (list_at s ts old.cells.items k) old.place old.groups.items) is
      ∙ letters-search s l.fold (tree_at s ts a) (letters_of l) (list_at s ts old.cells.items k) old.place old.groups.items

  -- letters in a row are read, or they don't stand at the place
  pub goes_text : (old new : Search) (l : Letters) (a : ℕ) (next : Next) (place : Option ℕ)
      → tree_at s ts node ≡ letters_tree l.fold (letters_of l) (tree_at s ts a) → Fits s (Next.Enter node k) old
      → place ≡ after_letters s l.fold (letters_of l) old.place → IfSome place (λ j. IsCharBoundary s j)
      → IfSome place (λ j. (next ≡ Next.Enter a k) × (new ≡ record old { place = j })) → IfNone place ((next ≡ Next.Fail) × (new ≡ old))
      → Goes s ts (Next.Enter node k) old next new
  goes_text old new l a next None is hf e b some none =
      rw none.0 (goes_to s ts (Next.Enter node k) Next.Fail old new _ old.place hf
      (ap (λ (x : Search). x.cells.items) none.1) (ap (λ (x : Search). x.groups.items) none.1) (ap (λ (x : Search). x.frames.items) none.1) (ap (λ (x : Search). x.place) none.1)
      (letters_read old l a is ∙ ap (λ p. ticks (letter_steps s l.fold (letters_of l) old.place) (go_on p (search s (tree_at s ts a) (list_at s ts old.cells.items k)) old.groups.items)) (sym e))
      tt hf.place)
  goes_text old new l a next (Some j) is hf e b some none =
      rw some.0 (goes_to s ts (Next.Enter node k) (Next.Enter a k) old new _ j hf
      (ap (λ (x : Search). x.cells.items) some.1) (ap (λ (x : Search). x.groups.items) some.1) (ap (λ (x : Search). x.frames.items) some.1) (ap (λ (x : Search). x.place) some.1)
      (letters_read old l a is ∙ ap (λ p. ticks (letter_steps s l.fold (letters_of l) old.place) (go_on p (search s (tree_at s ts a) (list_at s ts old.cells.items k)) old.groups.items)) (sym e))
      hf.list b)
