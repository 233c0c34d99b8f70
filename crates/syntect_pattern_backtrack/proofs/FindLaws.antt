-- The least place that has a match.
use Rattle.std.proofs.Common.{◌≡◌, ℕ, zero, suc, ◌+◌, ◌-◌, ◌<◌, ◌≤◌, Bool, true, false, List, [], length, get_or, refl, sym, ◌∙◌, ap, arith, Some, None, inl, inr}
use Rattle.std.proofs.lemmas.Bool.{cases_lt}
use Rattle.std.proofs.lemmas.Str.{IsCharBoundary-start}
use Rattle.std.specs.Prelude.{IsCharBoundary, IsUtf8, slice_get, option_map, replicate, if◌then◌else◌}
use Rattle.std.specs.Option.{option_or}
use Rattle.syntect_pattern_backtrack.specs.syntect_pattern.Text.{is_boundary}
use Rattle.syntect_pattern_steps.proofs.BoundaryLaws.{boundary-true}
use Rattle.syntect_pattern_backtrack.specs.syntect_pattern.Trees.{Tree, nothing, group}
use Rattle.syntect_pattern_backtrack.specs.syntect_pattern.Matches.{Groups, Member, matches, unset, found_at, found_within, found}
use Rattle.syntect_pattern_backtrack.specs.syntect_pattern_table.Program.{trees_of, IsProgramOf}
use Rattle.syntect_pattern_backtrack.specs.syntect_pattern_table.declared.program.Program.{Program}
use Rattle.syntect_pattern_backtrack.specs.declared.state.Search.{Search}
use Rattle.syntect_pattern_backtrack.specs.Machine.{is_start, match_of, groups_of}

pub start-boundary : (s : List ℕ) → IsUtf8 s → (i : ℕ) → is_start s i ≡ true → IsCharBoundary s i
start-boundary s u zero h = IsCharBoundary-start s u
start-boundary s u (suc i) h = boundary-true s (suc i) h

groups-match : (b : Bool) (x : Search) → groups_of b x ≡ option_map (λ (m : Member). m.1) (match_of b x)
groups-match true x = refl
groups-match false x = refl

module _ (s : List ℕ) (p : Program) (tree : Tree) (h : IsProgramOf p tree) where
  -- what the search at a boundary finds
  pub found_at-boundary : (i : ℕ) (b : Bool) (x : Search) → is_boundary s i ≡ true
      → match_of b x ≡ slice_get (matches s (get_or (trees_of p) p.root nothing) i (replicate p.groups None)) 0
      → groups_of b x ≡ found_at s tree i
  unfolding found_at
  found_at-boundary i b x at e =
      groups-match b x
      ∙ ap (option_map (λ (m : Member). m.1))
      (e ∙ ap (λ (t : Tree). slice_get (matches s t i (replicate p.groups None)) 0) h.root
      ∙ ap (λ (n : ℕ). slice_get (matches s (group 0 tree) i (replicate n None)) 0) h.groups)
      ∙ ap (λ (c : Bool). if c then option_map (λ (m : Member). m.1) (slice_get (matches s (group 0 tree) i (unset s tree)) 0) else None) (sym at)

  pub found_at-lost : (i : ℕ) → is_boundary s i ≡ true
      → matches s (get_or (trees_of p) p.root nothing) i (replicate p.groups None) ≡ []
      → None ≡ found_at s tree i
  unfolding found_at
  found_at-lost i at e =
      ap (option_map (λ (m : Member). m.1))
      (sym (ap (λ (ms : List Member). slice_get ms 0) e)
      ∙ ap (λ (t : Tree). slice_get (matches s t i (replicate p.groups None)) 0) h.root
      ∙ ap (λ (n : ℕ). slice_get (matches s (group 0 tree) i (replicate n None)) 0) h.groups)
      ∙ ap (λ (c : Bool). if c then option_map (λ (m : Member). m.1) (slice_get (matches s (group 0 tree) i (unset s tree)) 0) else None) (sym at)

module _ (s : List ℕ) (tree : Tree) where
  pub found_at-between : (i : ℕ) → is_boundary s i ≡ false → found_at s tree i ≡ None
  unfolding found_at
  found_at-between i at = ap (λ (c : Bool). if c then option_map (λ (m : Member). m.1) (slice_get (matches s (group 0 tree) i (unset s tree)) 0) else None) at

  pub found-here : (i : ℕ) (g : Groups) → i ≤ length s → found_at s tree i ≡ Some g → found s tree i ≡ Some g
  unfolding found
  found-here i g l e =
      ap (λ n. found_within s tree n i) (let n : suc (length s) - i ≡ suc (length s - i) = omega arith in n)
      ∙ ap (λ o. option_or o (found_within s tree (length s - i) (suc i))) e

  pub found-step : (i : ℕ) → i ≤ length s → found_at s tree i ≡ None → found s tree i ≡ found s tree (suc i)
  unfolding found
  found-step i l e =
      ap (λ n. found_within s tree n i) (let n : suc (length s) - i ≡ suc (length s - i) = omega arith in n)
      ∙ ap (λ o. option_or o (found_within s tree (length s - i) (suc i))) e
      ∙ ap (λ n. found_within s tree n (suc i)) (let n : length s - i ≡ suc (length s) - suc i = omega arith in n)

  -- places where no match begins are passed over
  pub found-skip : (n i : ℕ) → i + n ≤ suc (length s) → ((k : ℕ) → i ≤ k → k < i + n → found_at s tree k ≡ None) → found s tree i ≡ found s tree (i + n)
  found-skip zero i l h = ap (found s tree) (let e : i ≡ i + 0 = omega arith in e)
  found-skip (suc n) i l h =
      found-step i (omega arith) (h i (omega arith) (omega arith))
      ∙ found-skip n (suc i) (omega arith) (λ k p q. h k (omega arith) (omega arith))
      ∙ ap (found s tree) (let e : suc i + n ≡ i + suc n = omega arith in e)

  pub found-jump : (i j : ℕ) → i ≤ j → j ≤ suc (length s) → ((k : ℕ) → i ≤ k → k < j → found_at s tree k ≡ None) → found s tree i ≡ found s tree j
  found-jump i j l m h =
      let e : i + (j - i) ≡ j = omega arith in
      found-skip (j - i) i (omega arith) (λ k p q. h k p (omega arith)) ∙ ap (found s tree) e

  pub found-past : (i : ℕ) → length s < i → found s tree i ≡ None
  unfolding found
  found-past i l = ap (λ n. found_within s tree n i) (let n : suc (length s) - i ≡ 0 = omega arith in n)

  -- nothing is found from a place on from which no match begins
  pub found-never : (i : ℕ) → ((k : ℕ) → i ≤ k → found_at s tree k ≡ None) → found s tree i ≡ None
  found-never i h =
      elim (cases_lt (length s) i) [
        | inl l ↦ found-past i l
        | inr l ↦ found-jump i (suc (length s)) (omega (arith, l)) (omega arith) (λ k p q. h k p) ∙ found-past (suc (length s)) (omega arith)
      ]
