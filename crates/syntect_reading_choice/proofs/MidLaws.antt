-- No match begins within a character.
use Rattle.std.proofs.Common.{◌≡◌, ℕ, ◌+◌, Bool, false, List, length, Option, Some, None, refl, sym, ◌∙◌, ap, arith, add-one, inl, inr}
use Rattle.std.specs.Prelude.{slice_get, option_and_then, option_map, if◌then◌else◌}
use Rattle.std.proofs.lemmas.Bool.{cases_lt}
use Rattle.syntect_reading_choice.specs.syntect_pattern.Text.{is_boundary}
use Rattle.syntect_reading_choice.specs.syntect_pattern.Trees.{Tree, group}
use Rattle.syntect_reading_choice.specs.syntect_pattern.Matches.{Member, found, found_at, matches, unset}
use Rattle.syntect_reading_choice.specs.syntect_pattern.Pattern.{pattern_tree, pattern_found}
use Rattle.syntect_reading_state.proofs.syntect_regex_proofs.syntect_pattern_backtrack_proofs.FindLaws.{found-past, found-step}

mid_at : (s : List ℕ) (tree : Tree) (i : ℕ) → is_boundary s i ≡ false → found_at s tree i ≡ None
unfolding found_at
mid_at s tree i e = ap (λ (b : Bool). if b then option_map (λ (m : Member). m.1) (slice_get (matches s (group 0 tree) i (unset s tree)) 0) else None) e

mid_found : (s : List ℕ) (tree : Tree) (i : ℕ) → is_boundary s i ≡ false → found s tree i ≡ found s tree (i + 1)
mid_found s tree i e = elim (cases_lt (length s) i) [
  | inl l ↦ found-past s tree i l ∙ sym (found-past s tree (i + 1) (omega (arith, l)))
  | inr l ↦ rw add-one (found-step s tree i l (mid_at s tree i e))
]

pub mid_next : (pattern s : List ℕ) (i : ℕ) → is_boundary s i ≡ false → pattern_found pattern s i ≡ pattern_found pattern s (i + 1)
mid_next pattern s i e = by (pattern_tree pattern)
  where
    by : (o : Option Tree) → option_and_then (λ t. found s t i) o ≡ option_and_then (λ t. found s t (i + 1)) o
    by None = refl
    by (Some t) = mid_found s t i e
