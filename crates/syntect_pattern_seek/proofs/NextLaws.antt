-- A place where no match begins is passed over.
use Rattle.std.proofs.Common.{◌≡◌, ℕ, ◌+◌, List, length, Option, Some, None, sym, ◌∙◌, ap, arith, add-one, inl, inr}
use Rattle.std.specs.Prelude.{option_and_then}
use Rattle.std.proofs.lemmas.Bool.{cases_lt}
use Rattle.syntect_pattern_seek.specs.syntect_pattern.Trees.{Tree}
use Rattle.syntect_pattern_seek.specs.syntect_pattern.Matches.{found, found_at}
use Rattle.syntect_pattern_seek.specs.syntect_pattern.Pattern.{pattern_tree, pattern_found}
use Rattle.syntect_pattern_backtrack.proofs.FindLaws.{found-past, found-step}

-- also one past the end
pub found-next : (s : List ℕ) (tree : Tree) (i : ℕ) → found_at s tree i ≡ None → found s tree i ≡ found s tree (i + 1)
found-next s tree i e = elim (cases_lt (length s) i) [
  | inl l ↦ found-past s tree i l ∙ sym (found-past s tree (i + 1) (omega (arith, l)))
  | inr l ↦ rw add-one (found-step s tree i l e)
]

pub pattern-next : (s pattern : List ℕ) (tree : Tree) (i : ℕ) → pattern_tree pattern ≡ Some tree → found s tree i ≡ found s tree (i + 1) → pattern_found pattern s i ≡ pattern_found pattern s (i + 1)
pattern-next s pattern tree i e h =
    ap (λ (o : Option Tree). option_and_then (λ t. found s t i) o) e ∙ h ∙ sym (ap (λ (o : Option Tree). option_and_then (λ t. found s t (i + 1)) o) e)
