-- What a search leaves in a region.
use Rattle.std.specs.Prelude.{◌≡◌, ℕ, ◌+◌, Bool, true, false, List, Option, Some, None, ◌⊎◌, is_some, unwrap_or, nat_eq, option_and_then, slice_index_or}
use Rattle.std.specs.Option.{option_eq}
use Rattle.std.specs.Ordering.{on, eq_of_both}
use Rattle.std.specs.Cmp.{IsEquivalence, and_equiv, on_equiv, nat_eq_equiv}
use Rattle.std.specs.Cmp.Lexicographic.{pointwise, lists_equiv, options_equiv}
use Rattle.std.proofs.Common.{MutBor, inl, inr}
use Rattle.syntect_regex.specs.syntect_pattern.Trees.{Tree}
use Rattle.syntect_regex.specs.syntect_pattern.Matches.{Groups, found, found_at}
use Rattle.syntect_regex.specs.syntect_pattern.Pattern.{pattern_found, pattern_tree}
use Rattle.syntect_regex.specs.syntect_pattern_table.Program.{IsProgramOf}
use Rattle.syntect_regex.specs.syntect_pattern_table.declared.program.Program.{Program}

-- the same span
abbrev pub same_span : ℕ × ℕ → ℕ × ℕ → Bool
same_span = eq_of_both (on (λ x. x.0) nat_eq) (on (λ x. x.1) nat_eq)

-- each group is set to the same span, or unset in both
abbrev pub same_groups : Groups → Groups → Bool
same_groups = pointwise (option_eq same_span)

same_span-equiv : IsEquivalence same_span
same_span-equiv = and_equiv (on_equiv (λ x. x.0) nat_eq_equiv) (on_equiv (λ x. x.1) nat_eq_equiv)

pub same_groups-equiv : IsEquivalence same_groups
same_groups-equiv = lists_equiv (options_equiv same_span-equiv)

-- the answer says whether there is a match, and the new groups are its, or the old ones where there
-- is none
abbrev pub TakesMatch : Option Groups → Groups → Bool → Groups → Type 0
TakesMatch match old answer new = (answer ≡ is_some match) × (new ≡ unwrap_or match old)

-- a match with these groups begins at the place
abbrev pub BeginsAt : Groups → ℕ → Type 0
BeginsAt groups place = (start end : ℕ) → slice_index_or groups 0 None ≡ Some (start, end)
    → start ≡ place

-- The answer says whether a match begins at the place: then the new groups are the match's, and
-- else the old ones stay, and what is found from the place on is found from just after it.
abbrev pub TakesAt : (ℕ → Option Groups) → ℕ → Groups → Bool → Groups → Type 0
TakesAt match place old true new = (match place ≡ Some new) × BeginsAt new place
TakesAt match place old false new = (new ≡ old) × (match place ≡ match (place + 1))

-- the same of a pattern's matches in a text
abbrev pub TriesAt : List ℕ → List ℕ → ℕ → Groups → Bool → Groups → Type 0
TriesAt pattern text place old answer new =
    TakesAt (pattern_found pattern text) place old answer new

-- the value that was handed in and the one that was left, if one was lent
abbrev pub Leaves : {R : Type 0} → (R → R → Type 0) → Option (MutBor R)
    → Unit {0} ⊎ ((MutBor R × Unit {0}) ⊎ ⊥) → Type 0
Leaves P None y = Unit {0}
Leaves P (Some x) (inl y) = ⊥
Leaves P (Some x) (inr (inl y)) = P x.now y.0.now
Leaves P (Some x) (inr (inr y)) = ⊥

-- a match of the pattern begins at the place
abbrev pub pattern_begins : List ℕ → List ℕ → ℕ → Bool
pattern_begins pattern s place =
    is_some (option_and_then (λ tree. found_at s tree place) (pattern_tree pattern))

-- ---- For proofs and private functions alone ----

-- the same of the program's first match from a place on
abbrev pub Takes : List ℕ → Program → ℕ → Groups → Bool → Groups → Type 0
Takes s p from old answer new = (tree : Tree) → IsProgramOf p tree
    → TakesMatch (found s tree from) old answer new

-- the same of the program's matches
abbrev pub TakesHere : List ℕ → Program → ℕ → Groups → Bool → Groups → Type 0
TakesHere s p place old answer new = (tree : Tree) → IsProgramOf p tree
    → TakesAt (found s tree) place old answer new
