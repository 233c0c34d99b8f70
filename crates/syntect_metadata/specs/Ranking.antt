-- Which sets speak of a stack of scopes, and what they answer.
use Rattle.std.specs.Prelude.{ℕ, List, [], ◌∷◌, Bool, false, Option, Some, None}
use Rattle.std.specs.Option.{option_map_or}
use Rattle.std.specs.List.Sorted.{IsPermutation, IsSortedBy, IsStableBy}
use Rattle.std.specs.Ordering.{nat_cmp, is_lt}
use Rattle.syntect_regex.specs.Region.{pattern_begins}
use Rattle.syntect_metadata.specs.syntect_scope.Choice.{union_score}
use Rattle.syntect_metadata.specs.Items.{first_some}
use Rattle.syntect_metadata.specs.declared.items.MetadataItems.{MetadataItems}
use Rattle.syntect_metadata.specs.declared.scoped.Kind.{Kind}
use Rattle.syntect_metadata.specs.declared.scoped.Kind.TheVariants.{Unindented, Decrease, Increase, Bracket, NextLine}
use Rattle.syntect_metadata.specs.declared.set.MetadataSet.{MetadataSet}

-- a set with its score, unless it has none
abbrev pub with_score : Option ℕ → MetadataSet → List (ℕ × MetadataSet) → List (ℕ × MetadataSet)
with_score None set scored = scored
with_score (Some score) set scored = (score, set) ∷ scored

-- the sets that match a stack, each with its score there, in their order
abbrev pub matching : List (List ℕ) → List MetadataSet → List (ℕ × MetadataSet)
matching stack [] = []
matching stack (set ∷ sets) =
    with_score (union_score set.selector.selectors stack) set (matching stack sets)

-- the greater score
abbrev pub outranks : ℕ × MetadataSet → ℕ × MetadataSet → Bool
outranks a b = is_lt (nat_cmp b.0 a.0)

-- the greatest score first, and equal scores in the order in which they stood
pub record IsRanked (scored ranked : List (ℕ × MetadataSet)) : Type 0 where
  pub same : IsPermutation scored ranked
  pub order : IsSortedBy outranks ranked
  pub stable : IsStableBy outranks scored ranked

-- ---- answers ----

-- what the first of the items says that says something
abbrev pub first_of : {X : Type 0} → (MetadataItems → Option X) → List (ℕ × MetadataSet) → Option X
first_of say [] = None
first_of say (s ∷ ss) = first_some (say s.1.items) (first_of say ss)

-- whether the first pattern of the kind, where there is one, matches at the start of a line
abbrev pub answer : (MetadataItems → Option (List ℕ)) → List (ℕ × MetadataSet) → List ℕ → Bool
answer pattern ranked line =
    option_map_or (λ p. pattern_begins p line 0) (first_of pattern ranked) false

-- ---- For proofs and private functions alone ----

-- the pattern of a kind
abbrev pub pattern_for : Kind → MetadataItems → Option (List ℕ)
pattern_for Unindented i = i.unindented_line_pattern
pattern_for Decrease i = i.decrease_indent_pattern
pattern_for Increase i = i.increase_indent_pattern
pattern_for Bracket i = i.bracket_indent_next_line_pattern
pattern_for NextLine i = i.disable_indent_next_line_pattern
