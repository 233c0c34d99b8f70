-- What not every pattern has.
use Rattle.std.specs.Prelude.{◌≡◌, ◌-◌, ◌^◌, ℕ, zero, suc, Bool, true, false, List, Option, Some, None, option_and_then, slice_index_or}
use Rattle.syntect_regex.specs.syntect_pattern.Trees.{group_in_look}
use Rattle.syntect_regex.specs.syntect_pattern.Pattern.{pattern_tree}
use Rattle.syntect_regex.specs.syntect_pattern_table.declared.starts.Places.{Places}
use Rattle.syntect_regex.specs.Groups.{free_groups}
use Rattle.syntect_regex.specs.declared.details.Detail.{Detail}
use Rattle.syntect_regex.specs.declared.details.Rare.{Rare}
use Rattle.syntect_regex.specs.declared.details.Rare.TheVariants.{Free, Groups, All}

-- ---- What invariants alone rest on ----

-- each character, and the end of the text
abbrev pub anything : Places
anything = record { ascii = 2 ^ 128 - 1; wide = true; end = true }

-- anything can come after words and white space: there is no more than groups, which stand in
-- lookarounds or not
abbrev pub groups_alone : Option (List (Option Bool)) → Detail
groups_alone looks = record { words = anything; blanks = anything; looks = looks }

-- what is kept so
abbrev pub detail_in : Rare → Detail
detail_in (Free count) = groups_alone (Some (free_groups count))
detail_in (Groups looks) = groups_alone looks.value
detail_in (All detail) = detail.value

-- whether the group of the number stands in a lookaround, by what is kept of all but the whole
-- match, which never does
abbrev pub look_of : List (Option Bool) → ℕ → Option Bool
look_of looks zero = Some false
look_of looks (suc n) = slice_index_or looks (suc n) None

-- it is kept of each group of the pattern, and nothing where the text is no pattern
abbrev pub KnowsGroups : List ℕ → Option (List (Option Bool)) → Type 0
KnowsGroups pattern None = pattern_tree pattern ≡ None
KnowsGroups pattern (Some looks) = (n : ℕ)
    → look_of looks n ≡ option_and_then (λ tree. group_in_look tree n) (pattern_tree pattern)
