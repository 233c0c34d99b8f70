-- Which groups of a pattern stand in lookarounds, as it keeps that.
use Rattle.std.specs.Prelude.{ℕ, zero, suc, Bool, false, List, [], replicate, Option, Some}
use Rattle.syntect_regex.specs.declared.details.GroupLooks.{GroupLooks}
use Rattle.syntect_regex.specs.declared.details.GroupLooks.TheVariants.{Free, Each}

-- ---- What invariants alone rest on ----

-- of so many groups, and of the whole match in front of them, that none stands in a lookaround;
-- nothing is kept of the whole match alone
abbrev pub free_groups : ℕ → List (Option Bool)
free_groups zero = []
free_groups (suc n) = replicate (suc (suc n)) (Some false)

-- of each group whether it stands in a lookaround, or none where the text is no pattern
abbrev pub groups_in : GroupLooks → Option (List (Option Bool))
groups_in (Free count) = Some (free_groups count)
groups_in (Each looks) = looks.value
