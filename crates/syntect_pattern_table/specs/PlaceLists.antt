-- Where matches of nodes can begin, kept by numbers of what is known.
use Rattle.std.specs.Prelude.{◌<◌, ℕ, List, All, length, map, slice_index_or}
use Rattle.syntect_pattern_table.specs.Starts.{none_there}
use Rattle.syntect_pattern_table.specs.declared.starts.Places.{Places}

-- the places that have these numbers
abbrev pub places_by_number : List Places → List ℕ → List Places
places_by_number known numbers = map (λ n. slice_index_or known n none_there) numbers

-- ---- What invariants alone rest on ----

-- each number is that of known places
abbrev pub AreKnown : List Places → List ℕ → Type 0
AreKnown known = All (λ n. n < length known)
