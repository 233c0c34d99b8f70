-- The sides of a place that tell which patterns can begin there.
use Rattle.std.specs.Prelude.{ℕ}
use Rattle.syntect_grammar_lists.specs.syntect_pattern_table.declared.starts.Places.{Places}
use Rattle.syntect_grammar_lists.specs.declared.flats.Flat.{Flat}
use Rattle.syntect_grammar_lists.specs.declared.sides.Side.{Side}

-- the row of places where no word begins or ends: it comes after the 130 of what stands at a place
abbrev pub edges_row : ℕ
edges_row = 130

-- the row of places where no line begins
abbrev pub lines_row : ℕ
lines_row = 131

-- the first of the rows that are of a side
abbrev pub first_row : Side → ℕ
first_row Side.Here = 0
first_row Side.Word = 132
first_row Side.Blank = 262

-- ---- What invariants alone rest on ----

-- what can stand on a side of a place where a match of the pattern begins
abbrev pub places_on : Side → Flat → Places
places_on Side.Here flat = flat.begins
places_on Side.Word flat = flat.words
places_on Side.Blank flat = flat.blanks
