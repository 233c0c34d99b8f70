-- Whole numbers by their base-8 digits, the lowest first.
use Rattle.std.specs.Prelude.{ℕ, ◌+◌, ◌*◌, ◌-◌, ◌<◌, List, [], ◌∷◌, length, slice_index}

-- the number that the digits write
abbrev pub number_of : List ℕ → ℕ
number_of [] = 0
number_of (d ∷ ds) = d + 8 * number_of ds

-- ---- What invariants alone rest on ----

-- each is a digit
abbrev pub AreDigits : List ℕ → Type 0
AreDigits [] = Unit {0}
AreDigits (d ∷ ds) = (d < 8) × AreDigits ds

-- each is a digit, and the highest one is not 0
abbrev pub IsNormal : List ℕ → Type 0
IsNormal ds = AreDigits ds × (0 < length ds → 0 < slice_index ds (length ds - 1))
