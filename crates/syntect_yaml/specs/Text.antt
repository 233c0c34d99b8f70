-- Runs of bytes, and places, as the code has them.
use Rattle.std.specs.Prelude.{ℕ, Bool, ◌+◌, ◌<◌, ◌≤◌, List, length, IfSome, Option}
use Rattle.std.specs.Borrow.{Bor}
use Rattle.syntect_yaml.specs.Lines.{is_space, is_white, is_in_line, Cursor}
use Rattle.syntect_yaml.specs.Scalars.{is_single, is_double, is_hex}
use Rattle.syntect_yaml.specs.declared.text.Class.{Class}
use Rattle.syntect_yaml.specs.declared.text.Class.TheVariants.{Space, White, InLine, Single, Double, Hex}
use Rattle.syntect_yaml.specs.declared.place.Spot.{Spot}

-- ---- For proofs and private functions alone ----

-- the bytes of a class
abbrev pub class_test : Class → ℕ → Bool
class_test Space = is_space
class_test White = is_white
class_test InLine = is_in_line
class_test Single = is_single
class_test Double = is_double
class_test Hex = is_hex

-- the place of a spot
abbrev pub place_of : Spot → Cursor
place_of p = record { column = p.column; rest = p.rest.now }

-- what is left is shorter, or no longer
abbrev pub Shortens : List ℕ → Option (Bor (List ℕ)) → Type 0
Shortens t r = IfSome r (λ u. length u.now < length t)

abbrev pub IsWithin : List ℕ → Option Spot → Type 0
IsWithin t r = IfSome r (λ p. p.column + length p.rest.now ≤ length t)
