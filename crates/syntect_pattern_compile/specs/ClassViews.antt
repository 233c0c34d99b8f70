-- What the reader's classes stand for.
use Rattle.std.specs.Prelude.{◌<◌, ℕ, suc, Bool, List, Option, length, option_map, IfSome, chars}
use Rattle.std.specs.Borrow.{Bor}
use Rattle.syntect_pattern.specs.Sets.{Set}
use Rattle.syntect_pattern.specs.Reading.{Text}
use Rattle.syntect_pattern.specs.Classes.{over, on, class, class_rest, next_in, step}
use Rattle.syntect_pattern.specs.Classes as definition
use Rattle.syntect_pattern_table.specs.SetTable.{set_in}
use Rattle.syntect_pattern_table.specs.declared.sets.Part.{Part}
use Rattle.syntect_pattern_compile.specs.declared.classes.Bracket.{Bracket}
use Rattle.syntect_pattern_compile.specs.declared.classes.Step.{Step}

-- ---- For proofs and private functions alone ----

-- the class that is being read
abbrev pub bracket_as : List Part → Bracket → definition.Class
bracket_as parts o = record {
  sides = option_map (λ k. set_in parts k) o.sides;
  side = set_in parts o.side;
}

-- its parts are there
pub record IsBracketIn (parts : List Part) (o : Bracket) : Type 0 where
  pub side : o.side < length parts
  pub sides : IfSome o.sides (λ k. k < length parts)

-- a class goes on with its parts in the table
abbrev pub IsStepIn : List Part → Step → Type 0
IsStepIn parts (Step.Over rest) = Unit {0}
IsStepIn parts (Step.On o rest) = IsBracketIn parts o

-- what a step made of the class
abbrev pub step_as : List Part → Step → definition.Step
step_as parts (Step.Over rest) = over (chars rest.now)
step_as parts (Step.On o rest) = on (bracket_as parts o) (chars rest.now)

-- a set in the table and what follows it
abbrev pub set_as : List Part → Option (ℕ × Bor (List ℕ)) → Option (Set × Text)
set_as parts found = option_map (λ f. (set_in parts f.0, chars f.1.now)) found

-- the rest of a class
abbrev pub rest_of : Bool → ℕ → definition.Class → Text → Option (Set × Text)
rest_of fold depth c t = class_rest fold (suc (length t)) depth c t

-- one step of reading a class that stands so deep
abbrev pub step_of : Bool → ℕ → definition.Class → Text → Option definition.Step
step_of fold depth c t = step fold (class fold depth) c t (next_in t)

-- a class that is begun, and what follows
abbrev pub begun : List Part → Option (Bracket × Bor (List ℕ)) → Option definition.Step
begun parts found = option_map (λ f. on (bracket_as parts f.0) (chars f.1.now)) found
