-- When a turn has no answer.
use Rattle.std.specs.Prelude.{◌≡◌, Some}
use Rattle.syntect_reading_choice.specs.syntect_count.Meter.{Reading}
use Rattle.syntect_reading_choice.specs.declared.halt.Halt.{Halt}
use Rattle.syntect_reading_choice.specs.declared.halt.Halt.TheVariants as halt

-- a turn that halts for lack of steps has made all of them
abbrev pub HaltsAt : Reading → Halt → Type 0
HaltsAt r halt.Memory = Unit {0}
HaltsAt r (halt.Spent pattern place) = r.left ≡ Some 0
