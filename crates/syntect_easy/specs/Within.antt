-- Lines that are highlighted within limits.
use Rattle.std.specs.Prelude.{ℕ, List, Result, Ok, Err}
use Rattle.syntect_easy.specs.syntect_base.declared.limits.Limits.{Limits}
use Rattle.syntect_easy.specs.syntect_grammar.Passing.{from_parsing}
use Rattle.syntect_easy.specs.syntect_grammar.declared.error.Error.{Error}
use Rattle.syntect_easy.specs.syntect_grammar.declared.error.Error.TheVariants.{Memory, Io}
use Rattle.syntect_easy.specs.syntect_grammar.declared.syntax_set.SyntaxSet.{SyntaxSet}
use Rattle.syntect_easy.specs.syntect_reading_choice.Engine.{dialect}
use Rattle.syntect_parsing.specs.Within.{IsThere, ReachesLimit as ReachesLineLimit}
use Rattle.syntect_parsing.specs.declared.parser.Standing.{Standing}
use Rattle.syntect_parsing.specs.declared.within.ReadWithinError.{ReadWithinError}
use Rattle.syntect_parsing.specs.declared.within.ReadWithinError.TheVariants as reading
use Rattle.syntect_easy.specs.declared.within.HighlightWithinError.{HighlightWithinError}
use Rattle.syntect_easy.specs.declared.within.HighlightWithinError.TheVariants.{Refused, LimitReached}

-- how it is passed on why a line was not read
abbrev pub from_reading : ReadWithinError → HighlightWithinError
from_reading (reading.Refused e) = Refused (from_parsing e)
from_reading (reading.LimitReached l) = LimitReached l

-- the refusal of a line without limits, where a limit that was reached counts as lack of memory
abbrev pub refusal_of : HighlightWithinError → Error
refusal_of (Refused e) = e
refusal_of (LimitReached l) = Memory

-- and so the answer to it
abbrev pub unlimited_of : {X : Type 0} → Result X HighlightWithinError → Result X Error
unlimited_of (Ok x) = Ok x
unlimited_of (Err e) = Err (refusal_of e)

-- the refusal of a line is no fault of reading a file
abbrev pub IsNoReadFault : Error → Type 0
IsNoReadFault (Io e) = ⊥
IsNoReadFault e = Unit {0}

-- the same, unless a limit was reached
abbrev pub RefusesNoReadFault : HighlightWithinError → Type 0
RefusesNoReadFault (Refused e) = IsNoReadFault e
RefusesNoReadFault (LimitReached l) = Unit {0}

-- where a limit is reported, the line's reading comes to that place
abbrev pub TellsWhere : SyntaxSet → List ℕ → Standing → HighlightWithinError → Type 0
TellsWhere set line state (Refused e) = Unit {0}
TellsWhere set line state (LimitReached l) = IsThere dialect set line state l

-- a limit that was reached is that of as many turns, or of as many steps, as were made, or of fewer
-- levels than were open
abbrev pub ReachesLimit : Limits → ℕ → ℕ → HighlightWithinError → Type 0
ReachesLimit limits turns steps (Refused e) = Unit {0}
ReachesLimit limits turns steps (LimitReached l) =
    ReachesLineLimit limits turns steps (reading.LimitReached l)
