-- Lines that are read within limits.
use Rattle.std.specs.Prelude.{◌≡◌, ◌≢◌, ◌≤◌, ◌<◌, ℕ, List, [], length, Some, Result, Ok, Err}
use Rattle.syntect_parsing.specs.syntect_base.Limiting.{IsWithinLimit, limit_of}
use Rattle.syntect_parsing.specs.syntect_base.declared.limits.Limits.{Limits}
use Rattle.syntect_parsing.specs.syntect_grammar_contexts.declared.error.ParsingError.{ParsingError}
use Rattle.syntect_parsing.specs.syntect_grammar_contexts.declared.error.ParsingError.TheVariants.{Memory}
use Rattle.syntect_parsing.specs.syntect_grammar.declared.syntax_set.SyntaxSet.{SyntaxSet}
use Rattle.syntect_parsing.specs.syntect_count.Meter.{Reading}
use Rattle.syntect_reading_choice.specs.Engine.{Engine}
use Rattle.syntect_reading_choice.specs.declared.halt.Halt.{Halt}
use Rattle.syntect_reading_choice.specs.declared.halt.Halt.TheVariants as halt
use Rattle.syntect_reading_choice.specs.declared.position.Position.{Position}
use Rattle.syntect_parsing.specs.Line.{Reaches, at_start}
use Rattle.syntect_parsing.specs.Meaning.{RefusesLineOrMemory}
use Rattle.syntect_parsing.specs.States.{Standing}
use Rattle.syntect_parsing.specs.Work.{UnlessWanting}
use Rattle.syntect_parsing.specs.declared.within.ReadWithinError.{ReadWithinError}
use Rattle.syntect_parsing.specs.declared.within.ReadWithinError.TheVariants.{Refused, LimitReached}
use Rattle.syntect_parsing.specs.declared.within.LineLimit.{LineLimit}
use Rattle.syntect_parsing.specs.declared.within.LineLimit.TheVariants.{Steps, Turns, Levels, Operations}

-- why the line is not read, where a turn has no answer
abbrev pub stop_of : Halt → ReadWithinError
stop_of halt.Memory = Refused Memory
stop_of (halt.Spent pattern place) =
    LimitReached (Steps pattern.context pattern.index place)

-- the line's reading comes to a place with so many open levels
pub record ComesTo (engine : Engine) (set : SyntaxSet) (line : List ℕ) (state : Standing)
    (place levels : ℕ) : Type 0 where
  pub position : Position
  pub reached : Reaches engine set line (at_start state) position
  pub place_is : position.place ≡ place
  pub levels_are : length position.levels ≡ levels

-- where a limit is reported, the line's reading comes to that place: with so many open levels, if
-- it is theirs
abbrev pub IsThere : Engine → SyntaxSet → List ℕ → Standing → LineLimit → Type 0
IsThere engine set line state (Steps context index place) = Unit {0}
IsThere engine set line state (Turns place) =
    (levels : ℕ) × ComesTo engine set line state place levels
IsThere engine set line state (Levels place levels) = ComesTo engine set line state place levels
IsThere engine set line state (Operations place operations) =
    (levels : ℕ) × ComesTo engine set line state place levels

-- a refusal that may come without limits; or a limit was reached, but not where no level is open,
-- as no turn is made there
abbrev pub RefusesWithinOrMemory : Engine → SyntaxSet → List ℕ → Standing → ReadWithinError → Type 0
RefusesWithinOrMemory engine set line state (Refused e) = RefusesLineOrMemory engine set line state e
RefusesWithinOrMemory engine set line state (LimitReached l) =
    (state.levels ≢ []) × IsThere engine set line state l

-- so many are more than the limit says
abbrev pub PassesLimit : ℕ → ℕ → Type 0
PassesLimit limit n = (limit_of limit ≡ Some limit) × (limit < n)

-- no position of the line's reading has more open levels than the limit says
abbrev pub KeepsLevels : Engine → SyntaxSet → List ℕ → Standing → ℕ → Type 0
KeepsLevels engine set line state limit =
    (p : Position) → Reaches engine set line (at_start state) p
    → IsWithinLimit limit (length p.levels)

-- a limit that was reached is that of as many turns, or of as many steps, as were made, or of fewer
-- levels than were open, or of fewer operations than there were
abbrev pub ReachesLimit : Limits → ℕ → ℕ → ReadWithinError → Type 0
ReachesLimit limits turns steps (Refused e) = Unit {0}
ReachesLimit limits turns steps (LimitReached (Steps context index place)) =
    limit_of limits.steps ≡ Some steps
ReachesLimit limits turns steps (LimitReached (Turns place)) = limit_of limits.turns ≡ Some turns
ReachesLimit limits turns steps (LimitReached (Levels place levels)) =
    PassesLimit limits.levels levels
ReachesLimit limits turns steps (LimitReached (Operations place operations)) =
    PassesLimit limits.operations operations

-- this holds, unless memory ran out or a limit was reached
abbrev pub UnlessStop : Type 0 → ReadWithinError → Type 0
UnlessStop P (Refused e) = UnlessWanting P e
UnlessStop P (LimitReached l) = Unit {0}

-- the same of an answer or a refusal
abbrev pub UnlessStopped : {X : Type 0} → Result X ReadWithinError → Type 0 → Type 0
UnlessStopped (Ok x) P = P
UnlessStopped (Err e) P = UnlessStop P e

-- ---- For proofs and private functions alone ----

-- this holds of the refusal, if it is one that comes without limits too
abbrev pub IfRefused : (ParsingError → Type 0) → ReadWithinError → Type 0
IfRefused P (Refused e) = P e
IfRefused P (LimitReached l) = Unit {0}

-- the refusal of a line that is read without limits, where none is ever reached
abbrev pub refusal_of : ReadWithinError → ParsingError
refusal_of (Refused e) = e
refusal_of (LimitReached l) = Memory

-- where the meter stopped the line no step is left
abbrev pub StopsLineAt : Reading → ReadWithinError → Type 0
StopsLineAt r (Refused e) = Unit {0}
StopsLineAt r (LimitReached (Steps context index place)) = r.left ≡ Some 0
StopsLineAt r (LimitReached (Turns place)) = ⊥
StopsLineAt r (LimitReached (Levels place levels)) = ⊥
StopsLineAt r (LimitReached (Operations place operations)) = ⊥

-- the same of a line of so many turns
abbrev pub ReachesHere : Limits → ℕ → Reading → ReadWithinError → Type 0
ReachesHere limits turns r (Refused e) = Unit {0}
ReachesHere limits turns r (LimitReached (Steps context index place)) = r.left ≡ Some 0
ReachesHere limits turns r (LimitReached (Turns place)) = limit_of limits.turns ≡ Some turns
ReachesHere limits turns r (LimitReached (Levels place levels)) = PassesLimit limits.levels levels
ReachesHere limits turns r (LimitReached (Operations place operations)) =
    PassesLimit limits.operations operations

-- a line stands at a limit after so many turns, as they are reported, and with so many operations
abbrev pub StandsAt : Limits → Position → ℕ → ℕ → LineLimit → Type 0
StandsAt limits p told made (Steps context index place) = ⊥
StandsAt limits p told made (Turns place) =
    (p.place ≡ place) × (limit_of limits.turns ≡ Some limits.turns) × (limits.turns ≤ told)
StandsAt limits p told made (Levels place levels) =
    (p.place ≡ place) × (length p.levels ≡ levels) × PassesLimit limits.levels levels
StandsAt limits p told made (Operations place operations) =
    (p.place ≡ place) × (made ≡ operations) × PassesLimit limits.operations operations
