-- How many turns a line takes.
use Rattle.std.specs.Prelude.{◌≡◌, ℕ, ◌+◌, ◌-◌, ◌*◌, ◌^◌, ◌≤◌, List, length, min}
use Rattle.syntect_parsing.specs.syntect_grammar.Contexts.{contexts_of}
use Rattle.syntect_reading_choice.specs.Engine.{Engine}
use Rattle.syntect_parsing.specs.Scopes.{Scopes}
use Rattle.syntect_parsing.specs.Line.{ReadsLine, RefusesLine}
use Rattle.syntect_parsing.specs.Laws.{longest}
use Rattle.syntect_parsing.specs.syntect_grammar.declared.syntax_set.SyntaxSet.{SyntaxSet}
use Rattle.syntect_reading_choice.specs.declared.position.TheConstants.{MOST_IDLE}
use Rattle.syntect_parsing.specs.States.{Standing}
use Rattle.syntect_parsing.specs.syntect_grammar_contexts.declared.error.ParsingError.{ParsingError}

-- reading the line takes so many turns, the last one included, up to its end or to a refusal
pub data TakesTurns (engine : Engine) (set : SyntaxSet) (line : List ℕ) (state : Standing) : ℕ
    → Type 0 where
  to_its_end : {bytes : List Scopes} {after : Standing} {turns : ℕ}
      → ReadsLine engine set line state bytes after turns → TakesTurns engine set line state turns
  to_a_refusal : {e : ParsingError} {turns : ℕ} → RefusesLine engine set line state e turns
      → TakesTurns engine set line state turns

-- From the number before the line to the one after it all turns of its reading were made,
-- and no other,
abbrev pub TakesAll : Engine → SyntaxSet → List ℕ → Standing → ℕ → ℕ → Type 0
TakesAll engine set line state before after =
    (turns : ℕ) → TakesTurns engine set line state turns → after ≡ before + turns

-- and from the number before the line to the one after it at most all turns of
-- its reading were made,
abbrev pub TakesNoMore : Engine → SyntaxSet → List ℕ → Standing → ℕ → ℕ → Type 0
TakesNoMore engine set line state before after =
    (turns : ℕ) → TakesTurns engine set line state turns → after ≤ before + turns

-- No line takes more: a turn for each level that is open; and then, times one more than the longest
-- list of contexts that a match of the set opens, for each byte and the line's end the idle ones
-- and one that moves on.
abbrev pub most_turns : SyntaxSet → List ℕ → Standing → ℕ
most_turns set line state =
    length state.levels + (longest (contexts_of set) + 1) * ((MOST_IDLE + 1) * (length line + 1))

-- so many turns as a number of 64 bits tells them, which is its greatest where there are more
abbrev pub IsTold : ℕ → ℕ → Type 0
IsTold turns told = told ≡ min turns (2 ^ 64 - 1)
