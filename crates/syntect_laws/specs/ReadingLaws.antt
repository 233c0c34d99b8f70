-- Laws of reading.
use Rattle.std.specs.Prelude.{◌≡◌, ◌⊎◌, ℕ, ◌+◌, ◌*◌, ◌≤◌, List, length}
use Rattle.std.specs.Str.{IsUtf8, IsCharBoundary}
use Rattle.syntect_laws.specs.syntect_grammar.Contexts.{contexts_of}
use Rattle.syntect_laws.specs.syntect_grammar_contexts.declared.error.ParsingError.{ParsingError}
use Rattle.syntect_laws.specs.syntect_grammar.declared.syntax_set.SyntaxSet.{SyntaxSet}
use Rattle.syntect_laws.specs.syntect_reading_choice.Engine.{Engine}
use Rattle.syntect_parsing.specs.Laws.{longest}
use Rattle.syntect_laws.specs.syntect_reading_choice.Found.{FindsInText}
use Rattle.syntect_parsing.specs.Line.{Answer, AnswersAll, ReadsLine, RefusesLine, Reaches, at_start}
use Rattle.syntect_parsing.specs.Scopes.{Scopes}
use Rattle.syntect_parsing.specs.declared.parser.Standing.{Standing}
use Rattle.syntect_laws.specs.syntect_reading_choice.declared.position.TheConstants.{MOST_IDLE}
use Rattle.syntect_laws.specs.syntect_reading_choice.declared.position.Position.{Position}

-- A line that is accepted has one reading.
abbrev pub ReadsOnce : Type 0
ReadsOnce =
    (engine : Engine) (set : SyntaxSet) (line : List ℕ) (state : Standing) (a b : List Scopes)
    (x y : Standing) (m n : ℕ)
    → ReadsLine engine set line state a x m → ReadsLine engine set line state b y n
    → (a ≡ b) × (x ≡ y) × (m ≡ n)

-- A line that is refused has one refusal.
abbrev pub RefusesOnce : Type 0
RefusesOnce =
    (engine : Engine) (set : SyntaxSet) (line : List ℕ) (state : Standing) (d e : ParsingError)
    (m n : ℕ)
    → RefusesLine engine set line state d m → RefusesLine engine set line state e n
    → (d ≡ e) × (m ≡ n)

-- Lines have one list of answers.
abbrev pub AnswersOnce : Type 0
AnswersOnce =
    (engine : Engine) (set : SyntaxSet) (lines : List (List ℕ)) (state : Standing)
    (a b : List Answer) (x y : Standing)
    → AnswersAll engine set lines state a x → AnswersAll engine set lines state b y
    → (a ≡ b) × (x ≡ y)

-- Each byte of an accepted line has its scopes.
abbrev pub CoversLine : Type 0
CoversLine = (engine : Engine) → FindsInText engine
    → (set : SyntaxSet) (line : List ℕ) (state : Standing) (bytes : List Scopes) (after : Standing)
    (n : ℕ)
    → IsUtf8 line → ReadsLine engine set line state bytes after n → length bytes ≡ length line

-- Each turn of a text begins on a character boundary.
abbrev pub PlacesAreBoundaries : Type 0
PlacesAreBoundaries = (engine : Engine) → FindsInText engine
    → (set : SyntaxSet) (line : List ℕ) (state : Standing) (p : Position)
    → IsUtf8 line → Reaches engine set line (at_start state) p → IsCharBoundary line p.place

-- more than so many turns no line takes
abbrev pub turn_bound : SyntaxSet → List ℕ → Standing → ℕ
turn_bound set line state =
    length state.levels + (longest (contexts_of set) + 1) * ((MOST_IDLE + 1) * (length line + 1))

-- Every line is accepted or refused, within so many turns.
abbrev pub EachLineEnds : Type 0
EachLineEnds = (engine : Engine) → FindsInText engine
    → (set : SyntaxSet) (line : List ℕ) (state : Standing) → IsUtf8 line
    → ((bytes : List Scopes) × (after : Standing) × (n : ℕ)
    × ReadsLine engine set line state bytes after n × (n ≤ turn_bound set line state))
    ⊎ ((e : ParsingError) × (n : ℕ) × RefusesLine engine set line state e n
    × (n ≤ turn_bound set line state))
