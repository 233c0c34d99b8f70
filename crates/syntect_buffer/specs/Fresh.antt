-- A buffer against a fresh run over its lines.
use Rattle.std.specs.Prelude.{◌≡◌, ◌≢◌, ℕ, ◌+◌, ◌<◌, ◌≤◌, List, [], ◌∷◌, ◌++◌, length, take, Some, slice_get}
use Rattle.syntect_buffer.specs.syntect_base.declared.limits.Limits.{Limits}
use Rattle.syntect_buffer.specs.syntect_theme.declared.theme.Theme.{Theme}
use Rattle.syntect_buffer.specs.syntect_reading_choice.Engine.{dialect}
use Rattle.syntect_buffer.specs.syntect_parsing.Line.{Answer, AnswersAll, start_of}
use Rattle.syntect_buffer.specs.syntect_parsing.declared.parser.Standing.{Standing}
use Rattle.syntect_buffer.specs.syntect_grammar_contexts.declared.syntax_reference.SyntaxReference.{SyntaxReference}
use Rattle.syntect_buffer.specs.syntect_grammar.declared.syntax_set.SyntaxSet.{SyntaxSet}
use Rattle.syntect_buffer.specs.syntect_easy.Leads.{RunsOrderly}
use Rattle.syntect_buffer.specs.Answers.{IsAnswer, given_lines}
use Rattle.syntect_buffer.specs.declared.answer.LineAnswer.{LineAnswer}

-- What is seen of a buffer: what its lines are read with, the lines, and their answers.
pub record Buffer : Type 0 where
  pub syntax : SyntaxReference
  pub set : SyntaxSet
  pub theme : Theme
  pub limits : Limits
  pub lines : List (List ℕ)
  pub answers : List LineAnswer

-- lines are read with these
pub record IsReadWith (b : Buffer) (syntax : SyntaxReference) (set : SyntaxSet)
    (theme : Theme) : Type 0 where
  pub syntax_is : b.syntax ≡ syntax
  pub set_is : b.set ≡ set
  pub theme_is : b.theme ≡ theme

-- so many of the first lines, without those of them that reached a limit
abbrev pub given_in : Buffer → ℕ → List (List ℕ)
given_in b count = given_lines (take count b.lines) (take count b.answers)

-- no line is left out
abbrev pub IsWhole : Buffer → Type 0
IsWhole b = (count : ℕ) → given_in b count ≡ take count b.lines

-- ---- answers ----

-- These lines and then the one at this place, given in order to a new highlighter, come to this
-- answer at the last.
pub record IsAnswerAt (b : Buffer) (lines : List (List ℕ)) (place : ℕ)
    (answer : LineAnswer) : Type 0 where
  pub start : Standing
  pub before : List Answer
  pub line : List ℕ
  pub given : Answer
  pub after : Standing
  pub begins : start_of b.syntax ≡ Some start
  pub line_is : slice_get b.lines place ≡ Some line
  pub run : AnswersAll dialect b.set (lines ++ line ∷ []) start (before ++ given ∷ []) after
  pub is_answer : IsAnswer
      (RunsOrderly b.set b.syntax (lines ++ line ∷ [])) b.theme line given answer

-- ---- what an edit reads again ----

-- so many lines, without those of them that reached a limit, read one after another from the start
-- of the syntax, lead to this state
pub record LeadTo (b : Buffer) (count : ℕ) (state : Standing) : Type 0 where
  pub start : Standing
  pub answers : List Answer
  pub begins : start_of b.syntax ≡ Some start
  pub run : AnswersAll dialect b.set (given_in b count) start answers state

-- the line at one place before an edit and the one at another place after it start
-- from the same state
pub record StartsSame (before after : Buffer) (old new : ℕ) : Type 0 where
  pub state : Standing
  pub leads_old : LeadTo before old state
  pub leads_new : LeadTo after new state

-- they start from different states
pub record StartsApart (before after : Buffer) (old new : ℕ) : Type 0 where
  pub old_state : Standing
  pub new_state : Standing
  pub leads_old : LeadTo before old old_state
  pub leads_new : LeadTo after new new_state
  pub apart : old_state ≢ new_state

-- An edit left the lines unchanged that stood from `old` on, and now stand from `new` on. The first
-- `count` of them start from another state than before (where all lines but those that reached a
-- limit are orderly, before and after), and the next one, if there is one, from the same.
pub record SettlesAfter (before after : Buffer) (old new count : ℕ) : Type 0 where
  pub within : new + count ≤ length after.lines
  pub first : RunsOrderly before.set before.syntax (given_in before (length before.lines))
      → RunsOrderly after.set after.syntax (given_in after (length after.lines))
      → (k : ℕ) → k < count → StartsApart before after (old + k) (new + k)
  pub stops : new + count < length after.lines → StartsSame before after (old + count) (new + count)

-- So many lines are read again: these that are new themselves, and the first unchanged ones after
-- them that start from another state than before.
abbrev pub ReadsAgain : Buffer → Buffer → ℕ → ℕ → ℕ → ℕ → Type 0
ReadsAgain before after own old new number =
    (count : ℕ) × (number ≡ own + count) × SettlesAfter before after old new count
