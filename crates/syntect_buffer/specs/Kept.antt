-- What a buffer keeps of its lines, and what is read again.
use Rattle.std.specs.Prelude.{◌≡◌, true, ℕ, ◌+◌, ◌<◌, ◌≤◌, List, [], ◌∷◌, ◌++◌, length, take, drop, map, string_bytes}
use Rattle.syntect_buffer.specs.syntect_base.declared.limits.Limits.{Limits}
use Rattle.syntect_buffer.specs.syntect_theme.declared.theme.Theme.{Theme}
use Rattle.syntect_buffer.specs.syntect_parsing.Line.{Answer}
use Rattle.syntect_buffer.specs.syntect_grammar_loader.declared.definition.SyntaxDefinition.{SyntaxDefinition}
use Rattle.syntect_buffer.specs.syntect_grammar_contexts.declared.syntax_reference.SyntaxReference.{SyntaxReference}
use Rattle.syntect_buffer.specs.syntect_grammar.declared.syntax_set.SyntaxSet.{SyntaxSet}
use Rattle.syntect_buffer.specs.syntect_easy.Built.{IsSyntaxOfBuilt}
use Rattle.syntect_buffer.specs.syntect_easy.Leads.{Past, RunsOrderly, and_then}
use Rattle.syntect_buffer.specs.Answers.{IsAnswer, TellsOf}
use Rattle.syntect_buffer.specs.Fresh.{Buffer}
use Rattle.syntect_buffer.specs.States.{Holds, StandSame, no_lines}
use Rattle.syntect_buffer.specs.declared.answer.LineAnswer.{LineAnswer}
use Rattle.syntect_buffer.specs.declared.answer.LineAnswer.TheVariants as answer
use Rattle.syntect_buffer.specs.declared.states.LineStates.{LineStates}
use Rattle.syntect_buffer.specs.declared.reading.Reading.{Reading}
use Rattle.syntect_buffer.specs.declared.reading.Kept.{Kept}

-- ---- lines one after another ----

-- the texts of the lines
abbrev pub lines_in : Kept → List (List ℕ)
lines_in k = map string_bytes k.lines

-- the answers of readings
abbrev pub answers_of : List Reading → List LineAnswer
answers_of rs = map (λ r. r.answer) rs

-- what is seen of a buffer
abbrev pub buffer_view : SyntaxReference → SyntaxSet → Theme → Kept → Buffer
buffer_view syntax set theme k =
    record {
      syntax = syntax;
      set = set;
      theme = theme;
      limits = k.limits;
      lines = lines_in k;
      answers = answers_of k.readings;
    }

-- ---- What invariants alone rest on ----

-- ---- one line ----

-- after a past the line is answered so, and these are the states then
pub record IsAnswered (past : Past) (set : SyntaxSet) (line : List ℕ) (a : LineAnswer)
    (after : LineStates) : Type 0 where
  pub given : Answer
  pub holds : Holds (and_then past line given) set after
  pub answer : IsAnswer (RunsOrderly set past.syntax
      (past.lines ++ line ∷ [])) past.theme line given a

-- or it reached a limit, and the states are still those after the past
abbrev pub IsAnsweredUnlessLimited : Past → SyntaxSet → List ℕ → LineAnswer → LineStates → Type 0
IsAnsweredUnlessLimited past set line (answer.Pieces ps) after = IsAnswered past set line (answer.Pieces ps) after
IsAnsweredUnlessLimited past set line (answer.Refused e) after = IsAnswered past set line (answer.Refused e) after
IsAnsweredUnlessLimited past set line (answer.LimitReached l) after = Holds past set after

-- the reading of a line after a past
abbrev pub IsReadingAfter : Past → SyntaxSet → List ℕ → Reading → Type 0
IsReadingAfter past set line r = IsAnsweredUnlessLimited past set line r.answer r.after

-- a reading that begins with these states ends alike where its mark says so
abbrev pub IsMarked : LineStates → Reading → Type 0
IsMarked before r = r.ends_alike ≡ true → StandSame before r.after

-- The line was read from these states: whatever past leads to them, the reading continues it.
pub record IsReadFrom (set : SyntaxSet) (theme : Theme) (before : LineStates) (line : List ℕ)
    (r : Reading) : Type 0 where
  pub marked : IsMarked before r
  pub continues : (past : Past) → past.theme ≡ theme → Holds past set before
      → IsReadingAfter past set line r

-- each line was read from the states that the reading before it left
abbrev pub AreReadFrom : SyntaxSet → Theme → LineStates → List (List ℕ) → List Reading → Type 0
AreReadFrom set theme s [] [] = Unit {0}
AreReadFrom set theme s (l ∷ ls) (r ∷ rs) =
    IsReadFrom set theme s l r × AreReadFrom set theme r.after ls rs
AreReadFrom set theme s ls rs = ⊥

-- the marks of readings that begin with these states hold
abbrev pub AreMarked : LineStates → List Reading → Type 0
AreMarked s [] = Unit {0}
AreMarked s (r ∷ rs) = IsMarked s r × AreMarked r.after rs

-- the limits that readings tell are some of these
abbrev pub AllTell : Limits → List Reading → Type 0
AllTell limits [] = Unit {0}
AllTell limits (r ∷ rs) = TellsOf limits r.answer × AllTell limits rs

-- What a buffer keeps: there are as many readings as lines, their marks hold, they tell the
-- buffer's limits alone, and for all definitions that the set is built of, the first states are
-- those before a text, and each line was read from the states that the one before it left.
pub record IsKept (set : SyntaxSet) (theme : Theme) (syntax : SyntaxReference)
    (kept : Kept) : Type 0 where
  pub count : length (lines_in kept) ≡ length kept.readings
  pub marked : AreMarked kept.start kept.readings
  pub told : AllTell kept.limits kept.readings
  pub starts : (definitions : List SyntaxDefinition) → IsSyntaxOfBuilt set syntax definitions
      → Holds (no_lines definitions theme syntax) set kept.start
  pub read : (definitions : List SyntaxDefinition) → IsSyntaxOfBuilt set syntax definitions
      → AreReadFrom set theme kept.start (lines_in kept) kept.readings

-- ---- For proofs and private functions alone ----

-- the states after readings that begin with these
abbrev pub ending : LineStates → List Reading → LineStates
ending s [] = s
ending s (r ∷ rs) = ending r.after rs

-- ---- lines read again ----

-- Lines were read again one after another, each from other states than before: from `now` on the
-- new ones, from `old` on the ones that stood there.
abbrev pub ReadsOn : SyntaxSet → Theme → LineStates → LineStates → List (List ℕ) → List Reading
    → List Reading → Type 0
ReadsOn set theme now old ls rs [] = Unit {0}
ReadsOn set theme now old (l ∷ ls) (r ∷ rs) (n ∷ ns) =
    ¬ (StandSame old now) × IsReadFrom set theme now l n
    × ReadsOn set theme n.after r.after ls rs ns
ReadsOn set theme now old ls rs (n ∷ ns) = ⊥

-- The lines are read again up to, and without, the first one that starts from the same states as
-- before, or to the end.
pub record AreReadAgain (set : SyntaxSet) (theme : Theme) (limits : Limits)
    (now old : LineStates) (lines : List (List ℕ)) (readings again : List Reading) : Type 0 where
  pub within : length again ≤ length lines
  pub on : ReadsOn set theme now old lines readings again
  pub told : AllTell limits again
  pub stops : length again < length lines
      → StandSame (ending old (take (length again) readings)) (ending now again)

-- ---- edits ----

-- an edit puts these lines in place of those from one place to another,
-- and so many lines are read again
pub record IsEdited (set : SyntaxSet) (theme : Theme) (old new : Kept) (place behind : ℕ)
    (own : List (List ℕ)) (number : ℕ) : Type 0 where
  pub readings : List Reading
  pub again : List Reading
  pub limits_is : new.limits ≡ old.limits
  pub start_is : new.start ≡ old.start
  pub lines_are : lines_in new ≡ take place (lines_in old) ++ (own ++ drop behind (lines_in old))
  pub readings_are : new.readings
      ≡ take place old.readings
      ++ (readings ++ (again ++ drop (length again) (drop behind old.readings)))
  pub own_read : AreReadFrom set theme (ending old.start (take place old.readings)) own readings
  pub own_told : AllTell old.limits readings
  pub read_again : AreReadAgain set theme old.limits
      (ending (ending old.start (take place old.readings)) readings)
      (ending old.start (take behind old.readings))
      (drop behind (lines_in old)) (drop behind old.readings) again
  pub number_is : number ≡ length own + length again
