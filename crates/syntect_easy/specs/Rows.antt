-- The lines that a reader gives, and what they are shown in.
use Rattle.std.specs.Prelude.{◌≡◌, ℕ, ◌<◌, ◌==◌, Bool, true, false, List, [], ◌∷◌, ◌++◌, length, Option, Some, IfSome, Ok, Err, IsUtf8}
use Rattle.std.specs.Borrow.{Bor}
use Rattle.std.specs.Global.{Vec}
use Rattle.std.specs.Io.{StopsAt}
use Rattle.std.specs.declared.io.Error.{Error as IoError}
use Rattle.syntect_easy.specs.syntect_theme.declared.style.Style.{Style}
use Rattle.syntect_easy.specs.syntect_theme.declared.theme.Theme.{Theme}
use Rattle.syntect_easy.specs.syntect_reading_choice.Engine.{dialect}
use Rattle.syntect_parsing.specs.Line.{AnswersAll, start_of}
use Rattle.syntect_parsing.specs.declared.parser.Standing.{Standing}
use Rattle.syntect_easy.specs.syntect_grammar_contexts.declared.syntax_reference.SyntaxReference.{SyntaxReference}
use Rattle.syntect_easy.specs.syntect_grammar.declared.syntax_set.SyntaxSet.{SyntaxSet}
use Rattle.syntect_writers.specs.Lines.{lines_of}
use Rattle.syntect_easy.specs.Leads.{Leads, Continues, OnlyParsing}
use Rattle.syntect_easy.specs.syntect_grammar_loader.declared.definition.SyntaxDefinition.{SyntaxDefinition}
use Rattle.syntect_easy.specs.syntect_grammar.declared.error.Error.{Error}
use Rattle.syntect_easy.specs.Pages.{Row, AreShown, AreUtf8, BeginWithNoText, IsReadUpTo, IsRefusedAtALineOfBytes, IsStopped, lines_in, answers_in, past_of}
use Rattle.syntect_easy.specs.declared.easy.HighlightLines.{HighlightLines}

-- ---- a reader ----

-- the text is what a reader has left, if it tells
abbrev pub IsTextOf : Option (List ℕ) → List ℕ → Type 0
IsTextOf left text = IfSome left (λ bytes. text ≡ bytes)

-- another line can follow: there is none yet, or it ends with a newline
abbrev pub can_go_on : List ℕ → Bool
can_go_on [] = true
can_go_on (b ∷ []) = b == 10
can_go_on (b ∷ (c ∷ rest)) = can_go_on (c ∷ rest)

-- what follows a line is nothing, unless another line can follow it
abbrev pub CanFollow : List ℕ → List ℕ → Type 0
CanFollow line rest = can_go_on line ≡ false → rest ≡ []

-- What a reader gives after a line, and what it has left then: a line of at least one byte, whose
-- newline, if it has one, stands at its end; or nothing, after a line that none can follow or where
-- nothing is left.
abbrev pub GivesNext : Option (List ℕ) → List ℕ → Option (List ℕ) → List ℕ → Bool → Type 0
GivesNext had last left line true =
    (0 < length line) × StopsAt line 10 × (can_go_on last ≡ true)
    × IfSome had (λ bytes. (rest : List ℕ)
    × (left ≡ Some rest) × (bytes ≡ line ++ rest) × CanFollow line rest)
GivesNext had last left line false = can_go_on last ≡ true → IfSome had (λ bytes. bytes ≡ [])

-- a reader that had all has this left after these bytes, the last line of which is `last`
abbrev pub IsLeft : Option (List ℕ) → Option (List ℕ) → List ℕ → List ℕ → Type 0
IsLeft had left done last =
    IfSome had (λ text. (rest : List ℕ)
    × (left ≡ Some rest) × (text ≡ done ++ rest) × CanFollow last rest)

-- ---- rows ----

-- The rows are the text's lines, each read from the state that the lines before it leave, in the
-- theme's styles.
pub record AreRowsOf (set : SyntaxSet) (theme : Theme) (syntax : SyntaxReference) (text : List ℕ)
    (rows : List Row) : Type 0 where
  pub start : Standing
  pub after : Standing
  pub begins : start_of syntax ≡ Some start
  pub lines : lines_in rows ≡ lines_of text
  pub run : AnswersAll dialect set (lines_in rows) start (answers_in rows) after
  pub shown : AreShown set theme syntax rows

-- What a reader has given so far is shown in these rows, and h is what the highlighter then holds.
pub record AreRowsSoFar (set : SyntaxSet) (theme : Theme) (syntax : SyntaxReference)
    (had left : Option (List ℕ)) (last : List ℕ) (rows : List Row)
    (h : HighlightLines) : Type 0 where
  pub done : List ℕ
  pub valid : IsUtf8 done
  pub leads : Leads set theme syntax (lines_in rows) (answers_in rows) h
  pub lines : (rest : List ℕ) → CanFollow last rest
      → lines_in rows ++ lines_of rest ≡ lines_of (done ++ rest)
  pub lines_valid : AreUtf8 (lines_in rows)
  pub shown : AreShown set theme syntax rows
  pub is_left : IsLeft had left done last

-- ---- laws ----

-- there are no rows at first
abbrev pub RowsBegin : Type 0
RowsBegin =
    (set : SyntaxSet) (theme : Theme) (syntax : SyntaxReference) (had : Option (List ℕ))
    (last : List ℕ) (h : HighlightLines)
    → Leads set theme syntax [] [] h → last ≡ [] → AreRowsSoFar set theme syntax had had last [] h

-- the next line, in the pieces that it is shown in, is a row more
abbrev pub RowsGoOn : Type 0
RowsGoOn =
    (set : SyntaxSet) (definitions : List SyntaxDefinition) (theme : Theme)
    (syntax : SyntaxReference) (had left after : Option (List ℕ)) (last bytes : List ℕ)
    (rows : List Row)
    (line : Bor (List ℕ)) (h new : HighlightLines) (pieces : Vec (Style × Bor (List ℕ)))
    → AreRowsSoFar set theme syntax had left last rows h
    → (l : Continues (past_of definitions theme syntax rows) set line new (Ok pieces))
    → GivesNext left last after bytes true → line.now ≡ bytes → IsUtf8 bytes
    → AreRowsSoFar set theme syntax had after bytes
    (rows ++ record { line = line.now; scopes = l.0; pieces = pieces.items } ∷ []) new

-- where nothing is left, the rows are those of a text, and that is the reader's if it tells
abbrev pub RowsEnd : Type 0
RowsEnd = (set : SyntaxSet) (theme : Theme) (syntax : SyntaxReference)
    (had left after : Option (List ℕ)) (last bytes : List ℕ) (rows : List Row) (h : HighlightLines)
    → AreRowsSoFar set theme syntax had left last rows h → GivesNext left last after bytes false
    → (text : List ℕ) × IsTextOf had text × IsUtf8 text × AreRowsOf set theme syntax text rows

-- a line that is refused ends the rows
abbrev pub RowsRefuse : Type 0
RowsRefuse =
    (set : SyntaxSet) (definitions : List SyntaxDefinition) (theme : Theme)
    (syntax : SyntaxReference) (had left after : Option (List ℕ)) (last bytes : List ℕ)
    (rows : List Row)
    (line : Bor (List ℕ)) (h new : HighlightLines) (e : Error)
    → AreRowsSoFar set theme syntax had left last rows h
    → Continues (past_of definitions theme syntax rows) set line new (Err e)
    → GivesNext left last after bytes true → line.now ≡ bytes → IsUtf8 bytes
    → (text : List ℕ) × IsTextOf had text
    × OnlyParsing (IsRefusedAtALineOfBytes set syntax text) e

-- a fault of reading comes after lines that were read
abbrev pub RowsStop : Type 0
RowsStop =
    (set : SyntaxSet) (theme : Theme) (syntax : SyntaxReference) (had left : Option (List ℕ))
    (last : List ℕ) (rows : List Row) (h : HighlightLines)
    → AreRowsSoFar set theme syntax had left last rows h
    → (text : List ℕ) × IsTextOf had text × IsReadUpTo set syntax text

-- and so does a line that is not UTF-8, which is the next one
abbrev pub RowsHaveNoText : Type 0
RowsHaveNoText =
    (set : SyntaxSet) (theme : Theme) (syntax : SyntaxReference)
    (had left after : Option (List ℕ)) (last bytes : List ℕ) (rows : List Row)
    (h : HighlightLines)
    → AreRowsSoFar set theme syntax had left last rows h
    → GivesNext left last after bytes true → ¬ (IsUtf8 bytes)
    → (text : List ℕ) × IsTextOf had text × (read : IsReadUpTo set syntax text)
    × BeginWithNoText read.rest

-- ---- lines alone ----

-- one of the text's lines is not UTF-8
pub record HasNoText (text : List ℕ) : Type 0 where
  pub before : List (List ℕ)
  pub line : List ℕ
  pub after : List (List ℕ)
  pub lines : before ++ line ∷ after ≡ lines_of text
  pub no_text : ¬ (IsUtf8 line)

-- These lines were read of what a reader had, and this is left.
pub record AreLinesSoFar (had left : Option (List ℕ)) (last : List ℕ) : Type 0 where
  pub done : List ℕ
  pub lines : List (List ℕ)
  pub are : (rest : List ℕ) → CanFollow last rest → lines ++ lines_of rest ≡ lines_of (done ++ rest)
  pub is_left : IsLeft had left done last

-- there are none at first
abbrev pub ReadingBegins : Type 0
ReadingBegins = (had : Option (List ℕ)) (last : List ℕ) → last ≡ [] → AreLinesSoFar had had last

-- the next line is one more
abbrev pub ReadingGoesOn : Type 0
ReadingGoesOn =
    (had left after : Option (List ℕ)) (last bytes : List ℕ) → AreLinesSoFar had left last
    → GivesNext left last after bytes true → AreLinesSoFar had after bytes

-- where it is not UTF-8, the reader's text has such a line
abbrev pub ReadingFindsNoText : Type 0
ReadingFindsNoText =
    (had left after : Option (List ℕ)) (last bytes : List ℕ) → AreLinesSoFar had left last
    → GivesNext left last after bytes true → ¬ (IsUtf8 bytes)
    → (text : List ℕ) × IsTextOf had text × HasNoText text

-- ---- For proofs and private functions alone ----

-- some text of the reader ends with this refusal
abbrev pub HasStopped : (Failed : IoError → Type 0) → SyntaxSet → SyntaxReference
    → Option (List ℕ) → Error → Type 0
HasStopped Failed set syntax had e =
    (text : List ℕ) × IsTextOf had text × IsStopped Failed set syntax text e
