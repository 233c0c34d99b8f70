-- Texts whose lines are read within limits. A line that reaches a limit is shown plain.
use Rattle.std.specs.Prelude.{◌≡◌, ℕ, ◌+◌, true, false, List, [], ◌∷◌, ◌++◌, map, All, Option, Some, None, Ok, IsUtf8}
use Rattle.std.specs.Borrow.{Bor}
use Rattle.std.specs.Global.{Vec}
use Rattle.syntect_easy.specs.syntect_base.declared.limits.Limits.{Limits}
use Rattle.syntect_style.specs.Pieces.{Joins}
use Rattle.syntect_style.specs.Styling.{default_style}
use Rattle.syntect_easy.specs.syntect_theme.declared.style.Style.{Style}
use Rattle.syntect_easy.specs.syntect_theme.declared.theme.Theme.{Theme}
use Rattle.syntect_easy.specs.syntect_reading_choice.Engine.{dialect}
use Rattle.syntect_parsing.specs.Bound.{TakesNoMore}
use Rattle.syntect_parsing.specs.Line.{AnswersAll, start_of}
use Rattle.syntect_parsing.specs.States.{standing}
use Rattle.syntect_parsing.specs.Within.{IsThere}
use Rattle.syntect_parsing.specs.declared.parser.Standing.{Standing}
use Rattle.syntect_parsing.specs.declared.within.LineLimit.{LineLimit}
use Rattle.syntect_easy.specs.syntect_grammar_contexts.declared.syntax_reference.SyntaxReference.{SyntaxReference}
use Rattle.syntect_easy.specs.syntect_grammar.declared.syntax_set.SyntaxSet.{SyntaxSet}
use Rattle.syntect_easy.specs.syntect_grammar_loader.declared.definition.SyntaxDefinition.{SyntaxDefinition}
use Rattle.syntect_writers.specs.Lines.{lines_of}
use Rattle.syntect_easy.specs.Leads.{Continues, IsPast, Leads, Past, reader_of}
use Rattle.syntect_easy.specs.Pages.{Row, AreShown, lines_in, answers_in, past_of}
use Rattle.syntect_easy.specs.Rows.{CanFollow, GivesNext, IsLeft, IsTextOf}
use Rattle.syntect_easy.specs.Within.{ReachesLimit}
use Rattle.syntect_easy.specs.declared.easy.HighlightLines.{HighlightLines}
use Rattle.syntect_easy.specs.declared.within.HighlightWithinError.TheVariants.{LimitReached}

-- ---- one line ----

-- The pieces join to the line, and all have the theme's own style.
pub record ArePlain (theme : Theme) (line : List ℕ) (pieces : List (Style × Bor (List ℕ)))
    : Type 0 where
  pub joins : Joins line pieces
  pub styled : All (λ p. p.0 ≡ default_style theme) pieces

-- The limit is one that the limits have. Where it is that of turns, the whole reading of the line
-- from this state takes at least as many; and where it is that of levels, that reading comes to a
-- place with more open ones. What a line's searches take is no matter of definitions: of steps only
-- the call that reads says it.
pub record ReachesFrom (limits : Limits) (set : SyntaxSet) (line : List ℕ) (state : Standing)
    (limit : LineLimit) : Type 0 where
  pub turns : ℕ
  pub steps : ℕ
  pub no_more : TakesNoMore dialect set line state 0 turns
  pub reaches : ReachesLimit limits turns steps (LimitReached limit)
  pub there : IsThere dialect set line state limit

-- The line is answered after this past within limits: as without them; or it reaches one, is shown
-- plain, and the past stays.
abbrev pub ContinuesWithin : Limits → Past → SyntaxSet → Bor (List ℕ) → HighlightLines
    → HighlightLines → Vec (Style × Bor (List ℕ)) → Option LineLimit → Type 0
ContinuesWithin limits past set line old new pieces None = Continues past set line new (Ok pieces)
ContinuesWithin limits past set line old new pieces (Some limit) =
    IsPast past set new × ArePlain past.theme line.now pieces.items
    × ReachesFrom limits set line.now (standing (reader_of old)) limit

-- ---- lines one after another ----

-- a line as it is shown: as it was read, or plain, with the limit that it reached
pub data Shown : Type 0 where
  read : Row → Shown
  plain : List ℕ → List (Style × Bor (List ℕ)) → LineLimit → Shown

-- its text
abbrev pub line_in : Shown → List ℕ
line_in (read row) = row.line
line_in (plain line pieces limit) = line

-- its pieces
abbrev pub pieces_in : Shown → List (Style × Bor (List ℕ))
pieces_in (read row) = row.pieces
pieces_in (plain line pieces limit) = pieces

-- the limit that a line reached, if it is plain
abbrev pub limit_in : Shown → Option LineLimit
limit_in (read row) = None
limit_in (plain line pieces limit) = Some limit

-- the texts of all lines
abbrev pub all_lines : List Shown → List (List ℕ)
all_lines lines = map line_in lines

-- the lines that were read
abbrev pub rows_in : List Shown → List Row
rows_in [] = []
rows_in (read row ∷ lines) = row ∷ rows_in lines
rows_in (plain line pieces limit ∷ lines) = rows_in lines

-- the first plain line of those that come after so many, by its number from one, and its limit
abbrev pub first_plain : ℕ → List Shown → Option (ℕ × LineLimit)
first_plain before [] = None
first_plain before (read row ∷ lines) = first_plain (before + 1) lines
first_plain before (plain line pieces limit ∷ lines) = Some (before + 1, limit)

-- A line is plain after these rows: it reaches the limit from the state that they lead to.
pub record IsPlainAfter (limits : Limits) (set : SyntaxSet) (theme : Theme)
    (syntax : SyntaxReference) (rows : List Row) (line : List ℕ)
    (pieces : List (Style × Bor (List ℕ))) (limit : LineLimit) : Type 0 where
  pub start : Standing
  pub state : Standing
  pub begins : start_of syntax ≡ Some start
  pub run : AnswersAll dialect set (lines_in rows) start (answers_in rows) state
  pub reaches : ReachesFrom limits set line state limit
  pub pieces_are : ArePlain theme line pieces

-- of lines that come after these rows each plain one is so after the rows before it
abbrev pub ArePlainAfter : Limits → SyntaxSet → Theme → SyntaxReference → List Row → List Shown
    → Type 0
ArePlainAfter limits set theme syntax rows [] = Unit {0}
ArePlainAfter limits set theme syntax rows (read row ∷ lines) =
    ArePlainAfter limits set theme syntax (rows ++ row ∷ []) lines
ArePlainAfter limits set theme syntax rows (plain line pieces limit ∷ lines) =
    IsPlainAfter limits set theme syntax rows line pieces limit
    × ArePlainAfter limits set theme syntax rows lines

-- The lines are those of the text. Each was read, from the state that those leave which were read
-- before it, and is shown in the theme's styles; or it reached a limit there, and is plain.
pub record AreLinesOf (limits : Limits) (set : SyntaxSet) (theme : Theme)
    (syntax : SyntaxReference) (text : List ℕ) (lines : List Shown) : Type 0 where
  pub start : Standing
  pub after : Standing
  pub begins : start_of syntax ≡ Some start
  pub lines_are : all_lines lines ≡ lines_of text
  pub run : AnswersAll dialect set (lines_in (rows_in lines)) start
      (answers_in (rows_in lines)) after
  pub shown : AreShown set theme syntax (rows_in lines)
  pub plain : ArePlainAfter limits set theme syntax [] lines

-- What a reader has given so far is shown in these lines, and h is what the highlighter then holds.
pub record AreLinesSoFar (limits : Limits) (set : SyntaxSet) (theme : Theme)
    (syntax : SyntaxReference) (had left : Option (List ℕ)) (last : List ℕ) (lines : List Shown)
    (h : HighlightLines) : Type 0 where
  pub done : List ℕ
  pub valid : IsUtf8 done
  pub leads : Leads set theme syntax (lines_in (rows_in lines)) (answers_in (rows_in lines)) h
  pub lines_are : (rest : List ℕ) → CanFollow last rest
      → all_lines lines ++ lines_of rest ≡ lines_of (done ++ rest)
  pub shown : AreShown set theme syntax (rows_in lines)
  pub plain : ArePlainAfter limits set theme syntax [] lines
  pub is_left : IsLeft had left done last

-- ---- laws ----

-- there are no lines at first
abbrev pub LinesBegin : Type 0
LinesBegin =
    (limits : Limits) (set : SyntaxSet) (theme : Theme) (syntax : SyntaxReference)
    (had : Option (List ℕ)) (last : List ℕ) (h : HighlightLines)
    → Leads set theme syntax [] [] h → last ≡ []
    → AreLinesSoFar limits set theme syntax had had last [] h

-- the next line, in the pieces that it is shown in, is one more
abbrev pub LinesGoOn : Type 0
LinesGoOn =
    (limits : Limits) (set : SyntaxSet) (definitions : List SyntaxDefinition) (theme : Theme)
    (syntax : SyntaxReference) (had left after : Option (List ℕ)) (last bytes : List ℕ)
    (lines : List Shown) (line : Bor (List ℕ)) (h new : HighlightLines)
    (pieces : Vec (Style × Bor (List ℕ))) (limit : Option LineLimit)
    → AreLinesSoFar limits set theme syntax had left last lines h
    → ContinuesWithin limits (past_of definitions theme syntax (rows_in lines)) set line h new
    pieces limit
    → GivesNext left last after bytes true → line.now ≡ bytes → IsUtf8 bytes
    → (next : Shown) × (pieces_in next ≡ pieces.items) × (limit_in next ≡ limit)
    × AreLinesSoFar limits set theme syntax had after bytes (lines ++ next ∷ []) new

-- where nothing is left, the lines are those of a text, and that is the reader's if it tells
abbrev pub LinesEnd : Type 0
LinesEnd = (limits : Limits) (set : SyntaxSet) (theme : Theme) (syntax : SyntaxReference)
    (had left after : Option (List ℕ)) (last bytes : List ℕ) (lines : List Shown)
    (h : HighlightLines)
    → AreLinesSoFar limits set theme syntax had left last lines h
    → GivesNext left last after bytes false
    → (text : List ℕ) × IsTextOf had text × IsUtf8 text
    × AreLinesOf limits set theme syntax text lines
