-- What a page of HTML shows of a text.
use Rattle.std.specs.Prelude.{◌≡◌, ℕ, List, [], ◌∷◌, ◌++◌, map, Some, ◌⊎◌}
use Rattle.std.specs.Str.{IsUtf8}
use Rattle.std.specs.List.{flat_map}
use Rattle.std.specs.Borrow.{Bor}
use Rattle.std.specs.IoError.{error_kind}
use Rattle.std.specs.declared.io.Error.{Error as IoError}
use Rattle.std.specs.declared.io.ErrorKind.TheVariants.{InvalidData}
use Rattle.syntect_style.specs.Pieces.{Joins, IsStyled}
use Rattle.syntect_easy.specs.syntect_theme.declared.style.Style.{Style}
use Rattle.syntect_easy.specs.syntect_theme.declared.theme.Theme.{Theme}
use Rattle.syntect_easy.specs.syntect_reading_choice.Engine.{dialect}
use Rattle.syntect_parsing.specs.Line.{Answer, Accepted, RefusedBy, AnswersAll, start_of}
use Rattle.syntect_parsing.specs.declared.parser.Standing.{Standing}
use Rattle.syntect_easy.specs.syntect_grammar_contexts.declared.error.ParsingError.{ParsingError}
use Rattle.syntect_easy.specs.syntect_grammar_contexts.declared.syntax_reference.SyntaxReference.{SyntaxReference}
use Rattle.syntect_easy.specs.syntect_grammar.declared.syntax_set.SyntaxSet.{SyntaxSet}
use Rattle.syntect_writers.specs.Lines.{lines_of}
use Rattle.syntect_writers.specs.Spans.{line_text, opening, closing, background_of}
use Rattle.syntect_writers.specs.declared.html.IncludeBackground.TheVariants.{IfDifferent}
use Rattle.syntect_easy.specs.Leads.{LacksStart, OnlyParsing, Past, RunsOrderly}
use Rattle.syntect_easy.specs.syntect_grammar_loader.declared.definition.SyntaxDefinition.{SyntaxDefinition}
use Rattle.syntect_easy.specs.syntect_grammar.declared.error.Error.{Error}
use Rattle.syntect_easy.specs.syntect_grammar.declared.error.Error.TheVariants as error

-- a line, the scopes that its reading gives each byte, and the pieces that it is shown in
pub record Row : Type 0 where
  pub line : List ℕ
  pub scopes : List (List (List ℕ))
  pub pieces : List (Style × Bor (List ℕ))

-- the lines of rows, in order
abbrev pub lines_in : List Row → List (List ℕ)
lines_in rows = map (λ row. row.line) rows

-- of each row the pieces join to the line, and none is empty
abbrev pub AreJoined : List Row → Type 0
AreJoined [] = Unit {0}
AreJoined (row ∷ rows) = Joins row.line row.pieces × AreJoined rows

-- of each row each byte has the theme's style for its scopes
abbrev pub AreStyled : Theme → List Row → Type 0
AreStyled theme [] = Unit {0}
AreStyled theme (row ∷ rows) = IsStyled theme row.scopes row.pieces × AreStyled theme rows

-- The rows are joined, and where their lines are orderly they are styled.
pub record AreShown (set : SyntaxSet) (theme : Theme) (syntax : SyntaxReference)
    (rows : List Row) : Type 0 where
  pub joins : AreJoined rows
  pub styled : RunsOrderly set syntax (lines_in rows) → AreStyled theme rows

-- the answers to the lines of rows: each line is accepted, with its row's scopes
abbrev pub answers_in : List Row → List Answer
answers_in rows = map (λ row. Accepted row.scopes) rows

-- the past in which these rows were shown
abbrev pub past_of : List SyntaxDefinition → Theme → SyntaxReference → List Row → Past
past_of definitions theme syntax rows =
    record {
      definitions = definitions;
      theme = theme;
      syntax = syntax;
      lines = lines_in rows;
      answers = answers_in rows;
    }

-- the lines of rows as HTML: the colour behind the theme's text is not told again
abbrev pub body_text : Theme → List Row → List ℕ
body_text theme rows =
    flat_map (λ row. line_text (IfDifferent (background_of theme)) row.pieces) rows

-- The page shows the text's lines, all accepted, each read from the state that the lines before it
-- leave, between the theme's frame; where they are orderly, each byte in the theme's style.
pub record IsPage (set : SyntaxSet) (theme : Theme) (syntax : SyntaxReference)
    (text page : List ℕ) : Type 0 where
  pub rows : List Row
  pub start : Standing
  pub after : Standing
  pub begins : start_of syntax ≡ Some start
  pub lines : lines_in rows ≡ lines_of text
  pub run : AnswersAll dialect set (lines_in rows) start (answers_in rows) after
  pub shown : AreShown set theme syntax rows
  pub written : page ≡ opening theme ++ (body_text theme rows ++ closing)

-- The text's lines up to one are read, and that one is refused so.
pub record IsRefusedAtALine (set : SyntaxSet) (syntax : SyntaxReference) (text : List ℕ)
    (e : ParsingError) : Type 0 where
  pub rows : List Row
  pub line : List ℕ
  pub rest : List (List ℕ)
  pub start : Standing
  pub after : Standing
  pub begins : start_of syntax ≡ Some start
  pub lines : lines_in rows ++ line ∷ rest ≡ lines_of text
  pub run : AnswersAll dialect set (lines_in rows ++ line ∷ []) start
      (answers_in rows ++ RefusedBy e ∷ []) after

-- why no page is made: the syntax has no `__start`, or a line is refused, or memory ran out
abbrev pub IsWhyNoPage : SyntaxSet → SyntaxReference → List ℕ → Error → Type 0
IsWhyNoPage set syntax text =
    OnlyParsing (λ e. LacksStart syntax (error.ParsingError e) ⊎ IsRefusedAtALine set syntax text e)

-- ---- the text of a reader ----

-- one of these faults, or lack of memory
abbrev pub IsReadFault : (Faults : IoError → Type 0) → Error → Type 0
IsReadFault Faults (error.Io e) = Faults e
IsReadFault Faults error.Memory = Unit {0}
IsReadFault Faults e = ⊥

-- the fault tells that bytes are not UTF-8
abbrev pub TellsNoText : IoError → Type 0
TellsNoText e = error_kind e ≡ InvalidData

-- the first of these lines is not UTF-8
abbrev pub BeginWithNoText : List (List ℕ) → Type 0
BeginWithNoText [] = ⊥
BeginWithNoText (line ∷ lines) = ¬ (IsUtf8 line)

-- The reader had this text, it is UTF-8, and the page shows it.
abbrev pub IsPageOfBytes : SyntaxSet → Theme → SyntaxReference → List ℕ → List ℕ → Type 0
IsPageOfBytes set theme syntax text page = IsUtf8 text × IsPage set theme syntax text page

-- each of these lines is UTF-8
abbrev pub AreUtf8 : List (List ℕ) → Type 0
AreUtf8 [] = Unit {0}
AreUtf8 (line ∷ lines) = IsUtf8 line × AreUtf8 lines

-- A line is refused, and it and those before it are UTF-8.
abbrev pub IsRefusedAtALineOfBytes : SyntaxSet → SyntaxReference → List ℕ → ParsingError → Type 0
IsRefusedAtALineOfBytes set syntax text e =
    (r : IsRefusedAtALine set syntax text e) × AreUtf8 (lines_in r.rows) × IsUtf8 r.line

-- The text's lines up to one of them, or to its end, are UTF-8, and none of them is refused.
pub record IsReadUpTo (set : SyntaxSet) (syntax : SyntaxReference) (text : List ℕ) : Type 0 where
  pub rows : List Row
  pub rest : List (List ℕ)
  pub start : Standing
  pub after : Standing
  pub begins : start_of syntax ≡ Some start
  pub lines : lines_in rows ++ rest ≡ lines_of text
  pub run : AnswersAll dialect set (lines_in rows) start (answers_in rows) after
  pub valid : AreUtf8 (lines_in rows)

-- There is no page: a line is refused before one that is not UTF-8 and before a fault of the
-- reader; or after lines none of which is refused the reader failed with this fault, or the next
-- line is not UTF-8; or there was no memory.
abbrev pub IsStopped : (Failed : IoError → Type 0) → SyntaxSet → SyntaxReference → List ℕ → Error
    → Type 0
IsStopped Failed set syntax text (error.Io e) =
    (read : IsReadUpTo set syntax text)
    × (Failed e ⊎ (TellsNoText e × BeginWithNoText read.rest))
IsStopped Failed set syntax text e = OnlyParsing (IsRefusedAtALineOfBytes set syntax text) e

-- The same, where the syntax is looked at first.
abbrev pub HasNoPageOfBytes : (Failed : IoError → Type 0) → SyntaxSet → SyntaxReference → List ℕ
    → Error → Type 0
HasNoPageOfBytes Failed set syntax text e =
    LacksStart syntax e ⊎ IsStopped Failed set syntax text e
