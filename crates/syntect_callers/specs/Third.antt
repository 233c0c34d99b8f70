-- What a caller of three lines is told.
use Rattle.std.specs.Prelude.{◌≡◌, ℕ, List, [], ◌∷◌, ◌++◌, map, Option, Some, None, Result, IfOk, slice_get}
use Rattle.std.specs.Borrow.{Bor}
use Rattle.std.specs.Global.{Vec}
use Rattle.syntect_callers.specs.syntect_style.Pieces.{Joins, IsStyled}
use Rattle.syntect_callers.specs.syntect_theme.declared.style.Style.{Style}
use Rattle.syntect_callers.specs.syntect_theme.declared.theme.Theme.{Theme}
use Rattle.syntect_callers.specs.syntect_reading_choice.Engine.{dialect}
use Rattle.syntect_callers.specs.syntect_grammar.Link.{linked, syntaxes_in}
use Rattle.syntect_callers.specs.syntect_grammar.declared.syntax_set.SyntaxSet.{SyntaxSet}
use Rattle.syntect_callers.specs.syntect_parsing.Line.{Accepted, AnswersAll, start_of}
use Rattle.syntect_callers.specs.syntect_parsing.Refusals.{NamesUnresolved}
use Rattle.syntect_callers.specs.syntect_parsing.declared.parser.Standing.{Standing}
use Rattle.syntect_callers.specs.syntect_grammar_loader.declared.definition.SyntaxDefinition.{SyntaxDefinition}
use Rattle.syntect_callers.specs.syntect_grammar_contexts.declared.error.ParsingError.{ParsingError}
use Rattle.syntect_callers.specs.syntect_grammar_contexts.declared.error.ParsingError.TheVariants as parsing
use Rattle.syntect_callers.specs.syntect_grammar_contexts.declared.syntax_reference.SyntaxReference.{SyntaxReference}
use Rattle.syntect_easy.specs.Built.{StaysInStart}
use Rattle.syntect_easy.specs.Leads.{RunsOrderly}
use Rattle.syntect_callers.specs.syntect_grammar.declared.error.Error.{Error}
use Rattle.syntect_callers.specs.syntect_grammar.declared.error.Error.TheVariants as error

-- ---- For proofs and private functions alone ----

-- the set was built of these definitions
abbrev pub IsOf : List SyntaxDefinition → SyntaxSet → Type 0
IsOf definitions set = syntaxes_in set ≡ linked definitions

-- The lines were read one after another from the start of the first syntax of a set that was built
-- of the definitions, all accepted; the pieces join to the third, and where the lines are orderly,
-- each of its bytes has the theme's style for its scopes.
pub record IsThirdLine (definitions : List SyntaxDefinition) (theme : Theme)
    (first second third : List ℕ) (pieces : List (Style × Bor (List ℕ))) : Type 0 where
  pub set : SyntaxSet
  pub is_of : IsOf definitions set
  pub syntax : SyntaxReference
  pub among : slice_get (syntaxes_in set) 0 ≡ Some syntax
  pub start : Standing
  pub after : Standing
  pub bytes_first : List (List (List ℕ))
  pub bytes_second : List (List (List ℕ))
  pub bytes : List (List (List ℕ))
  pub begins : start_of syntax ≡ Some start
  pub answers : AnswersAll dialect set (first ∷ second ∷ third ∷ []) start
      (Accepted bytes_first ∷ Accepted bytes_second ∷ Accepted bytes ∷ []) after
  pub joins : Joins third pieces
  pub styled : RunsOrderly set syntax (first ∷ second ∷ third ∷ []) → IsStyled theme bytes pieces

-- or the set has no syntax
abbrev pub IsThird : List SyntaxDefinition → Theme → List ℕ → List ℕ → List ℕ
    → Option (Vec (Style × Bor (List ℕ))) → Type 0
IsThird definitions theme first second third None = definitions ≡ []
IsThird definitions theme first second third (Some pieces) =
    IsThirdLine definitions theme first second third pieces.items

-- the answer of a call that isn't refused
abbrev pub GivesThird : List SyntaxDefinition → Theme → List ℕ → List ℕ → List ℕ
    → Result (Option (Vec (Style × Bor (List ℕ)))) Error → Type 0
GivesThird definitions theme first second third result =
    IfOk result (IsThird definitions theme first second third)

-- the first syntax is never left
abbrev pub FirstStays : List SyntaxDefinition → Type 0
FirstStays definitions = (set : SyntaxSet) (syntax : SyntaxReference) → IsOf definitions set
    → slice_get (syntaxes_in set) 0 ≡ Some syntax → StaysInStart set syntax

-- One of the lines is refused, in a set that was built of the definitions: those before it were
-- accepted, from the start of its first syntax on, and a turn of its reading picks a match that
-- names a reference without target, which the refusal has.
pub record IsRefusedLine (definitions : List SyntaxDefinition) (lines : List (List ℕ))
    (e : ParsingError) : Type 0 where
  pub set : SyntaxSet
  pub is_of : IsOf definitions set
  pub syntax : SyntaxReference
  pub among : slice_get (syntaxes_in set) 0 ≡ Some syntax
  pub start : Standing
  pub state : Standing
  pub before : List (List ℕ)
  pub line : List ℕ
  pub behind : List (List ℕ)
  pub bytes : List (List (List (List ℕ)))
  pub begins : start_of syntax ≡ Some start
  pub splits : before ++ line ∷ behind ≡ lines
  pub run : AnswersAll dialect set before start (map Accepted bytes) state
  pub names : NamesUnresolved dialect set line state e

-- the first syntax has no `__start`
pub record LacksFirst (definitions : List SyntaxDefinition) : Type 0 where
  pub set : SyntaxSet
  pub is_of : IsOf definitions set
  pub syntax : SyntaxReference
  pub among : slice_get (syntaxes_in set) 0 ≡ Some syntax
  pub lacks : start_of syntax ≡ None

-- why the third line has no pieces, unless memory ran out
abbrev pub IsRefusal : List SyntaxDefinition → List (List ℕ) → Error → Type 0
IsRefusal definitions lines (error.ParsingError parsing.MissingMainContext) = LacksFirst definitions
IsRefusal definitions lines (error.ParsingError e) = IsRefusedLine definitions lines e
IsRefusal definitions lines error.Memory = Unit {0}
IsRefusal definitions lines e = ⊥
