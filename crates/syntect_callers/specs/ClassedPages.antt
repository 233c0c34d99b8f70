-- What a caller of the page with classes of a text is told.
use Rattle.std.specs.Prelude.{◌≡◌, ◌⊎◌, ℕ, List, ◌∷◌, ◌++◌, map, Some}
use Rattle.std.specs.List.{concat}
use Rattle.syntect_callers.specs.syntect_reading_choice.Engine.{dialect}
use Rattle.syntect_callers.specs.syntect_parsing.Line.{Accepted, AnswersAll, start_of}
use Rattle.syntect_callers.specs.syntect_parsing.declared.parser.Standing.{Standing}
use Rattle.syntect_callers.specs.syntect_writers.Lines.{lines_of}
use Rattle.syntect_callers.specs.syntect_grammar_contexts.declared.syntax_reference.SyntaxReference.{SyntaxReference}
use Rattle.syntect_callers.specs.syntect_grammar.declared.syntax_set.SyntaxSet.{SyntaxSet}
use Rattle.syntect_callers.specs.syntect_grammar.declared.error.Error.{Error}
use Rattle.syntect_easy.specs.Classed.{state_in, set_in, RefusesLineOf}
use Rattle.syntect_easy.specs.ClassedPages.{IsClassedPage}
use Rattle.syntect_easy.specs.Leads.{LacksStart}
use Rattle.syntect_easy.specs.declared.classed.ClassedHTMLGenerator.{ClassedHTMLGenerator}

-- ---- For proofs and private functions alone ----

-- It is the page of the text's lines, which join to the text.
pub record IsClassedPageOf (premise : Type 0) (set : SyntaxSet) (syntax : SyntaxReference)
    (repository : List (List ℕ)) (prefix text page : List ℕ) : Type 0 where
  pub of_lines : IsClassedPage premise set syntax repository prefix (lines_of text) page
  pub joined : concat (lines_of text) ≡ text

-- Some lines of the text were accepted, one after another from the start of the syntax, and a
-- generator that stands after them refuses the next one with this refusal.
pub record StopsAt (set : SyntaxSet) (syntax : SyntaxReference) (text : List ℕ)
    (e : Error) : Type 0 where
  pub lines : List (List ℕ)
  pub line : List ℕ
  pub rest : List (List ℕ)
  pub scopes : List (List (List (List ℕ)))
  pub start : Standing
  pub generator : ClassedHTMLGenerator
  pub begins : start_of syntax ≡ Some start
  pub run : AnswersAll dialect set lines start (map Accepted scopes) (state_in generator)
  pub all : lines ++ line ∷ rest ≡ lines_of text
  pub has_set : set_in generator ≡ set
  pub refuses : RefusesLineOf generator line e

-- Why there is no page: the syntax has no `__start`, a line is refused, or memory ran out.
abbrev pub HasNoClassedPage : SyntaxSet → SyntaxReference → List ℕ → Error → Type 0
HasNoClassedPage set syntax text e = LacksStart syntax e ⊎ StopsAt set syntax text e
