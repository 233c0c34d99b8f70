-- What a highlighter of lines holds after a list of lines, and what it answers to the next one.
use Rattle.std.specs.Prelude.{◌≡◌, ◌≢◌, ℕ, List, [], ◌∷◌, ◌++◌, Option, Some, None, Result, Ok, Err}
use Rattle.std.specs.Borrow.{Bor}
use Rattle.std.specs.Global.{Vec}
use Rattle.syntect_style.specs.Pieces.{Joins, IsStyled, KeepsTrueStyles, path_of}
use Rattle.syntect_easy.specs.syntect_theme.declared.style.Style.{Style}
use Rattle.syntect_easy.specs.syntect_theme.declared.theme.Theme.{Theme}
use Rattle.syntect_easy.specs.syntect_reading_choice.Engine.{dialect}
use Rattle.syntect_parsing.specs.Line.{Answer, Accepted, RefusedBy, AnswersAll, start_of, stack_before, HasPlainStart}
use Rattle.syntect_parsing.specs.Orderly.{IsOrderlyRun}
use Rattle.syntect_parsing.specs.Stacks.{Remembers}
use Rattle.syntect_parsing.specs.Refusals.{NamesUnresolved, PicksUnresolved}
use Rattle.syntect_parsing.specs.declared.parser.Standing.{Standing}
use Rattle.syntect_parsing.specs.States.{standing}
use Rattle.syntect_parsing.specs.declared.parser.ParseState.{ParseState}
use Rattle.syntect_style.specs.declared.state.HighlightState.{HighlightState}
use Rattle.syntect_easy.specs.syntect_grammar_loader.declared.definition.SyntaxDefinition.{SyntaxDefinition}
use Rattle.syntect_easy.specs.Built.{IsSyntaxOfBuilt}
use Rattle.syntect_easy.specs.syntect_grammar_contexts.declared.error.ParsingError.{ParsingError}
use Rattle.syntect_easy.specs.syntect_grammar_contexts.declared.context.ContextReference.{ContextReference}
use Rattle.syntect_easy.specs.syntect_grammar_contexts.declared.error.ParsingError.TheVariants as parsing
use Rattle.syntect_easy.specs.syntect_grammar_contexts.declared.syntax_reference.SyntaxReference.{SyntaxReference}
use Rattle.syntect_easy.specs.syntect_grammar.declared.syntax_set.SyntaxSet.{SyntaxSet}
use Rattle.syntect_easy.specs.declared.easy.HighlightLines.{HighlightLines}
use Rattle.syntect_easy.specs.syntect_grammar.declared.error.Error.{Error}
use Rattle.syntect_easy.specs.syntect_grammar.declared.error.Error.TheVariants as error

-- ---- what a highlighter holds ----

-- its theme, its styles and its reader of lines
abbrev pub theme_of : HighlightLines → Theme
theme_of h = h.highlighter

-- its styles: the stack of scopes after the lines so far, and what is known of their styles
abbrev pub styles_of : HighlightLines → HighlightState
styles_of h = h.highlight_state

-- its reader: the parse state from which the next line is read
abbrev pub reader_of : HighlightLines → ParseState
reader_of h = h.parse_state

-- the readers of two highlighters stand alike, whatever they count, with the same styles and theme
pub record HoldsSame (h k : HighlightLines) : Type 0 where
  pub reader : standing (reader_of k) ≡ standing (reader_of h)
  pub styles : styles_of k ≡ styles_of h
  pub theme : theme_of k ≡ theme_of h

-- ---- refusals ----

-- the refusal is a parsing error for which this holds, or memory ran out
abbrev pub OnlyParsing : (ParsingError → Type 0) → Error → Type 0
OnlyParsing P (error.ParsingError e) = P e
OnlyParsing P error.Memory = Unit {0}
OnlyParsing P e = ⊥

-- this holds, unless the error is that memory ran out
abbrev pub UnlessWanting : Type 0 → Error → Type 0
UnlessWanting P error.Memory = Unit {0}
UnlessWanting P e = P

-- this holds, whether the result is an answer or an error, unless memory ran out
abbrev pub UnlessMemory : {X : Type 0} → Result X Error → Type 0 → Type 0
UnlessMemory (Ok x) P = P
UnlessMemory (Err e) P = UnlessWanting P e

-- the same of an answer that may tell a limit, where it tells none
abbrev pub UnlessLimited : {X L : Type 0} → Result (X × Option L) Error → Type 0 → Type 0
UnlessLimited (Ok (x, None)) P = P
UnlessLimited (Ok (x, Some limit)) P = Unit {0}
UnlessLimited (Err e) P = UnlessWanting P e

-- the syntax has no `__start`; or it has one, and memory ran out
abbrev pub LacksStart : SyntaxReference → Error → Type 0
LacksStart syntax (error.ParsingError parsing.MissingMainContext) = start_of syntax ≡ None
LacksStart syntax error.Memory = start_of syntax ≢ None
LacksStart syntax e = ⊥

-- The syntax's `__start` clears nothing, and has no `meta_scope` and at most one content scope in
-- the set, as loaded grammars have it.
abbrev pub BeginsPlain : SyntaxSet → SyntaxReference → Type 0
BeginsPlain set syntax = (start : Standing) → start_of syntax ≡ Some start → HasPlainStart set start

-- ---- lines one after another ----

-- Orderly lines: none of them that is accepted, read one after another from the start of the syntax,
-- picks a `set` that leaves a context that clears, nor a push or a set that has such a context after
-- its first. Then what is cleared is put back in order. In a set that clears nothing all lines are
-- so: a law.
abbrev pub RunsOrderly : SyntaxSet → SyntaxReference → List (List ℕ) → Type 0
RunsOrderly set syntax lines =
    (start : Standing) → start_of syntax ≡ Some start → IsOrderlyRun dialect set lines start

-- These are the answers to these lines, read one after another from the start of the syntax, and h
-- is what a highlighter of this theme then holds. Its styles stand on a stack that remembers a list
-- at least for each level that clears; where the lines are orderly,
-- that stack is the one of the levels.
pub record Leads (set : SyntaxSet) (theme : Theme) (syntax : SyntaxReference)
    (lines : List (List ℕ)) (answers : List Answer) (h : HighlightLines) : Type 0 where
  pub start : Standing
  pub begins : start_of syntax ≡ Some start
  pub run : AnswersAll dialect set lines start answers (standing (reader_of h))
  pub path : RunsOrderly set syntax lines
      → path_of (styles_of h) ≡ stack_before set (standing (reader_of h))
  pub remembers : BeginsPlain set syntax
      → Remembers set (standing (reader_of h)).levels (path_of (styles_of h))
  pub theme_is : theme_of h ≡ theme
  pub keeps : KeepsTrueStyles theme (styles_of h)

-- ---- the past of a highlighter ----

-- what a highlighter may come from: definitions, a theme, a syntax, and lines that it was given,
-- with their answers. It is not kept anywhere: several may fit what a highlighter holds, and none
-- where lines were read with another set.
pub record Past : Type 0 where
  pub definitions : List SyntaxDefinition
  pub theme : Theme
  pub syntax : SyntaxReference
  pub lines : List (List ℕ)
  pub answers : List Answer

-- The set was built of the past's definitions, and its syntax is one of the set. Its lines, read
-- one after another from the start of that syntax, have its answers, and h is what a highlighter of
-- its theme then holds.
pub record IsPast (past : Past) (set : SyntaxSet) (h : HighlightLines) : Type 0 where
  pub built : IsSyntaxOfBuilt set past.syntax past.definitions
  pub leads : Leads set past.theme past.syntax past.lines past.answers h

-- the past with one line and its answer more
abbrev pub and_then : Past → List ℕ → Answer → Past
and_then past line answer =
    record past { lines = past.lines ++ line ∷ []; answers = past.answers ++ answer ∷ [] }

-- The line is answered after this past, and h is what is held then: an accepted line gives pieces
-- that are not empty and join to it, and where the lines so far and this one are orderly, each byte
-- has the theme's style for its scopes; a refused one has the refusal of its reading, unless memory
-- ran out.
abbrev pub Continues : Past → SyntaxSet → Bor (List ℕ) → HighlightLines
    → Result (Vec (Style × Bor (List ℕ))) Error → Type 0
Continues past set line h (Ok pieces) =
    (bytes : List (List (List ℕ))) × IsPast (and_then past line.now (Accepted bytes)) set h
    × Joins line.now pieces.items
    × (RunsOrderly set past.syntax (past.lines ++ line.now ∷ [])
    → IsStyled past.theme bytes pieces.items)
Continues past set line h (Err e) =
    OnlyParsing (λ e. IsPast (and_then past line.now (RefusedBy e)) set h) e

-- The line is refused exactly where a turn of its reading picks a match that names a reference
-- without target, and with that reference, unless memory ran out.
-- h is what is held before the line.
abbrev pub RefusedForUnresolved : SyntaxSet → List ℕ → HighlightLines
    → Result (Vec (Style × Bor (List ℕ))) Error → Type 0
RefusedForUnresolved set line h (Ok pieces) =
    (r : ContextReference) → PicksUnresolved dialect set line (standing (reader_of h)) r → ⊥
RefusedForUnresolved set line h (Err e) =
    OnlyParsing (NamesUnresolved dialect set line (standing (reader_of h))) e
