-- What joins the crates, each a law.
use Rattle.std.specs.Prelude.{◌≡◌, List, [], ℕ, Bool, true, Option, Some, Ok, All}
use Rattle.std.specs.List.{list_all}
use Rattle.syntect_easy.specs.syntect_grammar.Link.{linked, syntaxes_in}
use Rattle.syntect_easy.specs.syntect_grammar_loader.Loading.{loaded}
use Rattle.syntect_easy.specs.syntect_grammar_loader.declared.definition.SyntaxDefinition.{SyntaxDefinition}
use Rattle.syntect_easy.specs.syntect_grammar_contexts.declared.syntax_reference.SyntaxReference.{SyntaxReference}
use Rattle.syntect_easy.specs.syntect_grammar.declared.syntax_set.SyntaxSet.{SyntaxSet}
use Rattle.syntect_parsing.specs.declared.parser.Standing.{Standing}
use Rattle.syntect_easy.specs.syntect_scope.Replay.{AllApply}
use Rattle.syntect_easy.specs.syntect_scope.Stack.{plain}
use Rattle.syntect_easy.specs.syntect_scope.declared.stack.ScopeStack.{ScopeStack}
use Rattle.syntect_easy.specs.syntect_scope.declared.stack.ScopeStackOp.{ScopeStackOp}
use Rattle.syntect_writers.specs.Marks.{stack_after}
use Rattle.syntect_easy.specs.syntect_reading_choice.Engine.{dialect}
use Rattle.syntect_parsing.specs.Meaning.{Accepts}
use Rattle.syntect_parsing.specs.Line.{Answer, AnswersAll, start_of}
use Rattle.syntect_parsing.specs.Open.{ClearsNothing}
use Rattle.syntect_parsing.specs.Standing.{GiveScopes}
use Rattle.syntect_easy.specs.declared.easy.HighlightLines.{HighlightLines}
use Rattle.syntect_easy.specs.Built.{IsPlain, IsLoaded, IsSyntaxOfBuilt, StaysInStart, clears_nothing}
use Rattle.syntect_easy.specs.Leads.{Past, IsPast, HoldsSame, BeginsPlain, RunsOrderly, theme_of, styles_of, reader_of}

-- a definition that loading answers is plain
abbrev pub LoadedIsPlain : Type 0
LoadedIsPlain =
    (text : List ℕ) (lines_include_newline : Bool) (fallback : Option (List ℕ))
    (repository : List (List ℕ))
    (definition : SyntaxDefinition) (left : List (List ℕ))
    → loaded text lines_include_newline fallback repository ≡ Ok (definition, left)
    → IsPlain definition

-- in a set of loaded definitions no text leaves the `__start` of its syntax
abbrev pub LoadedStay : Type 0
LoadedStay = (set : SyntaxSet) (syntax : SyntaxReference) (definitions : List SyntaxDefinition)
    → IsSyntaxOfBuilt set syntax definitions → All IsLoaded definitions → StaysInStart set syntax

-- a set of definitions that have no `clear_scopes` clears nothing
abbrev pub NothingIsCleared : Type 0
NothingIsCleared = (set : SyntaxSet) (definitions : List SyntaxDefinition)
    → syntaxes_in set ≡ linked definitions → list_all clears_nothing definitions ≡ true
    → ClearsNothing set

-- where nothing clears, all lines are orderly
abbrev pub AllRunOrderly : Type 0
AllRunOrderly = (set : SyntaxSet) (syntax : SyntaxReference) (lines : List (List ℕ))
    → ClearsNothing set → RunsOrderly set syntax lines

-- the past of a highlighter is that of each that stands where it stands
abbrev pub PastsStay : Type 0
PastsStay = (past : Past) (set : SyntaxSet) (old new : HighlightLines)
    → HoldsSame old new → IsPast past set old → IsPast past set new

-- a highlighter that holds the states of another one, under its theme, stands where that one stands
abbrev pub StatesGoOn : Type 0
StatesGoOn = (h new : HighlightLines) → styles_of new ≡ styles_of h → reader_of new ≡ reader_of h
    → theme_of new ≡ theme_of h → HoldsSame h new

-- the syntaxes of a set that was built of plain definitions begin plain
abbrev pub BuiltBeginPlain : Type 0
BuiltBeginPlain = (set : SyntaxSet) (syntax : SyntaxReference) (definitions : List SyntaxDefinition)
    → IsSyntaxOfBuilt set syntax definitions → BeginsPlain set syntax

-- ---- operations on a stack of one's own ----

-- Lines are accepted one after another, each from the state that the one before it leaves, and
-- their operations are applied to a stack, in order.
pub data LeadsStack (set : SyntaxSet) : Standing → ScopeStack → Standing → ScopeStack → Type 0 where
  no_lines : {state : Standing} {stack : ScopeStack} → LeadsStack set state stack state stack
  one_more : {state next after : Standing} {stack end : ScopeStack} {line : List ℕ}
      {ops : List (ℕ × ScopeStackOp)} → Accepts dialect set line state next ops
      → LeadsStack set next (stack_after stack ops) after end
      → LeadsStack set state stack after end

-- Where the syntax begins plain, the operations of its accepted lines, applied in order to a new
-- stack, are never refused.
abbrev pub OperationsApply : Type 0
OperationsApply =
    (set : SyntaxSet) (syntax : SyntaxReference) (start state next : Standing)
    (stack : ScopeStack) (line : List ℕ) (ops : List (ℕ × ScopeStackOp))
    → BeginsPlain set syntax → start_of syntax ≡ Some start
    → LeadsStack set start (plain []) state stack → Accepts dialect set line state next ops
    → AllApply stack ops

-- in a set of loaded definitions that clears nothing, each byte of an accepted line has a scope
abbrev pub LoadedGiveScopes : Type 0
LoadedGiveScopes =
    (set : SyntaxSet) (syntax : SyntaxReference) (definitions : List SyntaxDefinition)
    (start after : Standing) (lines : List (List ℕ)) (answers : List Answer)
    → IsSyntaxOfBuilt set syntax definitions → All IsLoaded definitions → ClearsNothing set
    → start_of syntax ≡ Some start
    → AnswersAll dialect set lines start answers after → GiveScopes answers
