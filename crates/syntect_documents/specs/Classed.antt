-- Texts as HTML with classes, each line in a span of its own.
use Rattle.std.specs.Prelude.{◌≡◌, ℕ, ◌+◌, List, [], ◌∷◌, ◌++◌, length, map, codes, Option, Some, None, string_bytes}
use Rattle.std.specs.List.{flat_map}
use Rattle.syntect_documents.specs.syntect_base.declared.limits.Limits.{Limits}
use Rattle.syntect_documents.specs.syntect_grammar_contexts.declared.syntax_reference.SyntaxReference.{SyntaxReference}
use Rattle.syntect_documents.specs.syntect_grammar.declared.syntax_set.SyntaxSet.{SyntaxSet}
use Rattle.syntect_documents.specs.syntect_parsing.Line.{start_of}
use Rattle.syntect_documents.specs.syntect_parsing.Meaning.{Accepts}
use Rattle.syntect_documents.specs.syntect_parsing.declared.parser.Standing.{Standing}
use Rattle.syntect_documents.specs.syntect_parsing.declared.within.LineLimit.{LineLimit}
use Rattle.syntect_documents.specs.syntect_reading_choice.Engine.{dialect}
use Rattle.syntect_documents.specs.syntect_scope.Stack.{plain}
use Rattle.syntect_documents.specs.syntect_scope.declared.stack.ScopeStack.{ScopeStack}
use Rattle.syntect_documents.specs.syntect_scope.declared.stack.ScopeStackOp.{ScopeStackOp}
use Rattle.syntect_documents.specs.syntect_writers.Classes.{closing_tag, opening_tag, prefix_of}
use Rattle.syntect_documents.specs.syntect_writers.Entities.{escaped}
use Rattle.syntect_documents.specs.syntect_writers.Lines.{lines_of}
use Rattle.syntect_documents.specs.syntect_writers.Marks.{marks, written, stack_after}
use Rattle.syntect_documents.specs.syntect_writers.Spans.{closing}
use Rattle.syntect_documents.specs.syntect_writers.declared.class_style.ClassStyle.{ClassStyle}
use Rattle.syntect_documents.specs.syntect_easy.Classed.{closing_tags}
use Rattle.syntect_documents.specs.syntect_easy.PlainLines.{ReachesFrom}
use Rattle.syntect_documents.specs.syntect_assets.Assets.{language_named}
use Rattle.syntect_documents.specs.syntect_assets.declared.assets.Assets.{Assets}
use Rattle.syntect_documents.specs.syntect_assets.declared.assets.Shown.{Shown}
use Rattle.syntect_documents.specs.Lines.{line_tag}
use Rattle.syntect_documents.specs.declared.lines.LineForm.{LineForm}

-- ---- how lines are read ----

-- a line, the operations that it is written by, and the limit that it reached, if it is plain
pub record ClassedLine : Type 0 where
  pub line : List ℕ
  pub operations : List (ℕ × ScopeStackOp)
  pub limit : Option LineLimit

-- The line was accepted with these operations; or it reaches a limit, has none, and the state stays.
abbrev pub IsReadWithin : Limits → SyntaxSet → List ℕ → List (ℕ × ScopeStackOp) → Standing
    → Standing → Option LineLimit → Type 0
IsReadWithin limits set line operations state after None =
    Accepts dialect set line state after operations
IsReadWithin limits set line operations state after (Some limit) =
    (after ≡ state) × (operations ≡ []) × ReachesFrom limits set line state limit

-- lines one after another, each from the state that the one before it leaves
abbrev pub AreReadWithin : Limits → SyntaxSet → Standing → List ClassedLine → Standing → Type 0
AreReadWithin limits set state [] after = after ≡ state
AreReadWithin limits set state (l ∷ ls) after =
    (next : Standing) × IsReadWithin limits set l.line l.operations state next l.limit
    × AreReadWithin limits set next ls after

-- the limit of a line after so many, by the line's number from one, or else another one's
abbrev pub limit_or : Option LineLimit → ℕ → Option (ℕ × LineLimit) → Option (ℕ × LineLimit)
limit_or None before others = others
limit_or (Some limit) before others = Some (before + 1, limit)

-- the first plain line of those that come after so many, by its number from one, and its limit
abbrev pub first_limit : ℕ → List ClassedLine → Option (ℕ × LineLimit)
first_limit before [] = None
first_limit before (l ∷ ls) = limit_or l.limit before (first_limit (before + 1) ls)

-- ---- how they are written ----

-- A line as the one of a number: the spans of the scopes on the stack are opened before it, and
-- those that are open after its operations are closed. Without operations it is its text, escaped.
abbrev pub classed_line : LineForm → List ℕ → List (List ℕ) → ℕ → ScopeStack → List ℕ
    → List (ℕ × ScopeStackOp) → List ℕ
classed_line form prefix repository number stack line operations =
    line_tag form number ++ (flat_map (opening_tag prefix repository) stack.scopes
    ++ (written prefix repository (marks line 0 stack operations)
    ++ (closing_tags (length (stack_after stack operations).scopes) ++ closing_tag)))

-- lines, the first of which has this number, on the stack that those before leave
abbrev pub classed_lines : LineForm → List ℕ → List (List ℕ) → ℕ → ScopeStack → List ClassedLine
    → List ℕ
classed_lines form prefix repository number stack [] = []
classed_lines form prefix repository number stack (l ∷ ls) =
    classed_line form prefix repository number stack l.line l.operations
    ++ classed_lines form prefix repository (number + 1) (stack_after stack l.operations) ls

-- what stands before the lines: the class `code` with the prefix
abbrev pub classed_opening : List ℕ → List ℕ
classed_opening prefix = codes "<pre class=\"" ++ (escaped prefix ++ codes "code\">")

-- All is the text's lines, each read within the limits or plain, in the frame of code; `first` is the
-- first plain line, by its number from one, and its limit.
pub record IsClassed (limits : Limits) (form : LineForm) (set : SyntaxSet)
    (syntax : SyntaxReference) (repository : List (List ℕ)) (prefix : List ℕ)
    (text all : List ℕ) (first : Option (ℕ × LineLimit)) : Type 0 where
  pub lines : List ClassedLine
  pub start : Standing
  pub after : Standing
  pub begins : start_of syntax ≡ Some start
  pub lines_are : map (λ l. l.line) lines ≡ lines_of text
  pub read : AreReadWithin limits set start lines after
  pub written : all
      ≡ classed_opening prefix
      ++ (classed_lines form prefix repository form.first (plain []) lines ++ closing)
  pub first_is : first ≡ first_limit 0 lines

-- ---- what is shown ----

-- the text shows a text in a syntax, with classes of a style, with its lines in this form
abbrev pub ShowsClassedIn : Assets → List ℕ → SyntaxReference → ClassStyle → LineForm → Shown
    → Type 0
ShowsClassedIn assets text syntax style form shown =
    IsClassed assets.limits form assets.set syntax assets.repository (prefix_of style) text
    (string_bytes shown.text) shown.plain

-- the same in the language of a name
pub record ShowsClassedText (assets : Assets) (text name : List ℕ) (style : ClassStyle)
    (form : LineForm) (shown : Shown) : Type 0 where
  pub syntax : SyntaxReference
  pub named : language_named assets name ≡ Some syntax
  pub shows : ShowsClassedIn assets text syntax style form shown
