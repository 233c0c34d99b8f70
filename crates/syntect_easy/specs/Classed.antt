-- Lines as spans with classes, and pages of them.
use Rattle.std.specs.Prelude.{◌≡◌, ◌≢◌, ℕ, true, List, [], ◌++◌, length, flat_map, replicate, string_bytes}
use Rattle.syntect_easy.specs.syntect_scope.declared.stack.ScopeStack.{ScopeStack}
use Rattle.syntect_easy.specs.syntect_scope.declared.stack.ScopeStackOp.{ScopeStackOp}
use Rattle.syntect_writers.specs.Classes.{prefix_of, closing_tag}
use Rattle.syntect_writers.specs.Marks.{marks, written, stack_after, some_refused}
use Rattle.syntect_writers.specs.declared.class_style.ClassStyle.{ClassStyle}
use Rattle.syntect_easy.specs.syntect_reading_choice.Engine.{dialect}
use Rattle.syntect_parsing.specs.Line.{RefusesLine}
use Rattle.syntect_parsing.specs.Meaning.{Accepts}
use Rattle.syntect_parsing.specs.Stacks.{Remembers}
use Rattle.syntect_parsing.specs.States.{standing, turns_made, steps_made}
use Rattle.syntect_parsing.specs.declared.parser.Standing.{Standing}
use Rattle.syntect_easy.specs.syntect_grammar.declared.syntax_set.SyntaxSet.{SyntaxSet}
use Rattle.syntect_easy.specs.declared.classed.ClassedHTMLGenerator.{ClassedHTMLGenerator}
use Rattle.syntect_easy.specs.syntect_grammar.declared.error.Error.{Error}
use Rattle.syntect_easy.specs.syntect_grammar.declared.error.Error.TheVariants as error

-- one of the operations restores where nothing is remembered, or memory ran out
abbrev pub RefusesOperations : ScopeStack → List (ℕ × ScopeStackOp) → Error → Type 0
RefusesOperations stack ops (error.ScopeError e) = some_refused stack ops ≡ true
RefusesOperations stack ops error.Memory = Unit {0}
RefusesOperations stack ops e = ⊥

-- ---- a generator of pages with classes ----

-- its text so far, the stack of the scopes whose spans are open, and where it stands in the text
-- that it reads
abbrev pub text_so_far : ClassedHTMLGenerator → List ℕ
text_so_far g = string_bytes g.html

-- its stack of scopes, for each of which a span is open
abbrev pub stack_in : ClassedHTMLGenerator → ScopeStack
stack_in g = g.scope_stack

-- where its reader stands: the state from which the next line is read
abbrev pub state_in : ClassedHTMLGenerator → Standing
state_in g = standing g.parse_state

-- how many turns its reader made so far, and how many steps their searches took
abbrev pub turns_in : ClassedHTMLGenerator → ℕ
turns_in g = turns_made g.parse_state

-- how many steps the searches of its reader took so far
abbrev pub steps_in : ClassedHTMLGenerator → ℕ
steps_in g = steps_made g.parse_state

-- the set that it reads with, and how it writes the classes of scopes
abbrev pub set_in : ClassedHTMLGenerator → SyntaxSet
set_in g = g.syntax_set.now

-- the texts of atoms, by their numbers, that it makes classes of
abbrev pub repository_in : ClassedHTMLGenerator → List (List ℕ)
repository_in g = g.repository.now

-- the class style: whether its classes have a prefix, and which one
abbrev pub style_in : ClassedHTMLGenerator → ClassStyle
style_in g = g.style

-- it reads with the same set, and writes classes in the same way
pub record WritesAlike (g h : ClassedHTMLGenerator) : Type 0 where
  pub set : set_in h ≡ set_in g
  pub repository : repository_in h ≡ repository_in g
  pub style : style_in h ≡ style_in g

-- it stands where it stood, with the same text and the same open spans
pub record StaysAt (g h : ClassedHTMLGenerator) : Type 0 where
  pub text : text_so_far h ≡ text_so_far g
  pub stack : stack_in h ≡ stack_in g
  pub state : state_in h ≡ state_in g
  pub goes_on : WritesAlike g h

-- A line was accepted: the text has grown by what the line's operations, which mean its reading,
-- write; the spans of the scopes on the stack after them are open; and it stands after the line.
pub record AddsLine (line : List ℕ) (before after : ClassedHTMLGenerator) : Type 0 where
  pub ops : List (ℕ × ScopeStackOp)
  pub accepted : Accepts dialect (set_in before) line (state_in before) (state_in after) ops
  pub text : text_so_far after
      ≡ text_so_far before ++ written (prefix_of (style_in before)) (repository_in before)
      (marks line 0 (stack_in before) ops)
  pub stack : stack_in after ≡ stack_after (stack_in before) ops
  pub goes_on : WritesAlike before after

-- Its stack remembers at least a list for each open level whose context clears. In a set of loaded
-- definitions it is so before the first line, and stays so.
abbrev pub CanRestore : ClassedHTMLGenerator → Type 0
CanRestore g = Remembers (set_in g) (state_in g).levels (stack_in g)

-- A line was refused: by its reading; or, only where too little is remembered, since one of the
-- operations of its reading restores and nothing is; or memory ran out,
-- but not where no level is open.
abbrev pub RefusesLineOf : ClassedHTMLGenerator → List ℕ → Error → Type 0
RefusesLineOf g line (error.ParsingError e) =
    (turns : ℕ) × RefusesLine dialect (set_in g) line (state_in g) e turns
RefusesLineOf g line (error.ScopeError e) =
    (¬ (CanRestore g)) × (after : Standing) × (ops : List (ℕ × ScopeStackOp))
    × Accepts dialect (set_in g) line (state_in g) after ops
    × (some_refused (stack_in g) ops ≡ true)
RefusesLineOf g line error.Memory = (state_in g).levels ≢ []
RefusesLineOf g line e = ⊥

-- what closes so many spans
abbrev pub closing_tags : ℕ → List ℕ
closing_tags n = flat_map (λ tag. tag) (replicate n closing_tag)

-- its text, after which all open spans are closed
abbrev pub closed_text : ClassedHTMLGenerator → List ℕ
closed_text g = text_so_far g ++ closing_tags (length (stack_in g).scopes)
