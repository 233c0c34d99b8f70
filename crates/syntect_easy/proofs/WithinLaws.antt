-- Lines that are highlighted within limits.
use Rattle.std.proofs.Common.{ℕ, List, Err, Bor}
use Rattle.syntect_easy.specs.syntect_base.declared.limits.Limits.{Limits}
use Rattle.syntect_easy.specs.syntect_theme.declared.theme.Theme.{Theme}
use Rattle.syntect_easy.specs.syntect_reading_choice.Engine.{dialect}
use Rattle.syntect_parsing.specs.Laws.{AnswersMore}
use Rattle.syntect_parsing.specs.Line.{Answer}
use Rattle.syntect_parsing.specs.States.{standing}
use Rattle.syntect_parsing.specs.Within.{RefusesWithinOrMemory, ReachesLimit as ReachesLineLimit}
use Rattle.syntect_easy.specs.syntect_grammar_contexts.declared.error.ParsingError.{ParsingError}
use Rattle.syntect_easy.specs.syntect_grammar_contexts.declared.error.ParsingError.TheVariants as parsing
use Rattle.syntect_easy.specs.syntect_scope.declared.stack.ScopeError.{ScopeError}
use Rattle.syntect_easy.specs.syntect_scope.declared.stack.ScopeError.TheVariants as scope
use Rattle.syntect_easy.specs.syntect_grammar.Passing.{from_parsing, from_scope}
use Rattle.syntect_parsing.specs.declared.within.ReadWithinError.{ReadWithinError}
use Rattle.syntect_parsing.specs.declared.within.ReadWithinError.TheVariants as reading
use Rattle.syntect_easy.specs.syntect_grammar_contexts.declared.syntax_reference.SyntaxReference.{SyntaxReference}
use Rattle.syntect_easy.specs.syntect_grammar.declared.syntax_set.SyntaxSet.{SyntaxSet}
use Rattle.syntect_easy.specs.syntect_grammar_loader.declared.definition.SyntaxDefinition.{SyntaxDefinition}
use Rattle.syntect_easy.specs.Classed.{RefusesLineOf, set_in, state_in}
use Rattle.syntect_easy.specs.Leads.{HoldsSame, Leads, RefusedForUnresolved, reader_of}
use Rattle.syntect_parsing.specs.declared.parser.Standing.{Standing}
use Rattle.syntect_easy.specs.Within.{IsNoReadFault, ReachesLimit, RefusesNoReadFault, TellsWhere, from_reading, refusal_of}
use Rattle.syntect_easy.proofs.ClassedLaws.{line_refused}
use Rattle.syntect_easy.proofs.ExactLaws.{Premises, exact_refused}
use Rattle.syntect_easy.proofs.LeadLaws.{LeadsOn, lead_refused}
use Rattle.syntect_easy.specs.declared.classed.ClassedHTMLGenerator.{ClassedHTMLGenerator}
use Rattle.syntect_easy.specs.declared.easy.HighlightLines.{HighlightLines}

-- a line that is not read leads on as one that is refused, and as one without memory where it
-- reached a limit
pub lead_stopped : (set : SyntaxSet) (theme : Theme) (syntax : SyntaxReference) (lines : List (List ℕ)) (answers : List Answer) (line : Bor (List ℕ)) (h next : HighlightLines) (w : ReadWithinError) → AnswersMore → HoldsSame h next
    → Leads set theme syntax lines answers h → RefusesWithinOrMemory dialect set line.now (standing (reader_of h)) w → LeadsOn set theme syntax lines answers line next (Err (refusal_of (from_reading w)))
lead_stopped set theme syntax lines answers line h next (reading.Refused e) more s l r = lead_refused set theme syntax lines answers line h next e more s l r
lead_stopped set theme syntax lines answers line h next (reading.LimitReached x) more s l r = tt

pub exact_stopped : {set : SyntaxSet} {theme : Theme} {syntax : SyntaxReference} {definitions : List SyntaxDefinition} {lines : List (List ℕ)} {answers : List Answer} {h : HighlightLines} → Premises set theme syntax definitions lines answers h → (line : List ℕ)
    → (w : ReadWithinError) → RefusesWithinOrMemory dialect set line (standing (reader_of h)) w → RefusedForUnresolved set line h (Err (refusal_of (from_reading w)))
exact_stopped p line (reading.Refused e) m = exact_refused p line e m
exact_stopped p line (reading.LimitReached x) m = tt

-- the same of a line of a page with classes
pub line_stopped : (g : ClassedHTMLGenerator) (line : List ℕ) (w : ReadWithinError) → RefusesWithinOrMemory dialect (set_in g) line (state_in g) w → RefusesLineOf g line (refusal_of (from_reading w))
line_stopped g line (reading.Refused e) r = line_refused g line e r
line_stopped g line (reading.LimitReached x) r = r.0

-- the limit that was reached is passed on
pub limit_passed : (limits : Limits) (turns steps : ℕ) (w : ReadWithinError) → ReachesLineLimit limits turns steps w → ReachesLimit limits turns steps (from_reading w)
limit_passed limits turns steps (reading.Refused e) h = tt
limit_passed limits turns steps (reading.LimitReached x) h = h

-- and so is its place
pub limit_there : (set : SyntaxSet) (line : List ℕ) (state : Standing) (w : ReadWithinError) → RefusesWithinOrMemory dialect set line state w → TellsWhere set line state (from_reading w)
limit_there set line state (reading.Refused e) r = tt
limit_there set line state (reading.LimitReached x) r = r.1

-- ---- refusals are no faults of reading ----

pub parsing_no_fault : (e : ParsingError) → IsNoReadFault (from_parsing e)
parsing_no_fault parsing.Memory = tt
parsing_no_fault parsing.MissingMainContext = tt
parsing_no_fault (parsing.MissingContext id) = tt
parsing_no_fault (parsing.BadMatchIndex i) = tt
parsing_no_fault (parsing.UnresolvedContextReference r) = tt

pub reading_no_fault : (e : ReadWithinError) → RefusesNoReadFault (from_reading e)
reading_no_fault (reading.Refused e) = parsing_no_fault e
reading_no_fault (reading.LimitReached l) = tt

pub scope_no_fault : (e : ScopeError) → IsNoReadFault (from_scope e)
scope_no_fault scope.Memory = tt
scope_no_fault scope.NoClearedScopesToRestore = tt
