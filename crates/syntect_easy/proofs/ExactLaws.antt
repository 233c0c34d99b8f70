-- Where a line is refused.
use Rattle.std.proofs.Common.{◌≡◌, ℕ, false, List, Option, Some, None, Ok, Err, Bor, refl, sym, is_none, subst}
use Rattle.std.specs.Prelude.{IfSome, true}
use Rattle.std.specs.Global.{Vec}
use Rattle.std.specs.List.{list_all}
use Rattle.std.specs.Option.{option_map}
use Rattle.syntect_easy.specs.syntect_scope.Replay.{AllApply}
use Rattle.syntect_easy.specs.syntect_scope.declared.stack.ScopeStackOp.{ScopeStackOp}
use Rattle.syntect_easy.specs.syntect_scope.declared.stack.ScopeError.{ScopeError}
use Rattle.syntect_easy.specs.syntect_scope.declared.stack.ScopeError.TheVariants as scope
use Rattle.syntect_style.specs.Pieces.{path_of}
use Rattle.syntect_easy.specs.syntect_theme.declared.style.Style.{Style}
use Rattle.syntect_easy.specs.syntect_theme.declared.theme.Theme.{Theme}
use Rattle.syntect_easy.specs.syntect_grammar.Contexts.{context_at}
use Rattle.syntect_easy.specs.syntect_reading_choice.Engine.{dialect}
use Rattle.syntect_parsing.specs.Laws.{NeverBoth}
use Rattle.syntect_parsing.specs.Line.{Answer, AnswersAll, RefusesLine, start, start_id}
use Rattle.syntect_parsing.specs.Meaning.{Accepts, RefusesLineOrMemory}
use Rattle.syntect_parsing.specs.Refusals.{AreByName, IsClosed, IsNeverLeft, LinksClosed, NamesUnresolved, PicksUnresolved, RefusesUnresolved, lone_patterns, stays}
use Rattle.syntect_easy.specs.syntect_grammar_contexts.declared.context.ContextId.{ContextId}
use Rattle.syntect_easy.specs.syntect_grammar_contexts.declared.context.ContextReference.{ContextReference}
use Rattle.syntect_easy.specs.syntect_grammar_loader.declared.definition.SyntaxDefinition.{SyntaxDefinition}
use Rattle.syntect_easy.specs.syntect_grammar_contexts.declared.syntax_reference.SyntaxReference.{SyntaxReference}
use Rattle.syntect_easy.specs.syntect_grammar.declared.syntax_set.SyntaxSet.{SyntaxSet}
use Rattle.syntect_parsing.specs.declared.parser.Standing.{Standing}
use Rattle.syntect_parsing.specs.States.{standing}
use Rattle.syntect_easy.specs.syntect_grammar_contexts.declared.error.ParsingError.{ParsingError}
use Rattle.syntect_easy.specs.syntect_grammar_contexts.declared.error.ParsingError.TheVariants as parsing
use Rattle.syntect_easy.specs.Built.{IsSyntaxOfBuilt, StaysInStart}
use Rattle.syntect_easy.specs.syntect_grammar.Passing.{from_parsing, from_scope}
use Rattle.syntect_easy.specs.Leads.{reader_of, styles_of, Leads, RefusedForUnresolved}
use Rattle.syntect_easy.specs.declared.easy.HighlightLines.{HighlightLines}
use Rattle.syntect_easy.proofs.BuiltLaws.{built_there, built_begins_plain}
use Rattle.syntect_easy.proofs.LeadLaws.{lead_unshown}

-- what is taken from the laws of reading and linking, and the premises on the set
pub record Premises (set : SyntaxSet) (theme : Theme) (syntax : SyntaxReference) (definitions : List SyntaxDefinition) (lines : List (List ℕ)) (answers : List Answer) (h : HighlightLines) : Type 0 where
  pub refuses : RefusesUnresolved
  pub links : LinksClosed
  pub built : IsSyntaxOfBuilt set syntax definitions
  pub by_name : AreByName definitions
  pub stays_in : StaysInStart set syntax
  pub leads : Leads set theme syntax lines answers h

record BeginsIn (set : SyntaxSet) (state : Standing) : Type 0 where
  pub id : ContextId
  pub is : start id ≡ state
  pub never : IsNeverLeft set id

begins_in : (set : SyntaxSet) (o : Option ContextId) (state : Standing) → ((id : ContextId) → o ≡ Some id → is_none (context_at set id) ≡ false)
    → IfSome o (λ id. list_all (λ m. stays m.operation) (lone_patterns set id) ≡ true) → option_map start o ≡ Some state → BeginsIn set state
begins_in set None state h s e = cc
begins_in set (Some id) state h s e = record { id = id; is = cc; never = record { there = h id refl; stay = s } }

exactly : {set : SyntaxSet} {theme : Theme} {syntax : SyntaxReference} {definitions : List SyntaxDefinition} {lines : List (List ℕ)} {answers : List Answer} {h : HighlightLines} → Premises set theme syntax definitions lines answers h → (line : List ℕ)
    → ((e : ParsingError) (turns : ℕ) → RefusesLine dialect set line (standing (reader_of h)) e turns → NamesUnresolved dialect set line (standing (reader_of h)) e)
    × ((r : ContextReference) → PicksUnresolved dialect set line (standing (reader_of h)) r → (turns : ℕ) × RefusesLine dialect set line (standing (reader_of h)) (parsing.UnresolvedContextReference r) turns)
exactly {set} {theme} {syntax} {definitions} {lines} {answers} {h} p line =
    let closed : IsClosed set = p.links set definitions p.built.links p.by_name in
    let b : BeginsIn set p.leads.start = begins_in set (start_id syntax) p.leads.start (built_there set syntax definitions p.built) p.stays_in p.leads.begins in
    p.refuses dialect set b.id lines answers (standing (reader_of h)) line closed b.never (subst (λ (s : Standing). AnswersAll dialect set lines s answers (standing (reader_of h))) (sym b.is) p.leads.run)

pub exact_refused : {set : SyntaxSet} {theme : Theme} {syntax : SyntaxReference} {definitions : List SyntaxDefinition} {lines : List (List ℕ)} {answers : List Answer} {h : HighlightLines} → Premises set theme syntax definitions lines answers h → (line : List ℕ)
    → (e : ParsingError) → RefusesLineOrMemory dialect set line (standing (reader_of h)) e → RefusedForUnresolved set line h (Err (from_parsing e))
exact_refused p line parsing.Memory m = tt
exact_refused p line parsing.MissingMainContext m = (exactly p line).0 parsing.MissingMainContext m.0 m.1
exact_refused p line (parsing.MissingContext id) m = (exactly p line).0 (parsing.MissingContext id) m.0 m.1
exact_refused p line (parsing.BadMatchIndex i) m = (exactly p line).0 (parsing.BadMatchIndex i) m.0 m.1
exact_refused p line (parsing.UnresolvedContextReference r) m = (exactly p line).0 (parsing.UnresolvedContextReference r) m.0 m.1

pub exact_accepted : {set : SyntaxSet} {theme : Theme} {syntax : SyntaxReference} {definitions : List SyntaxDefinition} {lines : List (List ℕ)} {answers : List Answer} {h : HighlightLines} → Premises set theme syntax definitions lines answers h → (line : List ℕ) → NeverBoth
    → (new : Standing) (ops : List (ℕ × ScopeStackOp)) (pieces : Vec (Style × Bor (List ℕ))) → Accepts dialect set line (standing (reader_of h)) new ops → RefusedForUnresolved set line h (Ok pieces)
exact_accepted {set} {h = h} p line never new ops pieces a = λ r k.
    let x : (turns : ℕ) × RefusesLine dialect set line (standing (reader_of h)) (parsing.UnresolvedContextReference r) turns = (exactly p line).1 r k in
    never dialect set line (standing (reader_of h)) a.bytes new (parsing.UnresolvedContextReference r) a.turns x.0 a.reads x.1

pub exact_unshown : {set : SyntaxSet} {theme : Theme} {syntax : SyntaxReference} {definitions : List SyntaxDefinition} {lines : List (List ℕ)} {answers : List Answer} {h : HighlightLines} → Premises set theme syntax definitions lines answers h → (line : Bor (List ℕ))
    → (new : Standing) (ops : List (ℕ × ScopeStackOp)) (e : ScopeError) → Accepts dialect set line.now (standing (reader_of h)) new ops
    → (e ≡ scope.NoClearedScopesToRestore → ¬ AllApply (path_of (styles_of h)) ops) → RefusedForUnresolved set line.now h (Err (from_scope e))
exact_unshown p line new ops scope.Memory a n = tt
exact_unshown {set} {theme} {syntax} {definitions} {lines} {answers} {h} p line new ops scope.NoClearedScopesToRestore a n =
    lead_unshown set theme syntax lines answers line h h new ops scope.NoClearedScopesToRestore (built_begins_plain set syntax definitions p.built) p.leads a n
