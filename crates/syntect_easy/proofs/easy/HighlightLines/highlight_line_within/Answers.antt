use Rattle.std.proofs.lemmas.Result.{err_from_is_err_and}
use Rattle.syntect_easy.proofs.BuiltLaws.{built_begins_plain}
use Rattle.std.proofs.Common.{Ok, Err, arith, refl}
use Rattle.syntect_easy.specs.syntect_grammar.Passing.{from_scope}
use Rattle.syntect_easy.specs.syntect_reading_choice.Engine.{dialect}
use Rattle.syntect_parsing.specs.Bound.{TakesNoMore}
use Rattle.syntect_parsing.specs.States.{standing, turns_made}
use Rattle.syntect_easy.specs.Within.{from_reading, refusal_of}
use Rattle.syntect_easy.specs.Leads.{reader_of}
use Rattle.syntect_easy.proofs.WithinLaws.{exact_stopped, lead_stopped, limit_there, reading_no_fault, scope_no_fault}
use Rattle.syntect_easy.proofs.LeadLaws.{on_err-any, lead_unshown, lead_accepted, continues}
use Rattle.syntect_easy.proofs.ExactLaws.{exact_accepted, exact_unshown}
use Rattle.syntect_easy.proofs.easy.HighlightLines.highlight_line_within.Goals as goal

pub returns-in_err-parse_state-clause-answered : goal.returns-in_err-parse_state-clause-answered
returns-in_err-parse_state-clause-answered c = λ past h.
    let p = err_from_is_err_and c.from_residual.result c.from_residual.ensures.1 in
    rw (p.1, p.2) (continues past c.args.syntax_set.now c.args.line _ (Err (refusal_of (from_reading c.in_err-parse_state.field-0.0))) h.built (lead_stopped c.args.syntax_set.now past.theme past.syntax past.lines past.answers c.args.line c.args.self.now _ c.in_err-parse_state.field-0.0 c.answers_more.ensures
    (record { reader = c.after_line_within.ensures.stays; styles = refl; theme = refl }) h.leads
    c.in_err-parse_state.ensures.refused))

pub returns-in_err-pieces-clause-answered : goal.returns-in_err-pieces-clause-answered
returns-in_err-pieces-clause-answered c = λ past h.
    let p = err_from_is_err_and c.from_residual-in_err-pieces.result c.from_residual-in_err-pieces.ensures.1 in
    rw (p.1, p.2) (continues past c.args.syntax_set.now c.args.line _ (Err (from_scope c.in_err-pieces.field-0.0)) h.built (lead_unshown c.args.syntax_set.now past.theme past.syntax past.lines past.answers c.args.line c.args.self.now _ (standing c.in_ok-parse_state.parse_state) c.in_ok-parse_state.ops.items c.in_err-pieces.field-0.0 (built_begins_plain c.args.syntax_set.now past.syntax past.definitions h.built) h.leads
    c.in_ok-parse_state.ensures.accepted
    (rw (c.as_slice.ensures.value, c.in_ok-clone_from.ensures.ok) at c.in_err-pieces.ensures.none)))

pub returns-clause-answered : goal.returns-clause-answered
returns-clause-answered c = λ past h.
    continues past c.args.syntax_set.now c.args.line _ (Ok c.in_ok-pieces.pieces) h.built (
    lead_accepted c.args.syntax_set.now past.theme past.syntax past.lines past.answers c.args.line c.args.self.now (record { highlighter = c.args.self.now.highlighter; parse_state = c.in_ok-parse_state.parse_state; highlight_state = c.swap.new.x; spare = c.swap.new.y; memory = tt }) c.in_ok-parse_state.ops.items c.in_ok-pieces.pieces c.answers_more.ensures c.stack_is_open.ensures (built_begins_plain c.args.syntax_set.now past.syntax past.definitions h.built) h.leads
    c.in_ok-parse_state.ensures.accepted
    (rw c.swap.ensures.x_after (record {
      joins = c.in_ok-pieces.ensures.joins;
      styled = rw (c.as_slice.ensures.value, c.in_ok-clone_from.ensures.ok) at c.in_ok-pieces.ensures.styled;
      path = rw (c.as_slice.ensures.value, c.in_ok-clone_from.ensures.ok) at c.in_ok-pieces.ensures.path;
      keeps = rw c.in_ok-clone_from.ensures.ok at c.in_ok-pieces.ensures.keeps;
    })) refl)

pub returns-in_err-parse_state-clause-refused : goal.returns-in_err-parse_state-clause-refused
returns-in_err-parse_state-clause-refused c = λ past h n s.
    let p = err_from_is_err_and c.from_residual.result c.from_residual.ensures.1 in
    rw (p.1, p.2) (exact_stopped (record { refuses = c.refuses_unresolved.ensures; links = c.links_closed.ensures; built = h.built; by_name = n; stays_in = s; leads = h.leads }) c.args.line.now c.in_err-parse_state.field-0.0
    c.in_err-parse_state.ensures.refused)

pub returns-in_err-pieces-clause-refused : goal.returns-in_err-pieces-clause-refused
returns-in_err-pieces-clause-refused c = λ past h n s.
    let p = err_from_is_err_and c.from_residual-in_err-pieces.result c.from_residual-in_err-pieces.ensures.1 in
    rw (p.1, p.2) (exact_unshown (record { refuses = c.refuses_unresolved.ensures; links = c.links_closed.ensures; built = h.built; by_name = n; stays_in = s; leads = h.leads }) c.args.line (standing c.in_ok-parse_state.parse_state) c.in_ok-parse_state.ops.items c.in_err-pieces.field-0.0
    c.in_ok-parse_state.ensures.accepted
    (rw (c.as_slice.ensures.value, c.in_ok-clone_from.ensures.ok) at c.in_err-pieces.ensures.none))

pub returns-clause-refused : goal.returns-clause-refused
returns-clause-refused c = λ past h n s.
    exact_accepted (record { refuses = c.refuses_unresolved.ensures; links = c.links_closed.ensures; built = h.built; by_name = n; stays_in = s; leads = h.leads }) c.args.line.now c.never_both.ensures (standing c.in_ok-parse_state.parse_state) c.in_ok-parse_state.ops.items c.in_ok-pieces.pieces
    c.in_ok-parse_state.ensures.accepted

pub returns-in_err-clone_from-clause-no_more : goal.returns-in_err-clone_from-clause-no_more
returns-in_err-clone_from-clause-no_more c =
    let no_more : TakesNoMore dialect c.args.syntax_set.now c.args.line.now (standing c.args.self.now.parse_state) (turns_made c.args.self.now.parse_state) (turns_made c.after_line_within.new.self) =
    λ turns t. omega (arith, c.in_ok-parse_state.ensures.taken turns t) in
    on_err-any _ _ no_more

pub returns-in_err-pieces-clause-no_more : goal.returns-in_err-pieces-clause-no_more
returns-in_err-pieces-clause-no_more c =
    let no_more : TakesNoMore dialect c.args.syntax_set.now c.args.line.now (standing c.args.self.now.parse_state) (turns_made c.args.self.now.parse_state) (turns_made c.after_line_within.new.self) =
    λ turns t. omega (arith, c.in_ok-parse_state.ensures.taken turns t) in
    on_err-any _ _ no_more

pub returns-in_err-parse_state-clause-there : goal.returns-in_err-parse_state-clause-there
returns-in_err-parse_state-clause-there c =
    let p = err_from_is_err_and c.from_residual.result c.from_residual.ensures.1 in
    rw (p.1, p.2) (limit_there c.args.syntax_set.now c.args.line.now (standing (reader_of c.args.self.now)) c.in_err-parse_state.field-0.0 c.in_err-parse_state.ensures.refused)

pub returns-in_err-parse_state-clause-no_fault : goal.returns-in_err-parse_state-clause-no_fault
returns-in_err-parse_state-clause-no_fault c =
    let p = err_from_is_err_and c.from_residual.result c.from_residual.ensures.1 in
    rw (p.1, p.2) (reading_no_fault c.in_err-parse_state.field-0.0)

pub returns-in_err-pieces-clause-no_fault : goal.returns-in_err-pieces-clause-no_fault
returns-in_err-pieces-clause-no_fault c =
    let p = err_from_is_err_and c.from_residual-in_err-pieces.result c.from_residual-in_err-pieces.ensures.1 in
    rw (p.1, p.2) (scope_no_fault c.in_err-pieces.field-0.0)
