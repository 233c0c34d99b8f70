use Rattle.std.proofs.Common.{arith}
use Rattle.std.proofs.lemmas.Result.{err_from_is_err_and}
use Rattle.syntect_easy.specs.syntect_reading_choice.Engine.{dialect}
use Rattle.syntect_parsing.specs.Bound.{TakesNoMore}
use Rattle.syntect_parsing.specs.States.{standing, turns_made}
use Rattle.syntect_easy.specs.Classed.{set_in, state_in, stack_in, turns_in}
use Rattle.syntect_easy.proofs.ClassedLaws.{operation_refused, remembers_on}
use Rattle.syntect_easy.proofs.LeadLaws.{on_err-any}
use Rattle.syntect_easy.proofs.WithinLaws.{limit_there}
use Rattle.syntect_easy.proofs.classed.ClassedHTMLGenerator.parse_html_for_line_which_includes_newline_within.Goals as goal

pub returns-clause-restores : goal.returns-clause-restores
returns-clause-restores c = λ can.
    rw (c.in_ok-text.ensures.stack, c.as_slice.ensures.value, c.in_ok-scope_stack.ensures) (remembers_on (set_in c.args.self.now) c.args.line.now (state_in c.args.self.now) (standing c.in_ok-parse_state.parse_state) (stack_in c.args.self.now)
    c.in_ok-parse_state.ops.items c.in_ok-parse_state.ensures.accepted can)

pub returns-in_err-scope_stack-clause-no_more : goal.returns-in_err-scope_stack-clause-no_more
returns-in_err-scope_stack-clause-no_more c =
    let no_more : TakesNoMore dialect (set_in c.args.self.now) c.args.line.now (state_in c.args.self.now) (turns_in c.args.self.now) (turns_made c.after_line_within.new.self) =
    λ turns t. omega (arith, c.in_ok-parse_state.ensures.taken turns t) in
    on_err-any _ _ no_more

pub returns-in_err-text-clause-refused : goal.returns-in_err-text-clause-refused
returns-in_err-text-clause-refused c =
    let p = err_from_is_err_and c.from_residual-in_err-text.result c.from_residual-in_err-text.ensures.1 in
    rw (p.1, p.2) (operation_refused c.args.self.now c.args.line.now (standing c.in_ok-parse_state.parse_state) c.in_ok-parse_state.ops.items c.in_err-text.field-0.0 c.in_ok-parse_state.ensures.accepted
    (rw (c.as_slice.ensures.value, c.in_ok-scope_stack.ensures) at c.in_err-text.ensures.refused))

pub returns-in_err-text-clause-no_more : goal.returns-in_err-text-clause-no_more
returns-in_err-text-clause-no_more c =
    let no_more : TakesNoMore dialect (set_in c.args.self.now) c.args.line.now (state_in c.args.self.now) (turns_in c.args.self.now) (turns_made c.after_line_within.new.self) =
    λ turns t. omega (arith, c.in_ok-parse_state.ensures.taken turns t) in
    on_err-any _ _ no_more

pub returns-in_err-push_str-clause-no_more : goal.returns-in_err-push_str-clause-no_more
returns-in_err-push_str-clause-no_more c =
    let no_more : TakesNoMore dialect (set_in c.args.self.now) c.args.line.now (state_in c.args.self.now) (turns_in c.args.self.now) (turns_made c.after_line_within.new.self) =
    λ turns t. omega (arith, c.in_ok-parse_state.ensures.taken turns t) in
    on_err-any _ _ no_more

pub returns-in_err-parse_state-clause-there : goal.returns-in_err-parse_state-clause-there
returns-in_err-parse_state-clause-there c =
    let p = err_from_is_err_and c.from_residual.result c.from_residual.ensures.1 in
    rw (p.1, p.2) (limit_there (set_in c.args.self.now) c.args.line.now (state_in c.args.self.now) c.in_err-parse_state.field-0.0 c.in_err-parse_state.ensures.refused)
