use Rattle.std.proofs.Common.{ap, ◌∙◌}
use Rattle.syntect_buffer.specs.declared.states.LineStates.{LineStates}
use Rattle.std.proofs.lemmas.Result.{err_from_is_err_and}
use Rattle.syntect_buffer.proofs.StartLaws.{kept_none, start_there}
use Rattle.syntect_buffer.proofs.buffer.LineBuffer.new_within.Goals as goal

pub invariant_of-result : goal.invariant_of-result
invariant_of-result c =
    kept_none c.args.syntax_set.now c.args.theme.now c.args.syntax.now c.in-Ok.lines _ c.in-Ok.ensures.leads
    (ap (λ (s : LineStates). s.styles) c.in_ok-new.ensures ∙ c.state-styles.ensures.highlight) (ap (λ (s : LineStates). s.reader) c.in_ok-new.ensures ∙ c.state-styles.ensures.parse) (cc) (cc)

pub returns-in_err-new-clause-refused : goal.returns-in_err-new-clause-refused
returns-in_err-new-clause-refused c =
    let p = err_from_is_err_and c.from_residual.result c.from_residual.ensures.1 in
    rw (p.1, p.2) (start_there c.args.syntax_set.now c.args.theme.now c.args.syntax.now c.in-Ok.lines (c.in-Ok.ensures.leads c.args.syntax_set.now))
