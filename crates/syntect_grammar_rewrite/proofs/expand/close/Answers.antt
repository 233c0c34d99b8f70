use Rattle.std.proofs.Common.{refl}
use Rattle.syntect_grammar_rewrite.proofs.TurnLaws.{close-pop, is-same, last-taken}
use Rattle.syntect_grammar_rewrite.proofs.expand.close.Goals as goal

pub returns-clause-kept : goal.returns-clause-kept
returns-clause-kept c =
    close-pop c.args.frames.now.items c.leave.new.frames.items c.in-Some.field-0 c.args.known.now c.settle.new.known c.args.written (last-taken c.args.frames.now.items c.leave.new.frames.items c.in_ok-name.field-0 c.in-Some.field-0 c.in-Some.is c.in_ok-name.ensures.taken) (λ us h all. c.in_ok-settle.ensures refl us (λ e. h (is-same c.in-Some.field-0.start c.args.written e)) all)
