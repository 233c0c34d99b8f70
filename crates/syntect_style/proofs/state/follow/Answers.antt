use Rattle.std.proofs.Common.{◌≤◌, take, sym, ap, ◌∙◌, arith}
use Rattle.syntect_style.specs.Kept.{scopes_of}
use Rattle.syntect_style.proofs.KeptLaws.{front_of_front}
use Rattle.syntect_style.proofs.state.follow.Goals as goal

pub returns-in-Err-clause-err : goal.returns-in-Err-clause-err
returns-in-Err-clause-err c = λ h.
    let l : c.args.known ≤ c.loop-place.place = omega arith in
    sym (front_of_front c.args.known c.loop-place.place (scopes_of c.push.new.self) l) ∙ ap (take c.args.known) (c.in-Err.ensures.err ∙ c.loop-place.invariant.on_stack h) ∙ front_of_front c.args.known c.loop-place.place c.args.stack.now l
