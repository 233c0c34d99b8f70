use Rattle.std.proofs.Common.{◌∙◌}
use Rattle.syntect_style.proofs.KeptLaws.{scope_at}
use Rattle.syntect_style.proofs.StackLaws.{same_scope}
use Rattle.syntect_style.proofs.kept.KeptStyles.is_at.Goals as goal

pub returns-in-Some : goal.returns-in-Some
returns-in-Some c = λ t.
    let w = c.in-Some.ensures.lookup in
    scope_at c.deref.result.now c.args.self.now c.args.place c.in-Some.known.now c.in-Some.known.now c.args.scope (c.deref.ensures.value ∙ c.self.view_is) w.3.0 w.1
    (same_scope c.in-Some.known.now.scope c.args.scope c.eq.result c.eq.ensures t)
