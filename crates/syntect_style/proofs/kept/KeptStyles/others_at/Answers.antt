use Rattle.std.proofs.Common.{◌∙◌}
use Rattle.syntect_style.proofs.KeptLaws.{others_below}
use Rattle.syntect_style.proofs.kept.KeptStyles.others_at.Goals as goal

pub returns : goal.returns
returns c =
    let w = c.in_ok-get.ensures.lookup in
    others_below c.args.self.now c.args.count c.deref.result.now c.in_ok-get.field-0.now c.if-count-eq0.false (c.deref.ensures.value ∙ c.self.view_is) w.0 w.1
