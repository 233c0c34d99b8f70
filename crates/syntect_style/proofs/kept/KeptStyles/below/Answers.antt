use Rattle.std.proofs.Common.{◌-◌, ap, get_or, ◌∙◌}
use Rattle.syntect_style.proofs.KeptLaws.{stands_below}
use Rattle.syntect_style.proofs.kept.KeptStyles.below.Goals as goal

pub returns-then-place-eq0 : goal.returns-then-place-eq0
returns-then-place-eq0 c = λ h. rw c.if-place-eq0.true c.bottom.ensures

pub returns : goal.returns
returns c = λ h.
    stands_below c.args.highlighter.now c.args.self.now c.args.place c.index.result.now c.index.result.now c.if-place-eq0.false c.requires (c.index.ensures ∙ ap (λ ks. get_or ks (c.args.place - 1) c.index.result.now) c.self.view_is) h
