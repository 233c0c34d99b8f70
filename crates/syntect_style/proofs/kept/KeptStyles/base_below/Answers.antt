use Rattle.std.proofs.Common.{◌-◌, ap, get_or, ◌∙◌}
use Rattle.syntect_style.proofs.KeptLaws.{base_of_none, base_below_place}
use Rattle.syntect_style.proofs.kept.KeptStyles.base_below.Goals as goal

pub returns-then-place-eq0 : goal.returns-then-place-eq0
returns-then-place-eq0 c = λ theme h. rw c.if-place-eq0.true (base_of_none theme)

pub returns : goal.returns
returns c = λ theme h.
    base_below_place theme c.args.self.now c.args.place c.index.result.now c.index.result.now c.if-place-eq0.false c.requires (c.index.ensures ∙ ap (λ ks. get_or ks (c.args.place - 1) c.index.result.now) c.self.view_is) h
