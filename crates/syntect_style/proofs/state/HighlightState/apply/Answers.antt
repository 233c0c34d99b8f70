use Rattle.std.proofs.Common.{refl, ap, ◌∙◌, min}
use Rattle.syntect_style.proofs.PathLaws.{keeps_applied}
use Rattle.syntect_style.proofs.state.HighlightState.apply.Goals as goal

pub returns-clause-keeps : goal.returns-clause-keeps
returns-clause-keeps c = λ h. keeps_applied c.args.highlighter.now c.args.self.now _ c.args.op.now c.in_ok-apply.ensures.ok refl (c.min-self.ensures ∙ ap (λ n. min c.args.self.now.fits n) c.len.ensures) h
