use Rattle.std.proofs.Common.{take}
use Rattle.syntect_style.specs.Kept.{scopes_of}
use Rattle.syntect_style.proofs.KeptLaws.{base_of_all, base_of_before, front_length}
use Rattle.syntect_style.proofs.kept.KeptStyles.base_with.Goals as goal

pub returns-then-touches : goal.returns-then-touches
returns-then-touches c = λ h. base_of_all c.args.highlighter.now (take c.args.place (scopes_of c.args.self.now)) c.args.scope c.args.place (front_length c.args.self.now c.args.place c.requires.within)

pub returns-else-touches : goal.returns-else-touches
returns-else-touches c = λ h.
    base_of_before c.args.highlighter.now (take c.args.place (scopes_of c.args.self.now)) c.args.scope c.base_below.result (c.touches.ensures c.if-touches.false (take c.args.place (scopes_of c.args.self.now))) (c.base_below.ensures c.args.highlighter.now h)
