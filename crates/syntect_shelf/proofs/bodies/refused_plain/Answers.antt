use Rattle.syntect_shelf.specs.Gathering.{no_grammar}
use Rattle.syntect_shelf.proofs.bodies.refused_plain.Goals as goal

pub returns-in-Ok : goal.returns-in-Ok
returns-in-Ok c = λ repository f. no_grammar {p = c.args.e} c.in_default.not-Memory f c.in-Ok.ensures.ok
