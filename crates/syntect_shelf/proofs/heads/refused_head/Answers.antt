use Rattle.syntect_shelf.specs.Heads.{no_head}
use Rattle.syntect_shelf.proofs.heads.refused_head.Goals as goal

pub returns-in-Ok : goal.returns-in-Ok
returns-in-Ok c = λ bytes. no_head {e = c.args.e} c.in_default.not-Memory c.in-Ok.ensures.ok
