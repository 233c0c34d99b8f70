use Rattle.syntect_shelf.specs.Heads.{past}
use Rattle.syntect_shelf.proofs.heads.past_folder.Goals as goal

pub returns-in-Ok : goal.returns-in-Ok
returns-in-Ok c = past c.in-Ok.ensures.ok
