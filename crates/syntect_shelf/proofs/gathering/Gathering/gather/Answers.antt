use Rattle.syntect_shelf.specs.Gathering.{no_memory}
use Rattle.syntect_shelf.proofs.gathering.Gathering.gather.Goals as goal

pub returns-in-Err-put-clause-err : goal.returns-in-Err-put-clause-err
returns-in-Err-put-clause-err g c = no_memory c.no_memory.ensures
