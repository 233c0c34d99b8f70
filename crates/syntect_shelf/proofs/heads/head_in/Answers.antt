use Rattle.std.proofs.Common.{rules}
use Rattle.syntect_shelf.specs.Heads.{past_folder}
use Rattle.syntect_shelf.proofs.heads.head_in.Goals as goal

pub returns-in_default-clause-err : goal.returns-in_default-clause-err
returns-in_default-clause-err g c = past_folder {bytes = c.in-Ok.bytes.items} c.in-Ok.ensures.ok (search rules) c.past_folder.ensures
