use Rattle.syntect_easy.proofs.RowLaws.{last_decides}
use Rattle.syntect_easy.proofs.reading.can_go_on.Goals as goal

pub returns-in-Some : goal.returns-in-Some
returns-in-Some c = last_decides c.args.line.now c.in-Some.b.now c.in-Some.ensures.value
