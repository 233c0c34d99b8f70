use Rattle.syntect_closed.proofs.FoundLaws.{heads_find_alike}
use Rattle.syntect_closed.proofs.laws.heads_find_alike.Goals as goal

pub returns : goal.returns
returns c = heads_find_alike
