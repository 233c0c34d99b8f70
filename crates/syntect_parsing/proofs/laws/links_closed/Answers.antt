use Rattle.syntect_parsing.proofs.LinkedLaws.{links_closed}
use Rattle.syntect_parsing.proofs.laws.links_closed.Goals as goal

pub returns : goal.returns
returns c = links_closed
