use Rattle.syntect_closed.proofs.ShelvedLaws.{shelved_read_alike}
use Rattle.syntect_closed.proofs.laws.shelved_read_alike.Goals as goal

pub returns : goal.returns
returns c = shelved_read_alike
