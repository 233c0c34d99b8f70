use Rattle.syntect_closed.proofs.ShelvedLaws.{shelved_agree}
use Rattle.syntect_closed.proofs.laws.shelved_agree.Goals as goal

pub returns : goal.returns
returns c = shelved_agree
