use Rattle.syntect_easy.proofs.LeadLaws.{pasts_stay}
use Rattle.syntect_easy.proofs.laws.pasts_stay.Goals as goal

pub returns : goal.returns
returns c = pasts_stay
