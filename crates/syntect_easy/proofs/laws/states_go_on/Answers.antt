use Rattle.syntect_easy.proofs.LeadLaws.{states_go_on}
use Rattle.syntect_easy.proofs.laws.states_go_on.Goals as goal

pub returns : goal.returns
returns c = states_go_on
