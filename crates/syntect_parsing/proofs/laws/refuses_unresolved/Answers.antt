use Rattle.syntect_parsing.proofs.RefusalLaws.{refuses_unresolved}
use Rattle.syntect_parsing.proofs.laws.refuses_unresolved.Goals as goal

pub returns : goal.returns
returns c = refuses_unresolved
