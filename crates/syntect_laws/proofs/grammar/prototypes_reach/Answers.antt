use Rattle.syntect_laws.proofs.ReachLaws.{prototypes_reach}
use Rattle.syntect_laws.proofs.grammar.prototypes_reach.Goals as goal

pub returns : goal.returns
returns c = prototypes_reach
