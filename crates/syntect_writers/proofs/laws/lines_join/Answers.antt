use Rattle.syntect_writers.proofs.OutcomeLaws.{joined, ended}
use Rattle.syntect_writers.proofs.laws.lines_join.Goals as goal

pub returns-clause-joined : goal.returns-clause-joined
returns-clause-joined c = joined

pub returns-clause-ended : goal.returns-clause-ended
returns-clause-ended c = ended
