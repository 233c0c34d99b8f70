use Rattle.syntect_easy.proofs.OrderlyLaws.{runs_orderly, clears_none}
use Rattle.syntect_easy.proofs.laws.orderly_where_nothing_clears.Goals as goal

pub returns-clause-sets : goal.returns-clause-sets
returns-clause-sets c = clears_none

pub returns-clause-runs : goal.returns-clause-runs
returns-clause-runs c = λ set syntax lines n. runs_orderly set n syntax lines
