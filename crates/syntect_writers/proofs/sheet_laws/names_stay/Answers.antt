use Rattle.syntect_writers.proofs.InsideLaws.{name_stays}
use Rattle.syntect_writers.proofs.sheet_laws.names_stay.Goals as goal

pub returns : goal.returns
returns c = name_stays
