use Rattle.syntect_laws.proofs.Ends.{each_line_ends}
use Rattle.syntect_laws.proofs.reading.each_line_ends.Goals as goal

pub returns : goal.returns
returns c = each_line_ends
