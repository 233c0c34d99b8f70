use Rattle.syntect_closed.proofs.ClosedReading.{closed_read_alike}
use Rattle.syntect_closed.proofs.laws.closed_read_alike.Goals as goal

pub returns : goal.returns
returns c = closed_read_alike
