use Rattle.std.proofs.Common.{arith}
use Rattle.syntect_buffer.proofs.HeldLaws.{ending_at}
use Rattle.syntect_buffer.proofs.reading.states_at.Goals as goal

pub returns-else-place-eq0 : goal.returns-else-place-eq0
returns-else-place-eq0 c = ending_at c.args.start.now c.args.readings.now c.args.place c.get.result.now (omega arith) c.get.ensures
