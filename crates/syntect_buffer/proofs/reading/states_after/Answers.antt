use Rattle.std.proofs.Common.{sym}
use Rattle.syntect_buffer.proofs.HeldLaws.{ending_all}
use Rattle.syntect_buffer.proofs.reading.states_after.Goals as goal

pub returns-in-Some : goal.returns-in-Some
returns-in-Some c = ending_all c.args.now.now c.args.readings.now c.in-Some.reading.now (sym c.in-Some.ensures.value)
