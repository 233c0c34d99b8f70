use Rattle.syntect_pattern.proofs.TurnLaws.{turns_enough}
use Rattle.syntect_pattern.proofs.laws.loops_have_room.Goals as goal

pub returns : goal.returns
returns c = turns_enough
