use Rattle.syntect_pattern.proofs.BodyLaws.{body-enough}
use Rattle.syntect_pattern.proofs.laws.reading_has_room.Goals as goal

pub returns : goal.returns
returns c = body-enough
