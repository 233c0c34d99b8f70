use Rattle.syntect_pattern_backtrack.proofs.NeedLaws.{none-byte, none-one}
use Rattle.syntect_pattern_backtrack.proofs.needed.behind_need.Goals as goal

pub returns-in-Byte : goal.returns-in-Byte
returns-in-Byte c = none-byte c.args.text.now c.utf8.text c.args.place c.args.need.now c.in-Byte.byte c.in-Byte.next c.in-Byte.is c.behind_byte.result c.behind_byte.ensures

pub returns-in-One : goal.returns-in-One
returns-in-One c = none-one c.args.text.now c.utf8.text c.args.place c.args.need.now c.in-One.here c.in-One.next c.in-One.is c.behind_one.result c.behind_one.ensures
