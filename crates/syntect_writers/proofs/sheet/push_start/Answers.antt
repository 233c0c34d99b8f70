use Rattle.syntect_writers.proofs.SheetLaws.{four_joined}
use Rattle.syntect_writers.proofs.sheet.push_start.Goals as goal

pub returns : goal.returns
returns c = four_joined _ _ _ _ _ _ _ _ _ c.in_ok-push_heading.ensures c.in_ok-push_class.ensures c.in_ok-push_block.ensures c.in_ok-push_str.ensures.bytes
