use Rattle.syntect_writers.proofs.PageLaws.{page_seen}
use Rattle.syntect_writers.proofs.marks_seen.pages_are_seen.Goals as goal

pub returns : goal.returns
returns c = page_seen
