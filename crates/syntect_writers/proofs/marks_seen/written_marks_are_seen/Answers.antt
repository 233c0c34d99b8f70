use Rattle.syntect_writers.proofs.SeenLaws.{all_seen}
use Rattle.syntect_writers.proofs.marks_seen.written_marks_are_seen.Goals as goal

pub returns : goal.returns
returns c = all_seen
