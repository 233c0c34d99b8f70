use Rattle.syntect_writers.proofs.FollowLaws.{follows}
use Rattle.syntect_writers.proofs.marks_seen.marks_follow_the_operations.Goals as goal

pub returns : goal.returns
returns c = follows
