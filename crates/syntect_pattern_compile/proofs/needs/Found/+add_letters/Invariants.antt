use Rattle.std.proofs.Common.{length}
use Rattle.syntect_pattern_compile.proofs.needs.Found.+add_letters.Given as goal

abbrev pub decreases-add_letters : goal.decreases-add_letters
decreases-add_letters l = length l.others.now
