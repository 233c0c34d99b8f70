use Rattle.std.proofs.Common.{length}
use Rattle.syntect_pattern_word_ends.proofs.ends.+before_rest.Given as goal

abbrev pub decreases-before_rest : goal.decreases-before_rest
decreases-before_rest l = length l.letters.now
