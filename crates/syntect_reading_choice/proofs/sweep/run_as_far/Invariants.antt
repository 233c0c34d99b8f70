use Rattle.std.proofs.Common.{◌-◌, length}
use Rattle.syntect_reading_choice.specs.syntect_pattern_word_ends.Ends.{IsRunUpTo}
use Rattle.syntect_reading_choice.proofs.sweep.run_as_far.Given as goal

abbrev pub invariant-runs : goal.invariant-runs
invariant-runs l = IsRunUpTo l.blank l.line l.place l.end

abbrev pub decreases-runs : goal.decreases-runs
decreases-runs l = length l.line - l.end
