use Rattle.std.proofs.Common.{length, ◌-◌}
use Rattle.syntect_reading_choice.specs.Bare.{AreBare}
use Rattle.syntect_reading_choice.proofs.levels.bare_of.Given as goal

abbrev pub invariant-loop-bare : goal.invariant-loop-bare
invariant-loop-bare l = AreBare l.bare l.levels

abbrev pub decreases-loop-bare : goal.decreases-loop-bare
decreases-loop-bare l = length l.levels - l.bare
