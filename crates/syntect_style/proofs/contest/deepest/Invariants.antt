use Rattle.std.proofs.Common.{◌≡◌, ◌≤◌, take, length}
use Rattle.syntect_style.specs.Candidates.{deepest}
use Rattle.syntect_style.proofs.contest.deepest.Given as goal

abbrev pub invariant-loop-at : goal.invariant-loop-at
invariant-loop-at l = record { within : l.at ≤ length l.stack; none_above : deepest l.scope l.stack ≡ deepest l.scope (take l.at l.stack) }

abbrev pub decreases-loop-at : goal.decreases-loop-at
decreases-loop-at l = l.at
