use Rattle.std.proofs.Common.{◌≡◌, ◌+◌, ◌-◌, ℕ, length}
use Rattle.syntect_reading_state.specs.Losses.{is_lost}
use Rattle.syntect_reading_state.proofs.losses.Marks.reach.Given as goal

abbrev pub invariant-loop-self : goal.invariant-loop-self
invariant-loop-self l = (k : ℕ) → is_lost l.self-inside.kept.items k ≡ is_lost l.fn.self k

abbrev pub decreases-loop-self : goal.decreases-loop-self
decreases-loop-self l = l.index + 1 - length l.self-inside.kept.items
