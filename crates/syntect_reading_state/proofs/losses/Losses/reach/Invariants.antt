use Rattle.std.proofs.Common.{◌≡◌, ◌+◌, ◌-◌, ℕ, length}
use Rattle.syntect_reading_state.specs.Losses.{marks_of}
use Rattle.syntect_reading_state.proofs.losses.Losses.reach.Given as goal

abbrev pub invariant-loop-alloc : goal.invariant-loop-alloc
invariant-loop-alloc l = (k : ℕ) → marks_of l.self-inside.parts.items k ≡ marks_of l.fn.self k

abbrev pub decreases-loop-alloc : goal.decreases-loop-alloc
decreases-loop-alloc l = l.part + 1 - length l.self-inside.parts.items
