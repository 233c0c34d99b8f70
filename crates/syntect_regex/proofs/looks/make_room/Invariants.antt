use Rattle.std.proofs.Common.{◌≡◌, ◌-◌, ◌+◌, ℕ, None, length, get_or}
use Rattle.syntect_regex.proofs.looks.make_room.Given as goal

abbrev pub invariant-loop-looks : goal.invariant-loop-looks
invariant-loop-looks l = (n : ℕ) → get_or l.looks.items n None ≡ get_or l.initial.looks.items n None

abbrev pub decreases-loop-looks : goal.decreases-loop-looks
decreases-loop-looks l = l.number + 1 - length l.looks.items
