use Rattle.std.proofs.Common.{◌≡◌, ◌<◌, ◌^◌, ◌+◌, ◌++◌, drop}
use Rattle.syntect_buffer.specs.Answers.{total, ranges_from}
use Rattle.syntect_buffer.proofs.answer.ranges_of.Given as goal

abbrev pub invariant-loop-style : goal.invariant-loop-style
invariant-loop-style l = total l.pieces < 2 ^ 64 → (l.ranges.items ++ ranges_from l.start (drop l.style-index l.pieces) ≡ ranges_from 0 l.pieces) × (l.start + total (drop l.style-index l.pieces) ≡ total l.pieces)
