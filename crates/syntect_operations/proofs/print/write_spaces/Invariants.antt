use Rattle.std.proofs.Common.{◌-◌, replicate}
use Rattle.std.specs.Io.KnownBytes.{Appends}
use Rattle.syntect_operations.proofs.print.write_spaces.Given as goal

-- with those that are left all are written
abbrev pub invariant-loop : goal.invariant-loop
invariant-loop g l =
    (last : _) → Appends (g.W.Write.contents l.writer) last (replicate (l.count - l.counter) 32) → Appends (g.W.Write.contents l.fn.writer) last (replicate l.count 32)
