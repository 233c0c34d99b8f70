use Rattle.std.proofs.Common.{drop}
use Rattle.std.specs.Io.KnownBytes.{Appends}
use Rattle.syntect_operations.specs.Print.{operations_text}
use Rattle.syntect_operations.proofs.print.debug_print_ops.Given as goal

-- with those that are left all are written
abbrev pub invariant-loop-place : goal.invariant-loop-place
invariant-loop-place g l =
    (last : _) → Appends (g.W.Write.contents l.writer) last (operations_text l.repository l.line (drop l.place-index l.ops)) → Appends (g.W.Write.contents l.fn.writer) last (operations_text l.repository l.line l.ops)
