use Rattle.std.proofs.Common.{take}
use Rattle.std.specs.Io.KnownBytes.{Appends}
use Rattle.syntect_scope.specs.Repository.{scope_text}
use Rattle.syntect_scope.proofs.scope.Scope.write_to.Given as goal

abbrev pub invariant-loop-i : goal.invariant-loop-i
invariant-loop-i g l = Appends (g.W.Write.contents l.fn.writer) (g.W.Write.contents l.writer) (scope_text l.repository (take l.i l.self))
