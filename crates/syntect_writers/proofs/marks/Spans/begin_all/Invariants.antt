use Rattle.std.proofs.Common.{drop, map}
use Rattle.syntect_writers.specs.Marks.Mark.{Begin}
use Rattle.syntect_writers.specs.Writing.{Puts}
use Rattle.syntect_writers.proofs.marks.Spans.begin_all.Given as goal

-- with those that are left all are put
abbrev pub invariant-loop-scope : goal.invariant-loop-scope
invariant-loop-scope l = (after : _) → Puts l.prefix l.repository l.self (map Begin (drop l.scope-index l.scopes)) after → Puts l.prefix l.repository l.fn.self (map Begin l.scopes) after
