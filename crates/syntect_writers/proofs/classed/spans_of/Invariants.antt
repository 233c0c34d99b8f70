use Rattle.std.proofs.Common.{◌≡◌, length, drop}
use Rattle.std.specs.Str.{IsCharBoundary}
use Rattle.syntect_writers.specs.Marks.{marks, stack_after, some_refused}
use Rattle.syntect_writers.specs.Writing.{Puts}
use Rattle.syntect_writers.specs.syntect_scope.Replay.{InOrder}
use Rattle.syntect_writers.proofs.classed.spans_of.Given as goal

-- with the operations that are left all marks are put
abbrev pub invariant-loop-place : goal.invariant-loop-place
invariant-loop-place l = record {
  start : IsCharBoundary l.line l.from;
  order : InOrder l.line l.from (drop l.place-index l.ops) (length l.line);
  put : (after : _) → Puts l.prefix l.repository l.spans (marks l.line l.from l.stack (drop l.place-index l.ops)) after → Puts l.prefix l.repository l.initial.spans (marks l.line 0 l.fn.stack l.ops) after;
  stack : stack_after l.stack (drop l.place-index l.ops) ≡ stack_after l.fn.stack l.ops;
  refused : some_refused l.stack (drop l.place-index l.ops) ≡ some_refused l.fn.stack l.ops;
}
