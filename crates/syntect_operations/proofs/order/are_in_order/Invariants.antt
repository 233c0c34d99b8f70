use Rattle.std.proofs.Common.{◌↔◌, ◌≤◌, drop, length}
use Rattle.syntect_scope.specs.Replay.{InOrder}
use Rattle.syntect_operations.proofs.order.are_in_order.Given as goal

-- the operations are in order where those that are left are so after the last place
abbrev pub invariant-loop-place : goal.invariant-loop-place
invariant-loop-place l = record {
  left : InOrder l.line l.from (drop l.place-index l.ops) (length l.line) ↔ InOrder l.line 0 l.ops (length l.line);
  within : l.from ≤ length l.line;
}
