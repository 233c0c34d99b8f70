use Rattle.std.proofs.Common.{sym, subst, arith}
use Rattle.std.specs.Str.{IsCharBoundary}
use Rattle.syntect_operations.proofs.RangeLaws.{range_ready}
use Rattle.syntect_operations.proofs.ranges.ScopeRegionIteratorIterator.next.Goals as goal

pub range-requires-clause-start_le_end : goal.range-requires-clause-start_le_end
range-requires-clause-start_le_end c =
    let s = c.args.self.now.ranges in
    let given = c.in_ok-range.ensures.steps in
    omega (arith, given.is.from, given.is.to, (range_ready s.line.now s.from s.op s.ops.now given.range _ c.requires.0 c.requires.1 given.next).order)

pub range-requires-clause-start_boundary : goal.range-requires-clause-start_boundary
range-requires-clause-start_boundary c = λ above.
    let s = c.args.self.now.ranges in
    let given = c.in_ok-range.ensures.steps in
    subst (IsCharBoundary s.line.now) (sym given.is.from) (range_ready s.line.now s.from s.op s.ops.now given.range _ c.requires.0 c.requires.1 given.next).start

pub range-requires-clause-end_boundary : goal.range-requires-clause-end_boundary
range-requires-clause-end_boundary c =
    let s = c.args.self.now.ranges in
    let given = c.in_ok-range.ensures.steps in
    subst (IsCharBoundary s.line.now) (sym given.is.to) (range_ready s.line.now s.from s.op s.ops.now given.range _ c.requires.0 c.requires.1 given.next).end
