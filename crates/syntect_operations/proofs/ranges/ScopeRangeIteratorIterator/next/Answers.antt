use Rattle.std.proofs.Common.{length, refl, rules}
use Rattle.syntect_operations.proofs.RangeLaws.{left_more, left_last, empty_ops}
use Rattle.syntect_operations.proofs.ranges.ScopeRangeIteratorIterator.next.Goals as goal

pub returns-in-Some-clause-steps : goal.returns-in-Some-clause-steps
returns-in-Some-clause-steps c =
    let s = c.args.self.now in
    record {
      range = record { from = s.from; to = c.in-Some.first.now.0; op = c.in_ok-op.op };
      next = left_more s c.in_ok-op.op c.in-Some.first.now c.in-Some.others.now (search rules) (search rules);
      is = record { from = refl; to = refl; op = refl };
      line = refl;
    }

pub returns-in-None-clause-steps : goal.returns-in-None-clause-steps
returns-in-None-clause-steps c =
    let s = c.args.self.now in
    record {
      range = record { from = s.from; to = length s.line.now; op = c.in_ok-op.op };
      next = left_last s c.in_ok-op.op (search rules) (empty_ops s.ops.now (search rules));
      is = record { from = refl; to = refl; op = refl };
      line = refl;
    }
