use Rattle.std.proofs.Common.{arith, ◌≡◌, ◌-◌}
use Rattle.syntect_writers.proofs.PutLaws.{end_first, put_none}
use Rattle.syntect_writers.proofs.marks.Spans.end_all.Goals as goal

pub loop-preserved : goal.loop-preserved
loop-preserved c = λ prefix repo after rest.
    c.loop.invariant prefix repo after (end_first prefix repo c.args.count c.loop.counter c.loop.self c.end.new.self after c.loop-test.true (c.in_ok-end.ensures prefix repo) rest)

pub returns : goal.returns
returns c = λ prefix repo.
    let none : c.args.count - c.loop.counter ≡ 0 = omega (arith, c.loop-test.false) in
    c.loop.invariant prefix repo c.loop.self (rw none (put_none prefix repo c.loop.self))
