use Rattle.std.proofs.Common.{arith}
use Rattle.syntect_reading_choice.proofs.SweepLaws.{run_on}
use Rattle.syntect_reading_choice.proofs.sweep.run_as_far.Goals as goal

pub runs-preserved : goal.runs-preserved
runs-preserved c = run_on c.args.line.now c.args.blank c.args.place c.runs.end c.run_end-next.result c.runs.invariant c.run_end-next.ensures

pub runs-smaller : goal.runs-smaller
runs-smaller c = omega (arith, c.run_end-next.ensures.order, c.run_end-next.ensures.within, c.if-next-end.false)
