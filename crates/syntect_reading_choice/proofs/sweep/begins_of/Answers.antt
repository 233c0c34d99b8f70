use Rattle.syntect_reading_choice.proofs.SweepLaws.{begin_more}
use Rattle.syntect_reading_choice.proofs.sweep.begins_of.Goals as goal

pub loop-run-preserved : goal.loop-run-preserved
loop-run-preserved c =
    begin_more c.loop-run.begins c.any.result c.either-begins.result c.args.runs.now c.loop-run.run-index c.run-item.result c.run-item.is
    (rw c.list_in.ensures at c.any.ensures) c.either-begins.ensures c.loop-run.invariant
