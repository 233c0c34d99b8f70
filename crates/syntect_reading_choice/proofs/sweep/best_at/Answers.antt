use Rattle.std.proofs.Common.{length, subst, sym, take}
use Rattle.std.specs.List.{flat_map}
use Rattle.syntect_reading_choice.proofs.syntect_count_proofs.MeterLaws.{advances-on}
use Rattle.syntect_reading_choice.specs.Ahead.{IsRun, run_members}
use Rattle.syntect_reading_state.specs.Losses.{marks_of}
use Rattle.syntect_reading_choice.specs.Reader.{matches_of}
use Rattle.syntect_reading_choice.proofs.SweepLaws.{marks_behind, one_ahead, runs_ahead, runs_more}
use Rattle.syntect_reading_choice.proofs.StepLaws.{runs_done, runs_spent, within_run}
use Rattle.syntect_reading_choice.proofs.sweep.best_at.Goals as goal

pub with_run-requires-clause-run : goal.with_run-requires-clause-run
with_run-requires-clause-run c = subst (λ r. IsRun c.args.reader.now.set.now r) (sym c.index-runs-part.is) (c.requires.runs c.loop-part.part c.index-runs-part.result c.loop-part-test.true)

pub loop-part-preserved : goal.loop-part-preserved
loop-part-preserved c = record {
  known = c.in_ok-best.ensures.known;
  marks = marks_behind c.args.reader.now c.args.place c.args.losses.now c.loop-part.losses c.with_run.new.losses c.loop-part.part c.loop-part.invariant.marks c.in_ok-best.ensures.losses;
  groups = λ a.
      c.in_ok-best.ensures.groups
      (one_ahead c.args.reader.now c.args.place c.args.losses.now c.loop-part.losses c.args.runs.now c.loop-part.part c.index-runs-part.result c.loop-part-test.true c.index-runs-part.is c.loop-part.invariant.marks a)
      (c.loop-part.invariant.groups a);
  best = λ a.
      runs_more c.args.reader.now c.args.place (marks_of c.with_run.new.losses c.loop-part.part) c.in_ok-best.best c.args.runs.now c.loop-part.part c.index-runs-part.result c.loop-part-test.true c.index-runs-part.is
      (c.in_ok-best.ensures.best (matches_of c.args.reader.now (flat_map (run_members c.args.reader.now.set.now) (take c.loop-part.part c.args.runs.now)))
      (one_ahead c.args.reader.now c.args.place c.args.losses.now c.loop-part.losses c.args.runs.now c.loop-part.part c.index-runs-part.result c.loop-part-test.true c.index-runs-part.is c.loop-part.invariant.marks a)
      (c.loop-part.invariant.best a));
  ahead = λ a is.
      runs_ahead c.args.reader.now c.args.place c.loop-part.losses c.with_run.new.losses c.in_ok-best.best _ c.args.runs.now c.loop-part.part c.index-runs-part.result c.loop-part-test.true c.index-runs-part.is c.in_ok-best.ensures.losses
      (c.in_ok-best.ensures.best (matches_of c.args.reader.now (flat_map (run_members c.args.reader.now.set.now) (take c.loop-part.part c.args.runs.now)))
      (one_ahead c.args.reader.now c.args.place c.args.losses.now c.loop-part.losses c.args.runs.now c.loop-part.part c.index-runs-part.result c.loop-part-test.true c.index-runs-part.is c.loop-part.invariant.marks a)
      (c.loop-part.invariant.best a))
      is (c.loop-part.invariant.ahead a (c.in_ok-best.ensures.grows is));
  advances = advances-on _ _ _ c.loop-part.invariant.advances c.with_run.ensures.advances;
  steps = λ w all.
      runs_spent c.args.reader.now.set.now c.args.runs.now w c.args.regions.now.steps.made c.loop-part.regions.steps.made c.with_run.new.regions.steps.made c.loop-part.part c.index-runs-part.result c.loop-part-test.true c.index-runs-part.is
      (c.loop-part.invariant.steps w all)
      (c.in_ok-best.ensures.steps w (within_run c.args.reader.now.set.now c.args.runs.now (length c.args.reader.now.line.now) w c.loop-part.part c.index-runs-part.result c.loop-part-test.true c.index-runs-part.is all));
}

pub returns-clause-steps : goal.returns-clause-steps
returns-clause-steps c = λ w all.
    runs_done c.args.reader.now.set.now c.args.runs.now w c.args.regions.now.steps.made c.loop-part.regions.steps.made c.loop-part.part c.loop-part-test.false (c.loop-part.invariant.steps w all)
