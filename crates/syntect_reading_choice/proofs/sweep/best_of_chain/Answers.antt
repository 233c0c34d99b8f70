use Rattle.std.proofs.Common.{length, map, ◌∙◌}
use Rattle.syntect_reading_choice.specs.Shorter.{AreShorter}
use Rattle.syntect_reading_choice.proofs.ShorterLaws.{runs_steps, runs_winner, runs_within}
use Rattle.syntect_reading_choice.proofs.StepLaws.{turn_worked}
use Rattle.syntect_reading_choice.proofs.sweep.best_of_chain.Goals as goal

pub best_of_runs-requires-clause-runs : goal.best_of_runs-requires-clause-runs
best_of_runs-requires-clause-runs c = rw c.as_slice.ensures.value c.in_ok-runs.ensures.runs

pub returns-clause-best : goal.returns-clause-best
returns-clause-best c = c.in_ok-found.ensures.best ∙ runs_winner c.args.reader.now c.as_slice.result.now c.args.parts.now (rw c.as_slice.ensures.value c.in_ok-runs.ensures.parts)

pub returns-clause-steps : goal.returns-clause-steps
returns-clause-steps c = λ w put all few.
    let set = c.args.reader.now.set.now in
    let shorter : AreShorter set (map (λ r. r.part) c.as_slice.result.now) c.args.parts.now = rw c.as_slice.ensures.value c.in_ok-runs.ensures.parts in
    let searched =
    runs_steps set c.as_slice.result.now c.args.parts.now w (length c.args.reader.now.line.now) c.runs_of.new.meter.made c.best_of_runs.new.regions.steps.made shorter
    (c.in_ok-found.ensures.steps w (runs_within set c.as_slice.result.now c.args.parts.now (length c.args.reader.now.line.now) w shorter all)) in
    turn_worked c.args.regions.now.steps.made c.runs_of.new.meter.made c.best_of_runs.new.regions.steps.made _ _ (c.in_ok-runs.ensures.steps put few) searched
