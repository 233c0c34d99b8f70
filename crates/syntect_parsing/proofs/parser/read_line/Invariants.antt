use Rattle.std.proofs.Common.{◌-◌}
use Rattle.syntect_parsing.specs.syntect_base.Limiting.{IsWithinLimit}
use Rattle.syntect_parsing.specs.syntect_count.Meter.{Advances}
use Rattle.syntect_reading_choice.specs.Memory.{Remembers}
use Rattle.syntect_parsing.specs.Step.{turns_left}
use Rattle.syntect_parsing.proofs.Runs.{ReadSoFar}
use Rattle.syntect_parsing.proofs.WithinLaws.{LevelsSoFar}
use Rattle.syntect_parsing.proofs.WorkLaws.{StepsSoFar}
use Rattle.syntect_parsing.proofs.parser.read_line.Given as goal

abbrev pub invariant-each : goal.invariant-each
invariant-each l = record {
  known : Remembers l.set l.line l.regions.memory;
  read : ReadSoFar l.set l.line l.state l.p l.ops.items l.fn.count.made l.count.made l.turns;
  advances : Advances l.fn.regions.steps l.regions.steps;
  few : IsWithinLimit l.limits.turns (l.count.made - l.fn.count.made);
  steps : StepsSoFar l.set l.line l.state l.p (l.count.made - l.fn.count.made) l.fn.regions.steps.made l.regions.steps.made;
  levels : LevelsSoFar l.set l.line l.state l.limits.levels l.p;
}

abbrev pub decreases-each : goal.decreases-each
decreases-each l = turns_left l.set l.line l.p
