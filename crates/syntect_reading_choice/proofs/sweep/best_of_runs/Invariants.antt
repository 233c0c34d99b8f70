use Rattle.std.proofs.Common.{ℕ, ◌+◌, ◌*◌, ◌≤◌, ◌-◌, length}
use Rattle.std.specs.List.{flat_map}
use Rattle.syntect_reading_choice.specs.syntect_count.Meter.{Advances}
use Rattle.syntect_reading_choice.specs.Ahead.{AllAhead, Reaches, run_members}
use Rattle.syntect_reading_state.specs.Memory.{Remembers}
use Rattle.syntect_reading_choice.specs.Steps.{AreWithin, place_steps, turn_steps}
use Rattle.syntect_reading_choice.proofs.sweep.best_of_runs.Given as goal

abbrev pub invariant-places : goal.invariant-places
invariant-places l = record {
  known : Remembers l.reader.set.now l.reader.line.now l.regions.memory;
  near : l.reader.position.now.place ≤ l.place;
  within : l.place ≤ length l.reader.line.now;
  ahead : AllAhead l.reader l.losses l.place l.runs;
  reach : Reaches l.reader.line.now l.place l.reach;
  advances : Advances l.fn.regions.steps l.regions.steps;
  steps : (w : ℕ) → AreWithin (length l.reader.line.now) w (flat_map (run_members l.reader.set.now) l.runs)
      → l.regions.steps.made + (length l.reader.line.now + 1 - l.place) * place_steps (length (flat_map (run_members l.reader.set.now) l.runs)) w
      ≤ l.fn.regions.steps.made + turn_steps (length (flat_map (run_members l.reader.set.now) l.runs)) w (length l.reader.line.now);
}

abbrev pub decreases-places : goal.decreases-places
decreases-places l = length l.reader.line.now - l.place
