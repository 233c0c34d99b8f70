use Rattle.std.proofs.Common.{◌≡◌, ℕ, ◌+◌, ◌≤◌, length, take, false}
use Rattle.std.specs.List.{flat_map}
use Rattle.syntect_reading_choice.specs.syntect_count.Meter.{Advances}
use Rattle.syntect_reading_choice.specs.Ahead.{AllAhead, IsBestAt, run_members}
use Rattle.syntect_reading_state.specs.Losses.{marks_of}
use Rattle.syntect_reading_state.specs.Memory.{Remembers}
use Rattle.syntect_reading_choice.specs.Reader.{AreGroupsBy, matches_of}
use Rattle.syntect_reading_choice.specs.Steps.{AreWithin, place_steps}
use Rattle.syntect_reading_choice.proofs.SweepLaws.{AheadUpTo}
use Rattle.syntect_reading_choice.proofs.sweep.best_at.Given as goal

abbrev pub invariant-loop-part : goal.invariant-loop-part
invariant-loop-part l = record {
  known : Remembers l.reader.set.now l.reader.line.now l.regions.memory;
  marks : (k : ℕ) → l.part ≤ k → marks_of l.losses k ≡ marks_of l.fn.losses k;
  groups : AllAhead l.reader l.fn.losses l.place l.runs → AreGroupsBy l.reader l.best.candidate l.regions.best;
  best : AllAhead l.reader l.fn.losses l.place l.runs → IsBestAt l.reader l.place (matches_of l.reader (flat_map (run_members l.reader.set.now) (take l.part l.runs))) l.best;
  ahead : AllAhead l.reader l.fn.losses l.place l.runs → l.best.is_match ≡ false → AheadUpTo l.reader l.place l.losses (l.place + 1) l.runs l.part;
  advances : Advances l.fn.regions.steps l.regions.steps;
  steps : (w : ℕ) → AreWithin (length l.reader.line.now) w (flat_map (run_members l.reader.set.now) l.runs)
      → l.regions.steps.made ≤ l.fn.regions.steps.made + place_steps (length (flat_map (run_members l.reader.set.now) (take l.part l.runs))) w;
}
