use Rattle.std.proofs.Common.{◌≡◌, ℕ, ◌+◌, ◌*◌, ◌≤◌, ◌++◌, ◌-◌, List, length, take, false}
use Rattle.syntect_reading_choice.specs.syntect_count.Meter.{Advances}
use Rattle.syntect_reading_choice.specs.Ahead.{AreAhead, AreAheadUpTo, IsBestAt, list_in, run_members}
use Rattle.syntect_reading_state.specs.Losses.{LosesInPart, is_lost, marks_of}
use Rattle.syntect_reading_state.specs.Memory.{Remembers}
use Rattle.syntect_reading_choice.specs.Parts.{flat_members}
use Rattle.syntect_reading_choice.specs.Reader.{AreGroupsBy, matches_of}
use Rattle.syntect_reading_choice.specs.Steps.{AreWithin}
use Rattle.syntect_reading_choice.specs.Turn.{Live}
use Rattle.syntect_reading_choice.proofs.sweep.with_run.Given as goal

abbrev pub invariant-loop-index : goal.invariant-loop-index
invariant-loop-index l = record {
  known : Remembers l.reader.set.now l.reader.line.now l.regions.memory;
  parts : LosesInPart l.part l.fn.losses l.losses;
  marks : (k : ℕ) → l.index ≤ k → is_lost (marks_of l.losses l.part) k ≡ is_lost (marks_of l.fn.losses l.part) k;
  groups : AreAhead l.reader (marks_of l.fn.losses l.part) l.place l.run → AreGroupsBy l.reader l.fn.best.candidate l.fn.regions.best → AreGroupsBy l.reader l.best.candidate l.regions.best;
  grows : l.best.is_match ≡ false → l.fn.best.is_match ≡ false;
  best : (ms : List Live) → AreAhead l.reader (marks_of l.fn.losses l.part) l.place l.run → IsBestAt l.reader l.place ms l.fn.best
      → IsBestAt l.reader l.place (ms ++ matches_of l.reader (flat_members l.reader.set.now l.run.part (take l.index (list_in l.run.flats)))) l.best;
  ahead : (ms : List Live) → AreAhead l.reader (marks_of l.fn.losses l.part) l.place l.run → IsBestAt l.reader l.place ms l.fn.best
      → l.best.is_match ≡ false → AreAheadUpTo l.reader (marks_of l.losses l.part) (l.place + 1) l.run l.index;
  advances : Advances l.fn.regions.steps l.regions.steps;
  steps : (w : ℕ) → AreWithin (length l.reader.line.now) w (run_members l.reader.set.now l.run) → l.regions.steps.made + (l.count - l.index) * w ≤ l.fn.regions.steps.made + l.count * w;
}

abbrev pub decreases-loop-index : goal.decreases-loop-index
decreases-loop-index l = l.count - l.index
