use Rattle.std.proofs.Common.{◌≤◌, ◌-◌, Bool, List, length}
use Rattle.std.specs.List.{All}
use Rattle.syntect_reading_choice.specs.Ahead.{AllAhead, BeginIn, IsRun}
use Rattle.syntect_reading_choice.specs.declared.runs.Run.{Run}
use Rattle.syntect_reading_choice.proofs.sweep.next_place.Given as goal

abbrev pub invariant-loop-next : goal.invariant-loop-next
invariant-loop-next l = record {
  later : l.place ≤ l.next;
  within : l.next ≤ length l.reader.line.now;
  ahead : (losses : List (List Bool)) (runs : List Run) → BeginIn l.begins runs → All (IsRun l.reader.set.now) runs → AllAhead l.reader losses l.place runs → AllAhead l.reader losses l.next runs;
}

abbrev pub decreases-loop-next : goal.decreases-loop-next
decreases-loop-next l = length l.reader.line.now - l.next
