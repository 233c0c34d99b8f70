use Rattle.std.proofs.Common.{◌≡◌, ◌<◌, ℕ, get_or, length, false}
use Rattle.syntect_reading_choice.specs.syntect_pattern_table.Starts.{is_in}
use Rattle.syntect_reading_choice.specs.Ahead.{IsQuiet}
use Rattle.syntect_reading_choice.specs.declared.runs.Run.{Run}
use Rattle.syntect_reading_choice.proofs.sweep.begins_of.Given as goal

abbrev pub invariant-loop-run : goal.invariant-loop-run
invariant-loop-run l = (x k : ℕ) (r : Run) → x < 130 → is_in l.begins x ≡ false → k < l.run-index → k < length l.runs → IsQuiet x (get_or l.runs k r)
