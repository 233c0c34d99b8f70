use Rattle.std.proofs.Common.{ℕ, ◌+◌, ◌*◌, ◌≤◌, All, length, map, take}
use Rattle.std.specs.List.{flat_map}
use Rattle.syntect_reading_choice.specs.syntect_count.Meter.{Advances}
use Rattle.syntect_reading_choice.specs.Ahead.{IsRun}
use Rattle.syntect_reading_choice.specs.Parts.{part_members}
use Rattle.syntect_reading_choice.specs.Shorter.{AreShorter}
use Rattle.syntect_reading_choice.specs.Steps.{ArePutWithin}
use Rattle.syntect_reading_choice.proofs.runs.runs_of.Given as goal

abbrev pub invariant-loop-part : goal.invariant-loop-part
invariant-loop-part l = record {
  parts : AreShorter l.reader.set.now (map (λ r. r.part) l.runs.items) (take l.part-index l.parts);
  runs : All (IsRun l.reader.set.now) l.runs.items;
  advances : Advances l.fn.meter l.meter;
  steps : (put : ℕ) → ArePutWithin put (flat_map (part_members l.reader.set.now) l.parts)
      → l.meter.made ≤ l.fn.meter.made + length (flat_map (part_members l.reader.set.now) (take l.part-index l.parts)) * put;
}
