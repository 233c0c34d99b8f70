use Rattle.std.proofs.Common.{◌≡◌, ℕ, ◌+◌, ◌*◌, ◌≤◌, length, true}
use Rattle.syntect_reading_state.specs.Puts.{least_steps}
use Rattle.syntect_reading_choice.specs.syntect_count.Meter.{Advances}
use Rattle.syntect_reading_choice.specs.Parts.{part_members}
use Rattle.syntect_reading_choice.specs.Steps.{ArePutWithin}
use Rattle.syntect_reading_choice.proofs.RunLaws.{Replaced}
use Rattle.syntect_reading_choice.proofs.runs.replaced_in.Given as goal

abbrev pub invariant-loop-index : goal.invariant-loop-index
invariant-loop-index l = record {
  count : length l.replaced.items ≡ l.index;
  few : l.index ≤ length l.flats;
  replaced : Replaced l.reader.set.now l.part l.flats l.index l.replaced.items;
  advances : Advances l.fn.meter l.meter;
  room : (put : ℕ) → ArePutWithin put (part_members l.reader.set.now l.part) → l.passed.is_put ≡ true → least_steps ≤ put;
  steps : (put : ℕ) → ArePutWithin put (part_members l.reader.set.now l.part) → l.meter.made + l.passed.count * put ≤ l.fn.meter.made + l.index * put;
}
