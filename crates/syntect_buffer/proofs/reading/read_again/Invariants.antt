use Rattle.std.proofs.Common.{◌≡◌, ◌+◌, length, take, drop}
use Rattle.syntect_buffer.specs.Kept.{AllTell, ReadsOn, ending, lines_in}
use Rattle.syntect_buffer.proofs.reading.read_again.Given as goal

abbrev pub invariant-loop-at : goal.invariant-loop-at
invariant-loop-at l = record {
  count : l.place + length l.again.items ≡ l.at;
  on : ReadsOn l.set l.theme l.now (ending l.kept.start (take l.place l.kept.readings)) (drop l.place (lines_in l.kept)) (drop l.place l.kept.readings) l.again.items;
  told : AllTell l.kept.limits l.again.items;
}
