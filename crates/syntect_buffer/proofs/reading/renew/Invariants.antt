use Rattle.std.proofs.Common.{◌≡◌, ◌≤◌, ◌+◌, length}
use Rattle.std.specs.Vec.Iter.{into_iter_items}
use Rattle.std.proofs.lemmas.List.Edits.{sets}
use Rattle.syntect_buffer.proofs.reading.renew.Given as goal

abbrev pub invariant-loop-reading : goal.invariant-loop-reading
invariant-loop-reading l = record {
  left : l.at + length (into_iter_items l.reading-iterator) ≤ length l.readings;
  count : length l.readings ≡ length l.initial.readings;
  done : sets l.readings l.at (into_iter_items l.reading-iterator) ≡ sets l.initial.readings l.fn.place l.fn.again.items;
}
