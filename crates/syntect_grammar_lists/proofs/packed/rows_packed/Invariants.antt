use Rattle.std.proofs.Common.{◌≡◌, ◌<◌, ◌*◌, ◌++◌, length}
use Rattle.std.specs.List.{All, flat_map}
use Rattle.syntect_grammar_lists.specs.Packed.{row_at}
use Rattle.syntect_grammar_lists.proofs.PackedLaws.{IsWhole}
use Rattle.syntect_grammar_lists.proofs.packed.rows_packed.Given as goal

abbrev pub invariant-loop-rest : goal.invariant-loop-rest
invariant-loop-rest l = record {
  few : l.count < 257;
  whole : length l.bits.items ≡ l.count * l.words;
  packed : All (IsWhole l.words l.bits.items) l.numbers.items;
  same : flat_map (row_at l.words l.bits.items) l.numbers.items ++ l.rest ≡ l.rows;
}

abbrev pub decreases-loop-rest : goal.decreases-loop-rest
decreases-loop-rest l = length l.rest
