use Rattle.std.proofs.Common.{◌≡◌, ◌<◌, ◌≤◌, ◌+◌, ◌-◌, ◌/◌, ◌^◌, ℕ, true}
use Rattle.std.specs.Int.{bit_at}
use Rattle.syntect_grammar_lists.specs.Rows.{KeepsBits, bit_of}
use Rattle.syntect_grammar_lists.proofs.rows.mark_half.Given as goal

abbrev pub invariant-loop-rest : goal.invariant-loop-rest
invariant-loop-rest l = record {
  from : l.first ≤ l.row;
  within : l.row ≤ l.first + 64;
  rest : l.rest ≡ l.bits / 2 ^ (l.row - l.first);
  marks : (x : ℕ) → x < l.row - l.first → bit_at l.bits x ≡ 1 → bit_of l.rows.items l.words (l.first + x) l.index ≡ true;
  others : KeepsBits l.fn.rows.items l.rows.items;
}

abbrev pub decreases-loop-rest : goal.decreases-loop-rest
decreases-loop-rest l = l.first + 64 - l.row
