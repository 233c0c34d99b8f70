use Rattle.std.proofs.Common.{◌≡◌, ◌<◌, ◌≤◌, ◌+◌, ◌-◌, ◌*◌, ◌/◌, ℕ, get_or, true}
use Rattle.std.specs.Int.{bit_at}
use Rattle.syntect_grammar_lists.specs.syntect_pattern_table.Starts.{is_in}
use Rattle.syntect_grammar_lists.specs.Rows.{KeepsBits, bit_of, has_bit}
use Rattle.syntect_grammar_lists.specs.Sides.{places_on}
use Rattle.syntect_grammar_lists.specs.declared.flats.Flat.{Flat}
use Rattle.syntect_grammar_lists.proofs.rows.mark_word.Given as goal

abbrev pub invariant-loop-index : goal.invariant-loop-index
invariant-loop-index l = record {
  from : l.word * 64 ≤ l.index;
  opened : (x b : ℕ) → x < 130 → b < 64 → bit_at l.open b ≡ 1 → has_bit l.rows.items ((l.first + x) * l.words + l.word) b ≡ true;
  marks : (x k : ℕ) (d : Flat) → x < 130 → k < l.index → k / 64 ≡ l.word → is_in (places_on l.side (get_or l.flats k d)) x ≡ true → bit_of l.rows.items l.words (l.first + x) k ≡ true;
  others : KeepsBits l.fn.rows.items l.rows.items;
}

abbrev pub decreases-loop-index : goal.decreases-loop-index
decreases-loop-index l = l.end - l.index
