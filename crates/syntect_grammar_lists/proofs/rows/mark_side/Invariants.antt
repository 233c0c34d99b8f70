use Rattle.std.proofs.Common.{◌≡◌, ◌<◌, ◌≤◌, ◌+◌, ◌-◌, ◌/◌, ℕ, get_or, length, true}
use Rattle.syntect_grammar_lists.specs.syntect_pattern_table.Starts.{is_in}
use Rattle.syntect_grammar_lists.specs.Rows.{KeepsBits, bit_of}
use Rattle.syntect_grammar_lists.specs.Sides.{first_row, places_on}
use Rattle.syntect_grammar_lists.specs.declared.flats.Flat.{Flat}
use Rattle.syntect_grammar_lists.proofs.rows.mark_side.Given as goal

abbrev pub invariant-loop-word : goal.invariant-loop-word
invariant-loop-word l = record {
  few : l.word ≤ 1024;
  marks : (x k : ℕ) (d : Flat) → x < 130 → k < length l.flats → k / 64 < l.word → is_in (places_on l.side (get_or l.flats k d)) x ≡ true
      → bit_of l.rows.items l.words (first_row l.side + x) k ≡ true;
  others : KeepsBits l.fn.rows.items l.rows.items;
}

abbrev pub decreases-loop-word : goal.decreases-loop-word
decreases-loop-word l = 1024 - l.word
