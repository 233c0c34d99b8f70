use Rattle.std.proofs.Common.{◌≡◌, ◌<◌, ℕ, get_or, length, true, false}
use Rattle.syntect_grammar_lists.specs.Rows.{KeepsBits, bit_of}
use Rattle.syntect_grammar_lists.specs.declared.flats.Flat.{Flat}
use Rattle.syntect_grammar_lists.proofs.rows.mark_lines.Given as goal

abbrev pub invariant-loop-index : goal.invariant-loop-index
invariant-loop-index l = record {
  marks : (k : ℕ) (d : Flat) → k < l.index → k < length l.flats → (get_or l.flats k d).at_lines ≡ false → bit_of l.rows.items l.words 131 k ≡ true;
  others : KeepsBits l.fn.rows.items l.rows.items;
}
