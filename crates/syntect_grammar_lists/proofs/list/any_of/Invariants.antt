use Rattle.std.proofs.Common.{◌≡◌, ◌<◌, ℕ, get_or, false}
use Rattle.syntect_grammar_lists.specs.syntect_pattern_table.Starts.{is_in}
use Rattle.syntect_grammar_lists.specs.declared.flats.Flat.{Flat}
use Rattle.syntect_grammar_lists.proofs.list.any_of.Given as goal

abbrev pub invariant-loop-flat : goal.invariant-loop-flat
invariant-loop-flat l = (x k : ℕ) (d : Flat) → x < 130 → k < l.flat-index → is_in l.any x ≡ false → is_in (get_or l.flats k d).begins x ≡ false
