use Rattle.std.proofs.Common.{◌≡◌, ◌<◌, ℕ, [], length, get_or}
use Rattle.syntect_grammar.specs.Contexts.{set_of}
use Rattle.syntect_grammar.specs.Flats.{AreListsOf}
use Rattle.syntect_grammar.proofs.walk.flat_table.Given as goal

abbrev pub invariant-loop-syntax_index : goal.invariant-loop-syntax_index
invariant-loop-syntax_index l = record {
  count : length l.table.items ≡ l.syntax_index;
  lists : (j : ℕ) → j < length l.table.items → AreListsOf (set_of l.syntaxes) j (get_or l.table.items j []);
}
