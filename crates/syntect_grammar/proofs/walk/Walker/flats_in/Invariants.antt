use Rattle.std.proofs.Common.{◌≡◌, length}
use Rattle.syntect_grammar.specs.Contexts.{set_of}
use Rattle.syntect_grammar.specs.Flats.{AreListsOf}
use Rattle.syntect_grammar.proofs.walk.Walker.flats_in.Given as goal

abbrev pub invariant-loop-context_index : goal.invariant-loop-context_index
invariant-loop-context_index l = record {
  count : length l.lists.items ≡ l.context_index;
  flats : AreListsOf (set_of l.syntaxes) l.syntax_index l.lists.items;
}
