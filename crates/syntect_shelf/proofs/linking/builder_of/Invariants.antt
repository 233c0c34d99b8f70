use Rattle.std.proofs.Common.{◌≡◌, ◌++◌, [], length}
use Rattle.syntect_grammar.specs.Link.{definitions_in, paths_in}
use Rattle.syntect_grammar.specs.Metadata.{entries_in, kept_sets}
use Rattle.syntect_shelf.specs.Gathering.{paths_from}
use Rattle.syntect_shelf.proofs.linking.builder_of.Given as goal

abbrev pub invariant-loop-definition : goal.invariant-loop-definition
invariant-loop-definition l = record {
  definitions : definitions_in l.builder ++ l.definition-iterator.a.rest.items ≡ l.fn.definitions.items;
  paths : paths_in l.builder ++ paths_from (length (definitions_in l.builder)) l.definition-iterator.b.rest.now ≡ paths_from 0 l.grammars;
  as_many : length l.definition-iterator.a.rest.items ≡ length l.definition-iterator.b.rest.now;
  entries : entries_in l.builder ≡ [];
  metadata : kept_sets l.builder ≡ [];
}
