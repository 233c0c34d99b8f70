use Rattle.std.proofs.Common.{◌≡◌}
use Rattle.syntect_grammar.specs.Link.{definitions_in, paths_in}
use Rattle.syntect_shelf.proofs.LinkingLaws.{Goes}
use Rattle.syntect_shelf.proofs.linking.add_entries.Given as goal

abbrev pub invariant-loop-path : goal.invariant-loop-path
invariant-loop-path g l = record {
  goes : Goes (g.T.Tree.told l.tree) l.metadata l.path-index l.fn.builder l.builder;
  definitions : definitions_in l.builder ≡ definitions_in l.fn.builder;
  paths : paths_in l.builder ≡ paths_in l.fn.builder;
}
