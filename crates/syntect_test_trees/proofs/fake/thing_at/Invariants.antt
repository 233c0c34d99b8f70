use Rattle.std.proofs.Common.{◌≡◌, drop}
use Rattle.syntect_test_trees.specs.Fakes.{thing_at}
use Rattle.syntect_test_trees.proofs.fake.thing_at.Given as goal

-- what was passed over is of other paths
abbrev pub invariant-loop-entry : goal.invariant-loop-entry
invariant-loop-entry l = record {
  rest : thing_at l.path (drop l.entry-index l.entries) ≡ thing_at l.path l.entries;
}
