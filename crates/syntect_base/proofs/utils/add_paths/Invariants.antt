use Rattle.std.proofs.Common.{◌≡◌, ◌++◌, map, reverse}
use Rattle.syntect_base.specs.Walks.{joined}
use Rattle.syntect_base.proofs.utils.add_paths.Given as goal

abbrev pub invariant-loop-name : goal.invariant-loop-name
invariant-loop-name l = record {
  rest : l.paths ++ reverse (map (joined l.folder) l.name-iterator.iter.rest.now) ≡ l.fn.paths ++ reverse (map (joined l.folder) l.names);
}
