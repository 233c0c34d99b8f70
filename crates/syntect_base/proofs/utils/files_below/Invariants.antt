use Rattle.std.specs.Path.{path_bytes}
use Rattle.syntect_base.specs.Walks.{IsWalkSoFar}
use Rattle.syntect_base.specs.declared.utils.Sought.TheVariants.{Themes}
use Rattle.syntect_base.proofs.utils.files_below.Given as goal

abbrev pub invariant-files : goal.invariant-files
invariant-files g l = record {
  walk : IsWalkSoFar (g.T.Tree.told l.tree) Themes (path_bytes l.folder) l.found l.walk;
}

abbrev pub decreases-files : goal.decreases-files
decreases-files g l = l.walk.left
