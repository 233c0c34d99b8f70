use Rattle.std.specs.Path.{path_bytes}
use Rattle.syntect_grammar_limits.specs.syntect_grammar_loader.LoadingSteps.{KeepsAtoms}
use Rattle.syntect_shelf.proofs.ShelvingLaws.{Added}
use Rattle.syntect_shelf.proofs.shelf_builder.ShelfBuilder.add_from_folder.Given as goal

abbrev pub invariant-files : goal.invariant-files
invariant-files g l = record {
  added : Added (g.T.Tree.told l.tree) (path_bytes l.folder) l.fn.repository l.fn.self l.walk l.room l.repository l.self;
  kept : KeepsAtoms l.fn.repository l.repository;
}

abbrev pub decreases-files : goal.decreases-files
decreases-files g l = l.walk.left
