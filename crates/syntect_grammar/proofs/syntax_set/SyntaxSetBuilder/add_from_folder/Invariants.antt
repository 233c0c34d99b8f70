use Rattle.std.specs.Path.{path_bytes}
use Rattle.syntect_grammar_loader.specs.LoadingSteps.{KeepsAtoms}
use Rattle.syntect_grammar.proofs.FolderLaws.{Added}
use Rattle.syntect_grammar.proofs.syntax_set.SyntaxSetBuilder.add_from_folder.Given as goal

abbrev pub invariant-files : goal.invariant-files
invariant-files g l = record {
  added : Added (g.T.Tree.told l.tree) l.lines_include_newline (path_bytes l.folder) l.fn.repository l.fn.self l.walk l.repository l.self;
  kept : KeepsAtoms l.fn.repository l.repository;
}

abbrev pub decreases-files : goal.decreases-files
decreases-files g l = l.walk.left
