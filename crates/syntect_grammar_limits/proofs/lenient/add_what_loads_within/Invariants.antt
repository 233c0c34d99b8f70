use Rattle.std.specs.Path.{path_bytes}
use Rattle.syntect_grammar_limits.specs.syntect_grammar_loader.LoadingSteps.{KeepsAtoms}
use Rattle.syntect_grammar_limits.proofs.LenientLaws.{AddedOf}
use Rattle.syntect_grammar_limits.proofs.lenient.add_what_loads_within.Given as goal

abbrev pub invariant-files : goal.invariant-files
invariant-files g l = record {
  added : AddedOf (g.T.Tree.told l.tree) l.loading.limits l.loading.lines_include_newline (path_bytes l.folder) l.fn.repository l.fn.builder l.walk l.passed l.room l.repository l.builder;
  kept : KeepsAtoms l.fn.repository l.repository;
}

abbrev pub decreases-files : goal.decreases-files
decreases-files g l = l.walk.left
