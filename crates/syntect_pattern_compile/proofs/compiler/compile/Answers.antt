use Rattle.std.proofs.Common.{ap, subst, ◌∙◌}
use Rattle.std.specs.Prelude.{IfSome}
use Rattle.syntect_pattern_table.specs.Builder.{tree_in}
use Rattle.syntect_pattern_compile.specs.Compiled.{CountsGroups, tree_read}
use Rattle.syntect_pattern_compile.proofs.compiler.compile.Goals as goal

pub returns-in_default : goal.returns-in_default
returns-in_default c = c.in_ok-reader.ensures.reads ∙ ap tree_read c.in_default.is

pub returns : goal.returns
returns c = record {
  tree = tree_in c.in-Some.reader.builder.nodes c.in-Some.body;
  reads = c.in_ok-reader.ensures.reads ∙ ap tree_read c.in-Some.is;
  program = c.in_ok-program.ensures (subst (λ f. IfSome f CountsGroups) c.in-Some.is c.in_ok-reader.ensures.groups);
}
