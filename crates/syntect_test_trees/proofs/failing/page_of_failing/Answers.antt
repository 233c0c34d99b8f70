use Rattle.std.specs.Prelude.{None}
use Rattle.syntect_test_trees.proofs.FailingLaws.{faults_of}
use Rattle.syntect_test_trees.proofs.failing.page_of_failing.Goals as goal

pub returns : goal.returns
returns c = λ definitions b.
    faults_of _ c.args.set.now c.args.syntax.now None _ (c.highlighted_html_for_reader.ensures.refused definitions b)
