use Rattle.syntect_pattern_steps.proofs.BoundaryLaws.{boundary-test}
use Rattle.syntect_pattern_steps.proofs.text.is_boundary.Goals as goal

pub returns-clause-value : goal.returns-clause-value
returns-clause-value c = boundary-test c.args.text.now c.args.place c.is_char_boundary.result c.is_char_boundary.ensures.test
