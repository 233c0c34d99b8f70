use Rattle.syntect_pattern_backtrack.specs.syntect_pattern_table.Program.{trees_of}
use Rattle.syntect_pattern_backtrack.proofs.EndLaws.{fail-over, found-over, found-goes}
use Rattle.syntect_pattern_backtrack.proofs.state.Search.step.Goals as goal

pub returns-in-Fail-clause-over : goal.returns-in-Fail-clause-over
returns-in-Fail-clause-over c =
    fail-over c.args.text.now (trees_of c.args.program.now) c.back.result c.args.next c.args.self.now c.back.new.self c.in-Fail.is c.back.ensures.over

pub returns-in-Found-clause-over : goal.returns-in-Found-clause-over
returns-in-Found-clause-over c =
    found-over c.args.text.now (trees_of c.args.program.now) c.finish.result c.args.next c.args.self.now c.finish.new.self c.in-Found.is c.finish.ensures.whole

pub returns-in-Found-clause-goes : goal.returns-in-Found-clause-goes
returns-in-Found-clause-goes c =
    found-goes c.args.text.now (trees_of c.args.program.now) c.finish.result c.args.next c.args.self.now c.finish.new.self c.in-Found.is c.requires.fits c.finish.ensures.part c.finish.ensures.has_part
