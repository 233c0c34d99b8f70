use Rattle.syntect_pattern_table.proofs.SetLaws.{grows-push, has-push}
use Rattle.syntect_pattern_compile.proofs.classes.SetBuilder.push.Goals as goal

pub returns-clause-grows : goal.returns-clause-grows
returns-clause-grows c = grows-push c.args.self.now.parts c.push.new.self c.args.part c.in_ok-push.ensures.ok

pub returns-clause-has : goal.returns-clause-has
returns-clause-has c = has-push c.args.self.now.parts c.push.new.self c.args.part c.len-place.result c.in_ok-push.ensures.ok c.len-place.ensures
