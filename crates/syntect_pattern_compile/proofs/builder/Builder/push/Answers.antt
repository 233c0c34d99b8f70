use Rattle.syntect_pattern_table.proofs.BuilderLaws.{Grows-push, Holds-push}
use Rattle.syntect_pattern_compile.proofs.builder.Builder.push.Goals as goal

pub returns-clause-grows : goal.returns-clause-grows
returns-clause-grows c = Grows-push c.args.self.now.nodes c.push.new.self c.args.node c.in_ok-push.ensures.ok

pub returns-clause-holds : goal.returns-clause-holds
returns-clause-holds c = Holds-push c.args.self.now.nodes c.push.new.self c.args.node c.len-place.result c.in_ok-push.ensures.ok c.len-place.ensures
