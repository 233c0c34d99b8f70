use Rattle.std.proofs.Common.{Some, None}
use Rattle.syntect_grammar_rewrite.proofs.OpenLaws.{mark_is}
use Rattle.syntect_grammar_rewrite.proofs.expand.is_open.Goals as goal

pub returns-in-Some : goal.returns-in-Some
returns-in-Some c = mark_is c.args.name.now c.args.marks.now c.get.result (Some c.in-Some.is_open) c.in-Some.is c.get.ensures

pub returns-in-None : goal.returns-in-None
returns-in-None c = mark_is c.args.name.now c.args.marks.now c.get.result None c.in-None.is c.get.ensures
