use Rattle.std.proofs.Common.{◌+◌}
use Rattle.syntect_pattern_seek.proofs.ProspectLaws.{none_from}
use Rattle.syntect_pattern_seek.proofs.prospect.Prospect.is_left.Goals as goal

pub returns-clause-none : goal.returns-clause-none
returns-clause-none c = λ f pattern is.
    none_from c.args.text.now pattern c.args.program.now is c.args.place (c.args.place + 1) (c.may_begin_from.ensures c.if-may_begin_from.false)

pub returns-clause-known : goal.returns-clause-known
returns-clause-known c = λ pattern is old.
    none_from c.args.text.now pattern c.args.program.now is c.args.place _ (c.may_begin_from.ensures c.if-may_begin_from.false)
