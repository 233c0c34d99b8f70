use Rattle.std.proofs.Common.{refl}
use Rattle.syntect_grammar_rewrite.proofs.OpenLaws.{open_fewer}
use Rattle.syntect_grammar_rewrite.proofs.expand.leave.Goals as goal

pub returns-clause-marked : goal.returns-clause-marked
returns-clause-marked c =
    open_fewer c.args.marks.now c.mark.new.marks c.args.frames.now.items c.pop.new.self.items c.in-Some.frame c.in_ok-clone.field-0 c.requires c.in-Some.ensures.items c.in_ok-clone.ensures.cases (c.in_ok-mark.ensures refl)
