use Rattle.syntect_pattern_linear.proofs.LeadLaws.{known-lead}
use Rattle.syntect_pattern_linear.proofs.lead.lead.Goals as goal

pub returns : goal.returns
returns c = known-lead c.args.ground.now c.args.place c.args.cell c.args.here.now c.known_at.result c.known_at.ensures c.requires
