use Rattle.syntect_parsing.specs.MatchViews.{live_of}
use Rattle.syntect_parsing.proofs.CapturedLaws.{captures_laid_out, captures_on_boundaries}
use Rattle.syntect_parsing.proofs.TakeLaws.{take_makes}
use Rattle.syntect_parsing.proofs.turn.take.Goals as goal

pub returns-clause-makes : goal.returns-clause-makes
returns-clause-makes c =
    take_makes c.args.taken.now.set.now c.args.taken.now.line.now c.args.p.now c.apply.new.p (live_of c.args.taken.now) c.args.ops.now.items c.emit.new.ops.items c.requires.from.stands
    (captures_laid_out c.dialect_lays_groups_out.ensures c.args.taken.now.line.now c.args.taken.now.text c.args.p.now.place (live_of c.args.taken.now) c.requires.from.found)
    (captures_on_boundaries c.dialect_lays_groups_out.ensures c.args.taken.now.line.now c.args.taken.now.text c.args.p.now.place (live_of c.args.taken.now) c.requires.from.found)
    c.in_ok-check_names.ensures.accepted (rw c.as_slice.ensures at c.in_ok-emit.ensures) c.in_ok-apply.ensures
