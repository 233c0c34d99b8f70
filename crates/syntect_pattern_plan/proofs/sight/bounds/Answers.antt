use Rattle.std.proofs.Common.{arith}
use Rattle.syntect_pattern_plan.proofs.SightLaws.{bounds-all}
use Rattle.syntect_pattern_plan.proofs.sight.bounds.Goals as goal

pub returns : goal.returns
returns c = bounds-all c.args.text.now c.loop-place.row.items (omega (arith, c.loop-place.invariant.count)) (λ j l. c.loop-place.invariant.right j (omega (arith, l)))
