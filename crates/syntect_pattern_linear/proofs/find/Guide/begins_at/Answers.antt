use Rattle.std.proofs.Common.{arith}
use Rattle.syntect_pattern_linear.proofs.FindLaws.{found_at-between}
use Rattle.syntect_pattern_plan.proofs.SightLaws.{false-bound}
use Rattle.syntect_pattern_linear.proofs.find.Guide.begins_at.Goals as goal

pub returns-then-place-text-clause-finds : goal.returns-then-place-text-clause-finds
returns-then-place-text-clause-finds c = λ tree h. found_at-between c.args.text.now tree c.args.place (false-bound c.args.text.now c.args.place (omega arith))
