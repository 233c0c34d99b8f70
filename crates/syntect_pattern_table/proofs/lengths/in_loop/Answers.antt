use Rattle.std.proofs.Common.{arith}
use Rattle.syntect_pattern_table.proofs.LengthLaws.{lengths-repeat}
use Rattle.syntect_pattern_table.proofs.lengths.in_loop.Goals as goal

pub returns : goal.returns
returns c = λ t greedy p. lengths-repeat _ _ t greedy _ _ (omega (arith, c.saturating_mul.ensures)) c.product.ensures p
