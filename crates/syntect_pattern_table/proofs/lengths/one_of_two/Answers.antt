use Rattle.std.proofs.Common.{arith}
use Rattle.syntect_pattern_table.proofs.LengthLaws.{lengths-alt}
use Rattle.syntect_pattern_table.proofs.lengths.one_of_two.Goals as goal

pub returns : goal.returns
returns c = λ t u p q. lengths-alt _ _ t u _ (omega (arith, c.min.ensures)) (omega (arith, c.min.ensures)) c.greater.ensures p q
