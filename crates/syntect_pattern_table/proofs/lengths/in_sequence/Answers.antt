use Rattle.std.proofs.Common.{arith}
use Rattle.syntect_pattern_table.proofs.LengthLaws.{lengths-seq}
use Rattle.syntect_pattern_table.proofs.lengths.in_sequence.Goals as goal

pub returns : goal.returns
returns c = λ t u p q. lengths-seq _ _ t u _ (omega (arith, c.saturating_add.ensures)) c.sum.ensures p q
