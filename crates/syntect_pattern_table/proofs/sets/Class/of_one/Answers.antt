use Rattle.std.proofs.Common.{[], arith}
use Rattle.syntect_pattern_table.specs.SetTable.{sets}
use Rattle.syntect_pattern_table.proofs.sets.Class.of_one.Goals as goal

pub invariant_of-body-clause-flagged : goal.invariant_of-body-clause-flagged
unfolding sets
invariant_of-body-clause-flagged c x l = c.bits_of.ensures [] x l (λ k d h. absurd (omega (arith, h)))
