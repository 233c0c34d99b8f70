use Rattle.std.proofs.Common.{length}
use Rattle.syntect_pattern_compile.proofs.JoinLaws.{Chains}
use Rattle.syntect_pattern_compile.proofs.builder.Builder.sequence.Given as goal

abbrev pub invariant-loop-item : goal.invariant-loop-item
invariant-loop-item l = Chains l.fn.self.nodes l.fn.items l.self.nodes l.items l.end

abbrev pub decreases-loop-item : goal.decreases-loop-item
decreases-loop-item l = length l.items
