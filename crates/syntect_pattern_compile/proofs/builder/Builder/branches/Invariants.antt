use Rattle.std.proofs.Common.{length}
use Rattle.syntect_pattern_compile.proofs.JoinLaws.{Links}
use Rattle.syntect_pattern_compile.proofs.builder.Builder.branches.Given as goal

abbrev pub invariant-loop-part : goal.invariant-loop-part
invariant-loop-part l = Links l.fn.self.nodes l.fn.parts l.self.nodes l.parts l.rest

abbrev pub decreases-loop-part : goal.decreases-loop-part
decreases-loop-part l = length l.parts
