use Rattle.std.proofs.Common.{arith}
use Rattle.syntect_blocks.proofs.Gaps.{gap_here}
use Rattle.syntect_blocks.proofs.blocks.gap_of.Goals as goal

pub returns-then-rest-len : goal.returns-then-rest-len
returns-then-rest-len g c =
    gap_here c.args.blocks.now c.loop-block.block c.index-blocks-block.result c.args.index c.loop-block.rest (omega arith) c.index-blocks-block.is c.loop-block.invariant.passed
    (omega (arith, c.index-blocks-block.result.ok.0))
