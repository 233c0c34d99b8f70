use Rattle.std.proofs.Common.{arith}
use Rattle.syntect_blocks.proofs.Gaps.{place_here}
use Rattle.syntect_blocks.proofs.blocks.place_of.Goals as goal

pub returns-then-rest-len : goal.returns-then-rest-len
returns-then-rest-len g c =
    place_here c.args.blocks.now c.loop-block.block c.index-blocks-block.result c.args.index c.loop-block.rest (omega arith) c.index-blocks-block.is c.loop-block.invariant
    (omega (arith, c.index-blocks-block.result.ok.0))
