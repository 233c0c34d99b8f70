use Rattle.std.proofs.Common.{◌≡◌, ◌<◌, length, ◌+◌, take}
use Rattle.syntect_blocks.specs.Joined.{joined}
use Rattle.syntect_blocks.proofs.blocks.gap_of.Given as goal

abbrev pub invariant-loop-block : goal.invariant-loop-block
invariant-loop-block g l = record {
  passed : length (joined (take l.block l.blocks)) + l.rest ≡ l.index;
  left : 0 < l.block → 0 < l.rest;
}
