use Rattle.std.proofs.Common.{◌≡◌, length}
use Rattle.syntect_assets.proofs.builder.AssetsBuilder.add_grammars_that_load.Given as goal

-- a file that was passed over is told in a line
abbrev pub invariant-loop-file : goal.invariant-loop-file
invariant-loop-file g l = length l.told.items ≡ l.file-index
