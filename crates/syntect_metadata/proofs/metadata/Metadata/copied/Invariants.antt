use Rattle.std.proofs.Common.{◌≡◌, take}
use Rattle.syntect_metadata.proofs.metadata.Metadata.copied.Given as goal

abbrev pub invariant-loop-set : goal.invariant-loop-set
invariant-loop-set l = l.sets ≡ take l.set-index l.set-items
