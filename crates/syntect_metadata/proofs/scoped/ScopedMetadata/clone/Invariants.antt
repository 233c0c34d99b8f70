use Rattle.std.proofs.Common.{◌≡◌, take}
use Rattle.syntect_metadata.proofs.scoped.ScopedMetadata.clone.Given as goal

abbrev pub invariant-loop-power : goal.invariant-loop-power
invariant-loop-power l = l.items ≡ take l.power-index l.power-items
