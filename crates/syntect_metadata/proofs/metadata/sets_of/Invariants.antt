use Rattle.std.proofs.Common.{◌≡◌, map}
use Rattle.syntect_metadata.proofs.metadata.sets_of.Given as goal

abbrev pub invariant-loop-text : goal.invariant-loop-text
invariant-loop-text l = l.sets ≡ map (λ entry. entry.1) l.yielded
