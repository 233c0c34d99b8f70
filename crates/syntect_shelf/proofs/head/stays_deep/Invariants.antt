use Rattle.std.proofs.Common.{length}
use Rattle.syntect_shelf.specs.Heads.{StaysDeep}
use Rattle.syntect_shelf.proofs.head.stays_deep.Given as goal

abbrev pub invariant-lines : goal.invariant-lines
invariant-lines l = StaysDeep l.rest → StaysDeep l.text

abbrev pub decreases-lines : goal.decreases-lines
decreases-lines l = length l.rest
